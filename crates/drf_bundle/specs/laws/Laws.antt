-- Statements about amounts by label.
use Rattle.std.specs.Prelude.{◌≡◌, ℕ, ◌+◌, ◌-◌, ◌≤◌, ◌↔◌, ◌||◌, List, if◌then◌else◌, IsTrue}
use Rattle.drf_role.specs.Text.{same_text}
use Rattle.drf_bundle.specs.Quantities.{HasNoZeros, amount_of, is_named, is_in_order, with_amount, plus, minus, covers, without_zeros}
use Rattle.drf_bundle.specs.declared.quantities.Entry.{Entry}

-- setting an amount changes only that label
abbrev pub SetsOneAmount : Type 0
SetsOneAmount = (entries : List Entry) (label : List ℕ) (amount : ℕ) (other : List ℕ) → amount_of (with_amount entries label amount) other ≡ (if same_text label other then amount else amount_of entries other)

-- it names that label and no other
abbrev pub NamesOneLabel : Type 0
NamesOneLabel = (entries : List Entry) (label : List ℕ) (amount : ℕ) (other : List ℕ) → is_named (with_amount entries label amount) other ≡ (same_text label other || is_named entries other)

abbrev pub SettingKeepsOrder : Type 0
SettingKeepsOrder = (entries : List Entry) (label : List ℕ) (amount : ℕ) → IsTrue (is_in_order entries) → IsTrue (is_in_order (with_amount entries label amount))

-- amounts add up label by label
abbrev pub AmountsAdd : Type 0
AmountsAdd = (a b : List Entry) (label : List ℕ) → IsTrue (is_in_order b) → amount_of (plus a b) label ≡ amount_of a label + amount_of b label

-- a sum names the labels of both lists
abbrev pub SumNamesBoth : Type 0
SumNamesBoth = (a b : List Entry) (label : List ℕ) → is_named (plus a b) label ≡ (is_named a label || is_named b label)

abbrev pub AddingKeepsOrder : Type 0
AddingKeepsOrder = (a b : List Entry) → IsTrue (is_in_order a) → IsTrue (is_in_order (plus a b))

abbrev pub SumHasNoZeros : Type 0
SumHasNoZeros = (a b : List Entry) → HasNoZeros a → HasNoZeros b → HasNoZeros (plus a b)

abbrev pub AddingCommutes : Type 0
AddingCommutes = (a b : List Entry) → HasNoZeros a → HasNoZeros b → plus a b ≡ plus b a

abbrev pub AddingAssociates : Type 0
AddingAssociates = (a b c : List Entry) → HasNoZeros a → HasNoZeros b → HasNoZeros c → plus (plus a b) c ≡ plus a (plus b c)

-- each amount is reduced by that of the same label, and not below 0
abbrev pub AmountsFall : Type 0
AmountsFall = (a b : List Entry) (label : List ℕ) → amount_of (minus a b) label ≡ amount_of a label - amount_of b label

-- a label whose amount becomes 0 stays named
abbrev pub NamesStay : Type 0
NamesStay = (a b : List Entry) (label : List ℕ) → is_named (minus a b) label ≡ is_named a label

abbrev pub LoweringKeepsOrder : Type 0
LoweringKeepsOrder = (a b : List Entry) → IsTrue (is_in_order a) → IsTrue (is_in_order (minus a b))

-- removing zeros changes no amount
abbrev pub ZerosCountNothing : Type 0
ZerosCountNothing = (entries : List Entry) (label : List ℕ) → IsTrue (is_in_order entries) → amount_of (without_zeros entries) label ≡ amount_of entries label

abbrev pub NoZerosAreLeft : Type 0
NoZerosAreLeft = (entries : List Entry) → IsTrue (is_in_order entries) → HasNoZeros (without_zeros entries)

-- a list covers another exactly if none of the other's amounts is greater than its own
abbrev pub CoversByAmounts : Type 0
CoversByAmounts = (a b : List Entry) → IsTrue (is_in_order b) → IsTrue (covers a b) ↔ ((label : List ℕ) → amount_of b label ≤ amount_of a label)

-- two lists without zeros and with the same amounts are equal
abbrev pub KnownByAmounts : Type 0
KnownByAmounts = (a b : List Entry) → HasNoZeros a → HasNoZeros b → ((label : List ℕ) → amount_of a label ≡ amount_of b label) → a ≡ b
