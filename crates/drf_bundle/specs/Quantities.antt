-- Amounts of scalars by label, in thousandths, in order of labels.
use Rattle.std.specs.Prelude.{ℕ, ◌+◌, ◌-◌, Bool, true, ◌&&◌, IsTrue, List, [], ◌∷◌, map, Option, Some, None, if◌then◌else◌, nat_lt, nat_le}
use Rattle.std.specs.List.{filter, list_all, list_any}
use Rattle.std.specs.Ordering.{nat_cmp, match_ordering}
use Rattle.std.specs.Cmp.Lexicographic.{slice_cmp}
use Rattle.drf_role.specs.Text.{same_text, text_below}
use Rattle.drf_bundle.specs.declared.quantities.Entry.{Entry}

-- the amount of a label, or 0 if it is not named
abbrev pub amount_of : List Entry → List ℕ → ℕ
amount_of [] label = 0
amount_of (e ∷ es) label = if same_text e.label label then e.amount else amount_of es label

-- the label is named, even if its amount is 0
abbrev pub is_named : List Entry → List ℕ → Bool
is_named entries label = list_any (λ e. same_text e.label label) entries

-- the amount of a label, if it is named
abbrev pub known_amount : List Entry → List ℕ → Option ℕ
known_amount entries label = if is_named entries label then Some (amount_of entries label) else None

-- the first list names each label of the second
abbrev pub names_all : List Entry → List Entry → Bool
names_all entries others = list_all (λ e. is_named entries e.label) others

-- the labels, in order
abbrev pub names_of : List Entry → List (List ℕ)
names_of entries = map (λ e. e.label) entries

-- each entry comes before all later ones
abbrev pub is_in_order : List Entry → Bool
is_in_order [] = true
is_in_order (e ∷ es) = list_all (λ f. text_below e.label f.label) es && is_in_order es

-- the entries with the amount of one label set
abbrev pub with_amount : List Entry → List ℕ → ℕ → List Entry
with_amount [] label amount = record { label = label; amount = amount } ∷ []
with_amount (e ∷ es) label amount = match_ordering (slice_cmp nat_cmp label e.label)
    (record { label = label; amount = amount } ∷ e ∷ es)
    (record { label = label; amount = amount } ∷ es)
    (e ∷ with_amount es label amount)

-- the sums of the amounts of both lists, label by label
abbrev pub plus : List Entry → List Entry → List Entry
plus entries [] = entries
plus entries (e ∷ es) = plus (with_amount entries e.label (amount_of entries e.label + e.amount)) es

-- the amounts of the first list, each reduced by that of its label in the second
abbrev pub minus : List Entry → List Entry → List Entry
minus entries others = map (λ e. record { label = e.label; amount = e.amount - amount_of others e.label }) entries

-- no amount in the second list is greater than that of its label in the first
abbrev pub covers : List Entry → List Entry → Bool
covers entries others = list_all (λ e. nat_le e.amount (amount_of entries e.label)) others

-- the entries whose amount is not 0
abbrev pub without_zeros : List Entry → List Entry
without_zeros entries = filter (λ e. nat_lt 0 e.amount) entries

-- the labels are in order, and no amount is 0
pub record HasNoZeros (entries : List Entry) : Type 0 where
  pub in_order : IsTrue (is_in_order entries)
  pub above_zero : IsTrue (list_all (λ e. nat_lt 0 e.amount) entries)
