-- Theorems about amounts by label, for the crates above: what each operation does to each amount, and what keeps the
-- order.
use Rattle.std.specs.Prelude.{◌≡◌, ℕ, ◌+◌, ◌-◌, ◌<◌, ◌≤◌, ◌&&◌, ◌||◌, Bool, true, false, List, [], ◌∷◌, length, filter, not, IsTrue, if◌then◌else◌, nat_lt, nat_le}
use Rattle.std.specs.List.{list_all}
use Rattle.std.proofs.Common.{refl, sym, ap, ◌∙◌, subst, inl, inr, cond, arith}
use Rattle.std.proofs.lemmas.Bool.{false≢true, cases_Bool, and_parts, and_from, leb-true, le-leb, ltb-true, lt-ltb}
use Rattle.std.proofs.lemmas.Bool.Decides.{nat_tests}
use Rattle.drf_role.specs.Text.{same_text, text_below}
use Rattle.drf_role.specs.TextLaws.{same_itself, same_from_test, test_from_same, cases_cmp, same_from_cmp, below_from_cmp, above_from_cmp, below_trans}
use Rattle.drf_role.proofs.TextLaws.{cases_same, below_other, above_other}
use Rattle.drf_bundle.specs.Quantities.{HasNoZeros, amount_of, is_named, is_in_order, with_amount, plus, minus, covers, without_zeros}
use Rattle.drf_bundle.specs.declared.quantities.Entry.{Entry}

-- the label comes before that of each entry
abbrev pub stands_first : List ℕ → List Entry → Bool
stands_first label entries = list_all (λ f. text_below label f.label) entries

-- ---- a label that no entry has

pub first_trans : (a b : List ℕ) (es : List Entry) → IsTrue (text_below a b) → IsTrue (stands_first b es) → IsTrue (stands_first a es)
first_trans a b [] below first = refl
first_trans a b (e ∷ es) below first =
    let parts = and_parts (text_below b e.label) (stands_first b es) first in
    and_from _ _ (below_trans a b e.label below parts.0) (first_trans a b es below parts.1)

pub amount_first : (label : List ℕ) (es : List Entry) → IsTrue (stands_first label es) → amount_of es label ≡ 0
amount_first label [] first = refl
amount_first label (e ∷ es) first =
    let parts = and_parts (text_below label e.label) (stands_first label es) first in
    rw (above_other label e.label parts.0) (amount_first label es parts.1)

-- the amount of the first entry's label is its own
pub amount_head : (e : Entry) (es : List Entry) → amount_of (e ∷ es) e.label ≡ e.amount
amount_head e es = rw (same_itself e.label)

-- ---- one amount is set

tests_apart : (s t : Bool) (a x y : ℕ) → (s ≡ true → t ≡ false) → cond t x (cond s a y) ≡ cond s a (cond t x y)
tests_apart true true a x y apart = absurd (false≢true (sym (apart refl)))
tests_apart true false a x y apart = refl
tests_apart false true a x y apart = refl
tests_apart false false a x y apart = refl

test_twice : (s : Bool) (a x y : ℕ) → cond s a y ≡ cond s a (cond s x y)
test_twice true a x y = refl
test_twice false a x y = refl

pub amount-with : (es : List Entry) (label : List ℕ) (a : ℕ) (n : List ℕ) → amount_of (with_amount es label a) n ≡ (if same_text label n then a else amount_of es n)
amount-with [] label a n = refl
amount-with (e ∷ es) label a n = elim (cases_cmp label e.label) [
  | inl less ↦ rw less
  | inr (inl equal) ↦ rw equal (rw (same_from_cmp label e.label equal) (test_twice (same_text e.label n) a e.amount (amount_of es n)))
  | inr (inr greater) ↦ rw greater (
      rw (amount-with es label a n)
      (tests_apart (same_text label n) (same_text e.label n) a e.amount (amount_of es n)
      (λ same. subst (λ (t : List ℕ). same_text e.label t ≡ false) (same_from_test label n same) (below_other e.label label (above_from_cmp label e.label greater)))))
]

-- a label that comes before all others and before the one that is set, still does so afterwards
pub first-with : (es : List Entry) (label : List ℕ) (a : ℕ) (n : List ℕ) → IsTrue (text_below n label) → IsTrue (stands_first n es) → IsTrue (stands_first n (with_amount es label a))
first-with [] label a n below first = and_from _ _ below refl
first-with (e ∷ es) label a n below first =
    let parts = and_parts (text_below n e.label) (stands_first n es) first in
    elim (cases_cmp label e.label) [
      | inl less ↦ rw less (and_from _ _ below first)
      | inr (inl equal) ↦ rw equal (and_from _ _ below parts.1)
      | inr (inr greater) ↦ rw greater (and_from _ _ parts.0 (first-with es label a n below parts.1))
    ]

pub in_order-with : (es : List Entry) (label : List ℕ) (a : ℕ) → IsTrue (is_in_order es) → IsTrue (is_in_order (with_amount es label a))
in_order-with [] label a ordered = refl
in_order-with (e ∷ es) label a ordered =
    let parts = and_parts (stands_first e.label es) (is_in_order es) ordered in
    elim (cases_cmp label e.label) [
      | inl less ↦
          let below = below_from_cmp label e.label less in
          rw less (and_from _ _ (and_from _ _ below (first_trans label e.label es below parts.0)) ordered)
      | inr (inl equal) ↦ rw equal (and_from _ _ (subst (λ (t : List ℕ). IsTrue (stands_first t es)) (sym (same_from_cmp label e.label equal)) parts.0) parts.1)
      | inr (inr greater) ↦ rw greater (and_from _ _ (first-with es label a e.label (above_from_cmp label e.label greater) parts.0) (in_order-with es label a parts.1))
    ]

-- ---- the sum of two lists

pub amount-plus : (a b : List Entry) (n : List ℕ) → IsTrue (is_in_order b) → amount_of (plus a b) n ≡ amount_of a n + amount_of b n
amount-plus a [] n ordered = omega arith
amount-plus a (e ∷ es) n ordered =
    let parts = and_parts (stands_first e.label es) (is_in_order es) ordered in
    let more = amount-plus (with_amount a e.label (amount_of a e.label + e.amount)) es n parts.1 in
    elim (cases_same e.label n) [
      | inl same ↦
          let none : amount_of es n ≡ 0 = subst (λ (t : List ℕ). amount_of es t ≡ 0) same.1 (amount_first e.label es parts.0) in
          let here : amount_of (with_amount a e.label (amount_of a e.label + e.amount)) n ≡ amount_of a n + e.amount = rw (amount-with a e.label (amount_of a e.label + e.amount) n) (rw (same.0, same.1)) in
          rw same.0 (omega (arith, more))
      | inr other ↦
          let here : amount_of (with_amount a e.label (amount_of a e.label + e.amount)) n ≡ amount_of a n = rw (amount-with a e.label (amount_of a e.label + e.amount) n) (rw (other.0)) in
          rw other.0 (omega (arith, more))
    ]

pub in_order-plus : (a b : List Entry) → IsTrue (is_in_order a) → IsTrue (is_in_order (plus a b))
in_order-plus a [] ordered = ordered
in_order-plus a (e ∷ es) ordered = in_order-plus (with_amount a e.label (amount_of a e.label + e.amount)) es (in_order-with a e.label (amount_of a e.label + e.amount) ordered)

-- ---- the difference

pub amount-minus : (a b : List Entry) (n : List ℕ) → amount_of (minus a b) n ≡ amount_of a n - amount_of b n
amount-minus [] b n = omega arith
amount-minus (e ∷ es) b n = elim (cases_same e.label n) [
  | inl same ↦ rw same.0 (ap (λ (t : List ℕ). e.amount - amount_of b t) same.1)
  | inr other ↦ rw other.0 (amount-minus es b n)
]

pub first-minus : (a b : List Entry) (n : List ℕ) → stands_first n (minus a b) ≡ stands_first n a
first-minus [] b n = refl
first-minus (e ∷ es) b n = ap (λ (t : Bool). text_below n e.label && t) (first-minus es b n)

pub in_order-minus : (a b : List Entry) → is_in_order (minus a b) ≡ is_in_order a
in_order-minus [] b = refl
in_order-minus (e ∷ es) b = rw (first-minus es b e.label) (ap (λ (t : Bool). stands_first e.label es && t) (in_order-minus es b))

-- ---- removing zeros

pub first-without_zeros : (es : List Entry) (n : List ℕ) → IsTrue (stands_first n es) → IsTrue (stands_first n (without_zeros es))
first-without_zeros [] n first = refl
first-without_zeros (e ∷ es) n first =
    let parts = and_parts (text_below n e.label) (stands_first n es) first in
    elim (cases_Bool (nat_lt 0 e.amount)) [
      | inl some ↦ rw some (and_from _ _ parts.0 (first-without_zeros es n parts.1))
      | inr none ↦ rw none (first-without_zeros es n parts.1)
    ]

pub in_order-without_zeros : (es : List Entry) → IsTrue (is_in_order es) → IsTrue (is_in_order (without_zeros es))
in_order-without_zeros [] ordered = refl
in_order-without_zeros (e ∷ es) ordered =
    let parts = and_parts (stands_first e.label es) (is_in_order es) ordered in
    elim (cases_Bool (nat_lt 0 e.amount)) [
      | inl some ↦ rw some (and_from _ _ (first-without_zeros es e.label parts.0) (in_order-without_zeros es parts.1))
      | inr none ↦ rw none (in_order-without_zeros es parts.1)
    ]

pub amount-without_zeros : (es : List Entry) (n : List ℕ) → IsTrue (is_in_order es) → amount_of (without_zeros es) n ≡ amount_of es n
amount-without_zeros [] n ordered = refl
amount-without_zeros (e ∷ es) n ordered =
    let parts = and_parts (stands_first e.label es) (is_in_order es) ordered in
    let more = amount-without_zeros es n parts.1 in
    elim (cases_Bool (nat_lt 0 e.amount)) [
      | inl some ↦ rw some (ap (λ (t : ℕ). cond (same_text e.label n) e.amount t) more)
      | inr none ↦ rw none (elim (cases_same e.label n) [
        | inl same ↦
            let gone : amount_of es n ≡ 0 = subst (λ (t : List ℕ). amount_of es t ≡ 0) same.1 (amount_first e.label es parts.0) in
            let zero_here : e.amount ≡ 0 = grind (arith, nat_tests, none) in
            rw same.0 (omega (arith, more))
        | inr other ↦ rw other.0 more
      ])
    ]

-- ---- one list covers another

pub covers_at : (a b : List Entry) → IsTrue (covers a b) → (n : List ℕ) → amount_of b n ≤ amount_of a n
covers_at a [] all n = omega arith
covers_at a (e ∷ es) all n =
    let parts = and_parts (nat_le e.amount (amount_of a e.label)) (covers a es) all in
    elim (cases_same e.label n) [
      | inl same ↦ rw same.0 (subst (λ (t : List ℕ). e.amount ≤ amount_of a t) same.1 (leb-true _ _ parts.0))
      | inr other ↦ rw other.0 (covers_at a es parts.1 n)
    ]

pub covers_from : (a b : List Entry) → IsTrue (is_in_order b) → ((n : List ℕ) → amount_of b n ≤ amount_of a n) → IsTrue (covers a b)
covers_from a [] ordered below = refl
covers_from a (e ∷ es) ordered below =
    let parts = and_parts (stands_first e.label es) (is_in_order es) ordered in
    let tail : (n : List ℕ) → amount_of es n ≤ amount_of a n = λ n.
    elim (cases_same e.label n) [
      | inl same ↦
          let none : amount_of es n ≡ 0 = subst (λ (t : List ℕ). amount_of es t ≡ 0) same.1 (amount_first e.label es parts.0) in
          omega arith
      | inr other ↦ rw (other.0) at (below n)
    ] in
    and_from _ _ (le-leb _ _ (rw (amount_head e es) at (below e.label))) (covers_from a es parts.1 tail)

pub covers-plus : (a b : List Entry) → IsTrue (is_in_order b) → IsTrue (covers (plus a b) b)
covers-plus a b ordered = covers_from (plus a b) b ordered (λ n. omega (arith, amount-plus a b n ordered))

-- ---- lists without zeros

above_zero-without_zeros : (es : List Entry) → IsTrue (list_all (λ e. nat_lt 0 e.amount) (without_zeros es))
above_zero-without_zeros [] = refl
above_zero-without_zeros (e ∷ es) = elim (cases_Bool (nat_lt 0 e.amount)) [
  | inl some ↦ rw some (and_from _ _ some (above_zero-without_zeros es))
  | inr none ↦ rw none (above_zero-without_zeros es)
]

pub no_zeros-without_zeros : (es : List Entry) → IsTrue (is_in_order es) → HasNoZeros (without_zeros es)
no_zeros-without_zeros es ordered = record { in_order = in_order-without_zeros es ordered; above_zero = above_zero-without_zeros es }

pub no_zeros-empty : HasNoZeros []
no_zeros-empty = record { in_order = refl; above_zero = refl }

pub above_zero-with : (es : List Entry) (label : List ℕ) (a : ℕ) → 0 < a → IsTrue (list_all (λ e. nat_lt 0 e.amount) es) → IsTrue (list_all (λ e. nat_lt 0 e.amount) (with_amount es label a))
above_zero-with [] label a some all = and_from _ _ (lt-ltb 0 a some) refl
above_zero-with (e ∷ es) label a some all =
    let parts = and_parts (nat_lt 0 e.amount) (list_all (λ e. nat_lt 0 e.amount) es) all in
    elim (cases_cmp label e.label) [
      | inl less ↦ rw less (and_from _ _ (lt-ltb 0 a some) all)
      | inr (inl equal) ↦ rw equal (and_from _ _ (lt-ltb 0 a some) parts.1)
      | inr (inr greater) ↦ rw greater (and_from _ _ parts.0 (above_zero-with es label a some parts.1))
    ]

above_zero-plus : (a b : List Entry) → IsTrue (list_all (λ e. nat_lt 0 e.amount) a) → IsTrue (list_all (λ e. nat_lt 0 e.amount) b) → IsTrue (list_all (λ e. nat_lt 0 e.amount) (plus a b))
above_zero-plus a [] first second = first
above_zero-plus a (e ∷ es) first second =
    let parts = and_parts (nat_lt 0 e.amount) (list_all (λ e. nat_lt 0 e.amount) es) second in
    let some : 0 < e.amount = ltb-true 0 e.amount parts.0 in
    above_zero-plus (with_amount a e.label (amount_of a e.label + e.amount)) es (above_zero-with a e.label (amount_of a e.label + e.amount) (omega arith) first) parts.1

pub no_zeros-plus : (a b : List Entry) → HasNoZeros a → HasNoZeros b → HasNoZeros (plus a b)
no_zeros-plus a b first second = record { in_order = in_order-plus a b first.in_order; above_zero = above_zero-plus a b first.above_zero second.above_zero }

-- ---- a list without zeros is determined by its amounts

abbrev SameAmounts : List Entry → List Entry → Type 0
SameAmounts a b = (n : List ℕ) → amount_of a n ≡ amount_of b n

same_entry : (e f : Entry) → e.label ≡ f.label → e.amount ≡ f.amount → e ≡ f
same_entry e f label amount = λ i. record { label = label i; amount = amount i }

-- a list that begins with an amount greater than 0 has other amounts than one whose labels all come later
begins_apart : (e : Entry) (es fs : List Entry) → 0 < e.amount → IsTrue (stands_first e.label fs) → SameAmounts (e ∷ es) fs → ⊥
begins_apart e es fs some first same = omega (arith, same e.label, amount_head e es, amount_first e.label fs first)

same_tails : (e f : Entry) (es fs : List Entry) → e.label ≡ f.label → IsTrue (stands_first e.label es) → IsTrue (stands_first f.label fs) → SameAmounts (e ∷ es) (f ∷ fs) → SameAmounts es fs
same_tails e f es fs label first second same n = elim (cases_same e.label n) [
  | inl here ↦
      let left : amount_of es n ≡ 0 = subst (λ (t : List ℕ). amount_of es t ≡ 0) here.1 (amount_first e.label es first) in
      let right : amount_of fs n ≡ 0 = subst (λ (t : List ℕ). amount_of fs t ≡ 0) (sym label ∙ here.1) (amount_first f.label fs second) in
      cc
  | inr other ↦
      let other_f : same_text f.label n ≡ false = subst (λ (t : List ℕ). same_text t n ≡ false) label other.0 in
      rw (other.0, other_f) at (same n)
]

pub same_quantities : (a b : List Entry) → HasNoZeros a → HasNoZeros b → ((n : List ℕ) → amount_of a n ≡ amount_of b n) → a ≡ b
same_quantities [] [] first second same = refl
same_quantities [] (f ∷ fs) first second same =
    let some = and_parts (nat_lt 0 f.amount) (list_all (λ e. nat_lt 0 e.amount) fs) second.above_zero in
    absurd (begins_apart f fs [] (ltb-true 0 f.amount some.0) refl (λ n. sym (same n)))
same_quantities (e ∷ es) [] first second same =
    let some = and_parts (nat_lt 0 e.amount) (list_all (λ e. nat_lt 0 e.amount) es) first.above_zero in
    absurd (begins_apart e es [] (ltb-true 0 e.amount some.0) refl same)
same_quantities (e ∷ es) (f ∷ fs) first second same =
    let some_e = and_parts (nat_lt 0 e.amount) (list_all (λ e. nat_lt 0 e.amount) es) first.above_zero in
    let some_f = and_parts (nat_lt 0 f.amount) (list_all (λ e. nat_lt 0 e.amount) fs) second.above_zero in
    let order_e = and_parts (stands_first e.label es) (is_in_order es) first.in_order in
    let order_f = and_parts (stands_first f.label fs) (is_in_order fs) second.in_order in
    elim (cases_cmp e.label f.label) [
      | inl less ↦
          let below = below_from_cmp e.label f.label less in
          absurd (begins_apart e es (f ∷ fs) (ltb-true 0 e.amount some_e.0) (and_from _ _ below (first_trans e.label f.label fs below order_f.0)) same)
      | inr (inl equal) ↦
          let label = same_from_cmp e.label f.label equal in
          let amount : e.amount ≡ f.amount = sym (amount_head e es) ∙ same e.label ∙ subst (λ (t : List ℕ). amount_of (f ∷ fs) t ≡ f.amount) (sym label) (amount_head f fs) in
          let tails = same_quantities es fs (record { in_order = order_e.1; above_zero = some_e.1 }) (record { in_order = order_f.1; above_zero = some_f.1 }) (same_tails e f es fs label order_e.0 order_f.0 same) in
          let heads = same_entry e f label amount in
          λ i. heads i ∷ tails i
      | inr (inr greater) ↦
          let above = above_from_cmp e.label f.label greater in
          absurd (begins_apart f fs (e ∷ es) (ltb-true 0 f.amount some_f.0) (and_from _ _ above (first_trans f.label e.label es above order_e.0)) (λ n. sym (same n)))
    ]

pub plus_comm : (a b : List Entry) → HasNoZeros a → HasNoZeros b → plus a b ≡ plus b a
plus_comm a b first second = same_quantities (plus a b) (plus b a) (no_zeros-plus a b first second) (no_zeros-plus b a second first)
    (λ n. omega (arith, amount-plus a b n second.in_order, amount-plus b a n first.in_order))

pub plus_assoc : (a b c : List Entry) → HasNoZeros a → HasNoZeros b → HasNoZeros c → plus (plus a b) c ≡ plus a (plus b c)
plus_assoc a b c first second third =
    let prefix = no_zeros-plus a b first second in
    let back = no_zeros-plus b c second third in
    same_quantities (plus (plus a b) c) (plus a (plus b c)) (no_zeros-plus (plus a b) c prefix third) (no_zeros-plus a (plus b c) first back)
    (λ n. omega (arith, amount-plus (plus a b) c n third.in_order, amount-plus a b n second.in_order, amount-plus a (plus b c) n back.in_order, amount-plus b c n third.in_order))

-- ---- which labels are named

or_swap : (s t u : Bool) → (t || (s || u)) ≡ (s || (t || u))
or_swap true true u = refl
or_swap true false u = refl
or_swap false true u = refl
or_swap false false u = refl

or_same : (s u : Bool) → (s || u) ≡ (s || (s || u))
or_same true u = refl
or_same false u = refl

pub or_none : (s : Bool) → s ≡ (s || false)
or_none true = refl
or_none false = refl

pub named-with : (es : List Entry) (label : List ℕ) (a : ℕ) (n : List ℕ) → is_named (with_amount es label a) n ≡ (same_text label n || is_named es n)
named-with [] label a n = refl
named-with (e ∷ es) label a n = elim (cases_cmp label e.label) [
  | inl less ↦ rw less
  | inr (inl equal) ↦ rw equal (rw (same_from_cmp label e.label equal) (or_same (same_text e.label n) (is_named es n)))
  | inr (inr greater) ↦ rw greater (rw (named-with es label a n) (or_swap (same_text label n) (same_text e.label n) (is_named es n)))
]

pub named-plus : (a b : List Entry) (n : List ℕ) → is_named (plus a b) n ≡ (is_named a n || is_named b n)
named-plus a [] n = or_none (is_named a n)
named-plus a (e ∷ es) n =
    named-plus (with_amount a e.label (amount_of a e.label + e.amount)) es n
    ∙ rw (named-with a e.label (amount_of a e.label + e.amount) n) (or_turn (same_text e.label n) (is_named a n) (is_named es n))
  where
    or_turn : (s t u : Bool) → ((s || t) || u) ≡ (t || (s || u))
    or_turn true true u = refl
    or_turn true false u = refl
    or_turn false true u = refl
    or_turn false false u = refl

pub named-minus : (a b : List Entry) (n : List ℕ) → is_named (minus a b) n ≡ is_named a n
named-minus [] b n = refl
named-minus (e ∷ es) b n = ap (λ (t : Bool). same_text e.label n || t) (named-minus es b n)

-- ---- how many labels are named

unnamed_first : (label : List ℕ) (es : List Entry) → IsTrue (stands_first label es) → is_named es label ≡ false
unnamed_first label [] first = refl
unnamed_first label (e ∷ es) first =
    let parts = and_parts (text_below label e.label) (stands_first label es) first in
    rw (above_other label e.label parts.0) (unnamed_first label es parts.1)

-- one more label is named exactly if it was not named before
pub length-with : (es : List Entry) (label : List ℕ) (a : ℕ) → IsTrue (is_in_order es) → length (with_amount es label a) ≡ length es + cond (is_named es label) 0 1
length-with [] label a ordered = refl
length-with (e ∷ es) label a ordered =
    let parts = and_parts (stands_first e.label es) (is_in_order es) ordered in
    elim (cases_cmp label e.label) [
      | inl less ↦
          let below = below_from_cmp label e.label less in
          rw less (rw (above_other label e.label below, unnamed_first label es (first_trans label e.label es below parts.0)) (omega arith))
      | inr (inl equal) ↦ rw equal (rw (test_from_same e.label label (sym (same_from_cmp label e.label equal))) (omega arith))
      | inr (inr greater) ↦
          rw greater (rw (below_other e.label label (above_from_cmp label e.label greater)) (omega (arith, length-with es label a parts.1)))
    ]

-- the entries whose labels the first list does not name
abbrev pub unnamed_in : List Entry → List Entry → List Entry
unnamed_in es others = filter (λ e. not (is_named es e.label)) others

-- naming a label that comes before those of the others changes nothing for them
unnamed-with : (es others : List Entry) (label : List ℕ) (a : ℕ) → IsTrue (stands_first label others) → unnamed_in (with_amount es label a) others ≡ unnamed_in es others
unnamed-with es [] label a first = refl
unnamed-with es (f ∷ fs) label a first =
    let parts = and_parts (text_below label f.label) (stands_first label fs) first in
    rw (named-with es label a f.label, below_other label f.label parts.0, unnamed-with es fs label a parts.1)

-- the labels of a sum: those of the first list, and those that only the second one names
pub length-plus : (a b : List Entry) → IsTrue (is_in_order a) → IsTrue (is_in_order b) → length (plus a b) ≡ length a + length (unnamed_in a b)
length-plus a [] first second = omega arith
length-plus a (e ∷ es) first second =
    let x = amount_of a e.label + e.amount in
    let parts = and_parts (stands_first e.label es) (is_in_order es) second in
    let more = length-plus (with_amount a e.label x) es (in_order-with a e.label x first) parts.1 in
    let here = length-with a e.label x first in
    let others = ap length (unnamed-with a es e.label x parts.0) in
    elim (cases_Bool (is_named a e.label)) [
      | inl named ↦ rw named (omega (arith, more, others, rw named at here))
      | inr new ↦ rw new (omega (arith, more, others, rw new at here))
    ]
