-- Each row still has an amount above 0 after a change of one row.
use Rattle.std.specs.Prelude.{◌≡◌, ℕ, ◌+◌, nat_lt, Bool, true, false, ◌||◌, List, [], ◌∷◌, IfSome, IsTrue, Option, Some}
use Rattle.std.specs.List.{list_all, list_any}
use Rattle.std.specs.Map.{lookup, remove_entry, set_value}
use Rattle.std.proofs.Common.{refl, subst, inl, inr, cond, arith}
use Rattle.std.proofs.lemmas.Bool.{and_parts, cases_Bool, ltb-false, ltb-true}
use Rattle.std.proofs.lemmas.List.Elements.{All-cons, All-head, All-nil, All-tail}
use Rattle.std.proofs.lemmas.List.Sorted.{All-permutation}
use Rattle.std.proofs.lemmas.Map.Entries.{All-lookup}
use Rattle.indexmap.specs.IndexMap.{insert_entry, swap_remove_entry}
use Rattle.drf_role.specs.Text.{Text, same_text}
use Rattle.drf_role.specs.Path.{Path, same_path}
use Rattle.drf_bundle.specs.Quantities.{amount_of, is_in_order}
use Rattle.drf_bundle.proofs.theorems.QuantitiesLaws.{amount_head, stands_first}
use Rattle.drf_bundle.specs.declared.quantities.Entry.{Entry}
use Rattle.drf_gates.specs.quota.Allowance.{Usage, AreSome, IsSomething, one_entry}
use Rattle.drf_gates.proofs.quota.Swapped.{swapped}
use Rattle.drf_gates.proofs.quota.Total.{first_amount}

-- ---- amounts of which one is above 0

-- an amount that is not above 0 is 0
one_nothing : (label : Text) (amount : ℕ) → nat_lt 0 amount ≡ false → (other : Text) → amount_of (one_entry label amount) other ≡ 0
one_nothing label amount none other = by (same_text label other) (omega (arith, ltb-false 0 amount none))
  where
    by : (b : Bool) → amount ≡ 0 → cond b amount 0 ≡ 0
    by true zero = zero
    by false zero = refl

pub first_something : (e : Entry) (es : List Entry) → IsTrue (nat_lt 0 e.amount) → IsSomething (e ∷ es)
first_something e es above = record { label = e.label; above = omega (arith, ltb-true 0 e.amount above, amount_head e es) }

pub any_something : (es : List Entry) → IsTrue (is_in_order es) → list_any (λ e. nat_lt 0 e.amount) es ≡ true → IsSomething es
any_something [] ordered any = cc
any_something (e ∷ es) ordered any =
    by (nat_lt 0 e.amount) refl any (any_something es (and_parts (stands_first e.label es) (is_in_order es) ordered).1)
  where
    by : (b : Bool) → nat_lt 0 e.amount ≡ b → (b || list_any (λ (x : Entry). nat_lt 0 x.amount) es) ≡ true
        → (list_any (λ (x : Entry). nat_lt 0 x.amount) es ≡ true → IsSomething es) → IsSomething (e ∷ es)
    by true is any more = first_something e es is
    by false is any more =
        let its : IsSomething es = more any in
        record { label = its.label; above = omega (arith, its.above, first_amount e es ordered its.label) }

pub none_something : (es : List Entry) → IsTrue (is_in_order es) → list_any (λ e. nat_lt 0 e.amount) es ≡ false → (label : Text) → amount_of es label ≡ 0
none_something [] ordered none label = refl
none_something (e ∷ es) ordered none label =
    by (nat_lt 0 e.amount) refl none (λ more. none_something es (and_parts (stands_first e.label es) (is_in_order es) ordered).1 more label)
  where
    by : (b : Bool) → nat_lt 0 e.amount ≡ b → (b || list_any (λ (x : Entry). nat_lt 0 x.amount) es) ≡ false
        → (list_any (λ (x : Entry). nat_lt 0 x.amount) es ≡ false → amount_of es label ≡ 0) → amount_of (e ∷ es) label ≡ 0
    by true is none more = cc
    by false is none more = omega (arith, first_amount e es ordered label, one_nothing e.label e.amount is label, more none)

-- what remains after entries of 0 are dropped, if anything does
pub left_something : (es : List Entry) → IsTrue (list_all (λ e. nat_lt 0 e.amount) es) → (es ≡ [] → ⊥) → IsSomething es
left_something [] all some = absurd (some refl)
left_something (e ∷ es) all some = first_something e es (and_parts (nat_lt 0 e.amount) (list_all (λ (x : Entry). nat_lt 0 x.amount) es) all).0

pub more_something : (row amounts sum : List Entry) → ((label : Text) → amount_of sum label ≡ amount_of row label + amount_of amounts label)
    → IsSomething row → IsSomething sum
more_something row amounts sum is its = record { label = its.label; above = omega (arith, is its.label, its.above) }

pub added_something : (row amounts sum : List Entry) → ((label : Text) → amount_of sum label ≡ amount_of row label + amount_of amounts label)
    → IsSomething amounts → IsSomething sum
added_something row amounts sum is its = record { label = its.label; above = omega (arith, is its.label, its.above) }

-- ---- rows

abbrev One : Usage → Type 0
One u = IsSomething u.1

pub some_found : (test : Path → Bool) (us : List Usage) (row : List Entry) → lookup test us ≡ Some row → AreSome us → IsSomething row
some_found test us row found all =
    subst (λ (o : Option (List Entry)). IfSome o IsSomething) found (All-lookup IsSomething test us all)

pub some_set : (test : Path → Bool) (us : List Usage) (row : List Entry) → IsSomething row → AreSome us → AreSome (set_value test us row)
some_set test [] row its all = All-nil One
some_set test (u ∷ us) row its all = elim (cases_Bool (test u.0)) [
  | inl here ↦ rw here (All-cons One (u.0, row) us its (All-tail One u us all))
  | inr other ↦ rw other (All-cons One u (set_value test us row) (All-head One u us all) (some_set test us row its (All-tail One u us all)))
]

set_gone : (test : Path → Bool) (us : List Usage) (row : List Entry) → AreSome us → AreSome (remove_entry test (set_value test us row))
set_gone test [] row all = All-nil One
set_gone test (u ∷ us) row all = elim (cases_Bool (test u.0)) [
  | inl here ↦ rw (here, here) (All-tail One u us all)
  | inr other ↦ rw (other, other) (All-cons One u (remove_entry test (set_value test us row)) (All-head One u us all) (set_gone test us row (All-tail One u us all)))
]

-- a row is changed and then removed
pub some_left : (test : Path → Bool) (us : List Usage) (row : List Entry) → AreSome us → AreSome (swap_remove_entry test (set_value test us row))
some_left test us row all = All-permutation One _ _ (swapped test (set_value test us row)) (set_gone test us row all)

pub some_put : (role : Path) (us : List Usage) (row : List Entry) → IsSomething row → AreSome us → AreSome (insert_entry same_path us role row)
some_put role [] row its all = All-cons One (role, row) [] its all
some_put role (u ∷ us) row its all = elim (cases_Bool (same_path role u.0)) [
  | inl here ↦ rw here (All-cons One (u.0, row) us its (All-tail One u us all))
  | inr other ↦ rw other (All-cons One u (insert_entry same_path us role row) (All-head One u us all) (some_put role us row its (All-tail One u us all)))
]
