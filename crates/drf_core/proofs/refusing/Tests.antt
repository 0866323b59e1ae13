-- The tests of refusals, and what the code computes for them.
use Rattle.std.proofs.Common.{◌≡◌, ℕ, ◌+◌, Bool, true, false, List, [], ◌∷◌, ◌++◌, Some, None, length, refl, sym, ap, ◌∙◌, arith, nat_lt}
use Rattle.std.proofs.Math.Dec.{eqb-suc-zero}
use Rattle.std.specs.Prelude.{not, ◌&&◌, ◌||◌, nat_le, ◌==◌, IsTrue, ◌↔◌}
use Rattle.std.specs.Cmp.{both_ways}
use Rattle.std.proofs.lemmas.Bool.{leb-true, le-leb, ltb_from_iff}
use Rattle.std.specs.List.{list_all, list_any}
use Rattle.drf_role.specs.Path.{Path}
use Rattle.drf_role.specs.PathLaws.{path_decides}
use Rattle.drf_role.specs.Role.{default_role}
use Rattle.drf_bundle.specs.Bundle.{is_default}
use Rattle.drf_rows.specs.Offers.{is_empty}
use Rattle.drf_rows.specs.LimitNumbers.{LimitNumbers}
use Rattle.drf_rows.specs.Step.{first_case, refusal_of}
use Rattle.drf_rows.specs.declared.event.Event.{Event}
use Rattle.drf_rows.specs.declared.reply.Refusal.{Refusal}
use Rattle.drf_rows.specs.declared.rows.Rows.{Rows}
use Rattle.drf_core.specs.refusal.Cases.{early_cases_of, late_cases_of, early_refusal_of}
use Rattle.drf_core.proofs.effects.Moved.{early_and_late}

pub empty_from : {A : Type 0} (xs : List A) (b : Bool) → (b ≡ true → xs ≡ []) × (xs ≡ [] → b ≡ true) → b ≡ is_empty xs
empty_from [] b both = both.1 refl
empty_from (x ∷ xs) true both = absurd (let e = both.0 refl in cc)
empty_from (x ∷ xs) false both = refl

-- some element passes a test unless each fails
pub any_not : {X : Type 0} (p : X → Bool) (xs : List X) → list_any p xs ≡ not (list_all (λ x. not (p x)) xs)
any_not p [] = refl
any_not p (x ∷ xs) = ap (λ (b : Bool). p x || b) (any_not p xs) ∙ by (p x) (list_all (λ x. not (p x)) xs)
  where
    by : (a b : Bool) → (a || not b) ≡ not (not a && b)
    by true b = refl
    by false b = refl

-- the first case that holds in a prefix is the first case of the whole list
pub first_prefix : (prefix rest : List (Bool × Refusal)) (refusal : Refusal) → first_case prefix ≡ Some refusal
    → first_case (prefix ++ rest) ≡ Some refusal
first_prefix [] rest refusal holds = cc
first_prefix ((true, r) ∷ prefix) rest refusal holds = holds
first_prefix ((false, r) ∷ prefix) rest refusal holds = first_prefix prefix rest refusal holds

pub first_rest : (prefix rest : List (Bool × Refusal)) → first_case prefix ≡ None → first_case (prefix ++ rest) ≡ first_case rest
first_rest [] rest none = refl
first_rest ((true, r) ∷ prefix) rest none = cc
first_rest ((false, r) ∷ prefix) rest none = first_rest prefix rest none

-- an early refusal is the refusal
pub reported_early : (limits : LimitNumbers) (rows : Rows) (event : Event) (refusal : Refusal) → early_refusal_of limits rows event ≡ Some refusal
    → refusal_of limits rows event ≡ Some refusal
unfolding early_refusal_of refusal_of
reported_early limits rows event refusal holds =
    ap first_case (early_and_late limits rows event)
    ∙ first_prefix (early_cases_of limits rows event) (late_cases_of limits rows event) refusal holds

-- without an early refusal, the refusal is the first late case that holds
pub reported_late : (limits : LimitNumbers) (rows : Rows) (event : Event) → early_refusal_of limits rows event ≡ None
    → first_case (late_cases_of limits rows event) ≡ refusal_of limits rows event
unfolding early_refusal_of refusal_of
reported_late limits rows event none =
    sym (ap first_case (early_and_late limits rows event)
    ∙ first_rest (early_cases_of limits rows event) (late_cases_of limits rows event) none)

-- a list of length 0 is empty
pub no_length : {A : Type 0} (xs : List A) → (length xs == 0) ≡ is_empty xs
no_length [] = refl
no_length (x ∷ xs) = eqb-suc-zero (length xs)

-- the test whether a role is `*`
pub default_from : (role : Path) (b : Bool) → IsTrue b ↔ (role ≡ default_role) → b ≡ is_default role
default_from role b reported =
    both_ways b (is_default role)
    (λ yes. (path_decides role default_role).1 (reported.0 yes)) (λ yes. reported.1 ((path_decides role default_role).0 yes))

-- one more row would be too many, by the number of rows before
pub too_many_rows : (empty known more : Bool) (most count : ℕ)
    → (((not empty && not known) && nat_le most count) || more) ≡ ((not empty && (not known && nat_lt most (count + 1))) || more)
too_many_rows true known more most count = refl
too_many_rows false true more most count = refl
too_many_rows false false more most count =
    ap (λ (b : Bool). b || more)
    (ltb_from_iff ((λ yes. let at_most = leb-true most count yes in omega (arith, at_most)), (λ below. le-leb most count (omega (arith, below)))))
