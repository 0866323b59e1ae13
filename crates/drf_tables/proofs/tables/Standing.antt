-- Tests whether tables are empty.
use Rattle.std.specs.List.{list_all}
use Rattle.std.specs.Map.Iter.{TakesFirst}
use Rattle.std.proofs.Common.{refl, sym, ap, inl, inr, ◌≡◌, ◌==◌, ℕ, Bool, true, false, not, List, [], ◌∷◌, filter, length, nat_lt, Option, Some, None, is_some}
use Rattle.std.proofs.lemmas.Bool.{cases_Bool}
use Rattle.std.proofs.Math.Dec.{eqb-suc-zero}
use Rattle.drf_tables.proofs.tables.Names.{is_empty, OfferRow}

pub none_there : {X : Type 0} (xs : List X) → (length xs == 0) ≡ is_empty xs
none_there [] = refl
none_there (x ∷ xs) = eqb-suc-zero (length xs)

-- a list is empty exactly if there is no first element
pub none_first : {A V : Type 0} (shows : A → V) (s t : List V) (r : Option A) (none : Bool) → TakesFirst shows s r t
    → is_some r ≡ not none → none ≡ is_empty s
none_first shows s t None true gone reported = ap (λ (es : List _). is_empty es) (sym gone.0)
none_first shows s t None false gone reported = cc
none_first shows s t (Some x) true first reported = cc
none_first shows s t (Some x) false first reported = ap (λ (es : List _). is_empty es) (sym first)

-- all numbers are below a number if no offer has that number or a greater one
pub none_from : (number : ℕ) (os : List OfferRow)
    → is_empty (filter (λ o. not (nat_lt o.number number)) os) ≡ list_all (λ o. nat_lt o.number number) os
none_from number [] = refl
none_from number (o ∷ os) = elim (cases_Bool (nat_lt o.number number)) [
  | inl below ↦ rw below (none_from number os)
  | inr from ↦ rw from refl
]
