-- The bundles of an agent's holdings, which an index lists one by one.
use Rattle.std.specs.Prelude.{◌≡◌, ℕ, ◌==◌, ◌<◌, Bool, true, false, List, [], ◌∷◌, ◌++◌, map, filter, find, flat_map, Some, cond}
use Rattle.std.specs.List.{AllByRecursion}
use Rattle.std.specs.Option.{option_map_or}
use Rattle.std.proofs.Common.{refl, sym, ap, ◌∙◌}
use Rattle.std.proofs.lemmas.Bool.{eq-eqb}
use Rattle.drf_role.specs.Text.{Text, same_text}
use Rattle.drf_bundle.specs.declared.resource.Resource.{Resource}
use Rattle.drf_rows.specs.Holdings.{Holding, is_on, parts_on}
use Rattle.drf_holdings.specs.Listed.{bundles_at}
use Rattle.drf_holdings.specs.Rising.{IsRising}
use Rattle.drf_holdings.proofs.RisingLists.{less_other}

module _ {X : Type 0} (number : X → ℕ) (bundle : X → List Resource) where
  abbrev IsFound : List X → X → Type 0
  IsFound xs x = find (λ y. number y == number x) xs ≡ Some x

  found_past : (x y : X) (xs : List X) → number x < number y → IsFound xs y → IsFound (x ∷ xs) y
  found_past x y xs less found = ap (λ (b : Bool). cond b (Some x) (find (λ z. number z == number y) xs)) (less_other number (number x) (number y) less) ∙ found

  found_later : (x : X) (xs ys : List X) → AllByRecursion (λ m. number x < m) (map number ys)
      → AllByRecursion (IsFound xs) ys → AllByRecursion (IsFound (x ∷ xs)) ys
  found_later x xs [] above found = tt
  found_later x xs (y ∷ ys) above found = (found_past x y xs above.0 found.0, found_later x xs ys above.1 found.1)

  found_first : (x : X) (xs : List X) → IsFound (x ∷ xs) x
  found_first x xs = ap (λ (b : Bool). cond b (Some x) (find (λ z. number z == number x) xs)) (eq-eqb (number x) (number x) refl)

  found_each : (xs : List X) → IsRising (map number xs) → AllByRecursion (IsFound xs) xs
  found_each [] rising = tt
  found_each (x ∷ xs) rising = (found_first x xs, found_later x xs xs rising.0 (found_each xs rising.1))

  bundles_from : (p : X → Bool) (xs ys : List X) → AllByRecursion (IsFound xs) ys
      → flat_map (bundles_at number bundle xs) (map number (filter p ys)) ≡ map bundle (filter p ys)
  bundles_from p xs [] found = refl
  bundles_from p xs (y ∷ ys) found = by (p y) (bundles_from p xs ys found.1)
    where
      by : (b : Bool) → flat_map (bundles_at number bundle xs) (map number (filter p ys)) ≡ map bundle (filter p ys)
          → flat_map (bundles_at number bundle xs) (map number (cond b (y ∷ filter p ys) (filter p ys))) ≡ map bundle (cond b (y ∷ filter p ys) (filter p ys))
      by true more = λ i. option_map_or (λ x. bundle x ∷ []) (found.0 i) [] ++ more i
      by false more = more

  module _ (holding : X → Holding) (agent : Text) (same : (x : X) → (holding x).bundle ≡ bundle x) where
    parts_from : (xs : List X) → map bundle (filter (λ x. same_text (holding x).agent agent) xs) ≡ parts_on agent (map holding xs)
    parts_from [] = refl
    parts_from (x ∷ xs) = by (same_text (holding x).agent agent) (parts_from xs)
      where
        by : (b : Bool) → map bundle (filter (λ x. same_text (holding x).agent agent) xs) ≡ parts_on agent (map holding xs)
            → map bundle (cond b (x ∷ filter (λ x. same_text (holding x).agent agent) xs) (filter (λ x. same_text (holding x).agent agent) xs))
            ≡ map (λ h. h.bundle) (cond b (holding x ∷ filter (is_on agent) (map holding xs)) (filter (is_on agent) (map holding xs)))
        by true more = λ i. sym (same x) i ∷ more i
        by false more = more

    -- the bundles with the numbers listed for an agent are those held there
    pub parts_listed : (xs : List X) (ns : List ℕ) → IsRising (map number xs)
        → ns ≡ map number (filter (λ x. same_text (holding x).agent agent) xs)
        → flat_map (bundles_at number bundle xs) ns ≡ parts_on agent (map holding xs)
    parts_listed xs ns rising listed =
        ap (flat_map (bundles_at number bundle xs)) listed
        ∙ bundles_from (λ x. same_text (holding x).agent agent) xs xs (found_each xs rising)
        ∙ parts_from xs
