use Rattle.std.proofs.Common.{ℕ, ◌<◌, Bool, true, false, List, length, All, IsTrue, [], refl, MatchBool, ◌↔◌, lit<, rules, tests}
use Rattle.std.specs.List.{AllWithin, HoldsAt}
use Rattle.std.proofs.lemmas.Iterator.{cases_from_all}
use Rattle.std.proofs.lemmas.Iterator.Splits.{YieldsList-from_str_split}
use Rattle.std.proofs.lemmas.List.Elements.{All-from_all_within}
use Rattle.std.proofs.lemmas.Bool.{false≢true}
use Rattle.drf_role.specs.Parts.{parts_of}
use Rattle.drf_role.specs.Role.{IsComponent}
use Rattle.drf_role.proofs.role.are_components.Goals as goal

tests_all : (P : List ℕ → Type 0) (r : Bool) (xs : List (List ℕ)) → MatchBool r (AllWithin P xs 0 (length xs)) ((k : ℕ) × (k < length xs) × HoldsAt (λ x. ¬ P x) xs k) → IsTrue r ↔ All P xs
tests_all P true xs h = (λ _. All-from_all_within P xs h, λ _. refl)
tests_all P false xs h = (λ e. absurd (false≢true e), λ all. absurd (h.2 [] (all h.0 [] h.1)))

pub returns : goal.returns
returns c =
    let parts = parts_of c.args.text.now in
    tests_all IsComponent c.all.result parts (cases_from_all _ _ _ IsComponent (λ x. ¬ IsComponent x) c.all.ensures.ran (YieldsList-from_str_split 47 c.args.text.now (lit< tt) c.split.ensures.text c.split.ensures.has_more c.split.ensures.pattern) (λ x q k. search (rules, tests)) (λ x q k. search (rules, tests)))
