use Rattle.std.proofs.Common.{List, [], ◌∷◌, map}
use Rattle.std.specs.List.{AllByRecursion}
use Rattle.std.specs.List.Sorted.{IsPermutation}
use Rattle.std.proofs.lemmas.List.Elements.{recursion_from_All}
use Rattle.std.proofs.lemmas.List.Sorted.{IsPermutation-map, All-permutation}
use Rattle.drf_role.specs.Path.{IsClientPath}
use Rattle.drf_rows.specs.Share.{Standing}
use Rattle.drf_sorter.specs.declared.candidate.Candidate.{Candidate}
use Rattle.drf_sorter.specs.Candidates.{HasKeys}
use Rattle.drf_sorter.specs.Content.{IsOrderOf, active_paths}
use Rattle.drf_sorter.specs.Plain.{plain_content, plain_standing}
use Rattle.drf_sorter.proofs.OrderLemmas.{sorted_serving, distinct_moved}
use Rattle.drf_sorter.proofs.PlainLemmas.{distinct_active}
use Rattle.drf_sorter.proofs.plain.PlainSorterSorter.fix_order.Goals as goal

-- the candidates have paths of clients
right_paths : (s : Standing) (candidates : List Candidate) → AllByRecursion (HasKeys s) candidates
    → AllByRecursion IsClientPath (map (λ (d : Candidate). d.path) candidates)
right_paths s [] keys = tt
right_paths s (d ∷ candidates) keys = (keys.0.right, right_paths s candidates keys.1)

pub returns-clause-order : goal.returns-clause-order
returns-clause-order c =
    let sorter = c.args.self.now in
    let before = c.in_ok-candidates.candidates.items in
    let after = c.sort_unstable.new.self.items in
    let moved = IsPermutation-map (λ (d : Candidate). d.path) before after c.sort_unstable.ensures.permutation in
    let active : IsPermutation (active_paths (plain_content sorter)) (map (λ (d : Candidate). d.path) after) =
    rw c.in_ok-candidates.ensures.paths at moved in
    let distinct =
    distinct_moved (active_paths (plain_content sorter)) (map (λ (d : Candidate). d.path) after) active
    (distinct_active sorter) in
    let keys =
    All-permutation (HasKeys (plain_standing sorter)) before after c.sort_unstable.ensures.permutation
    c.in_ok-candidates.ensures.keys in
    let order : IsOrderOf (plain_content sorter) (map (λ (d : Candidate). d.path) after) =
    record {
      active = active;
      in_order = sorted_serving (plain_standing sorter) after keys distinct
          c.sort_unstable.ensures.sorted;
    } in
    rw c.in_ok-self.ensures order

pub returns-clause-right : goal.returns-clause-right
returns-clause-right c =
    let after = c.sort_unstable.new.self.items in
    let keys =
    All-permutation (HasKeys (plain_standing c.args.self.now)) c.in_ok-candidates.candidates.items after c.sort_unstable.ensures.permutation
    c.in_ok-candidates.ensures.keys in
    rw c.in_ok-self.ensures (right_paths (plain_standing c.args.self.now) after (recursion_from_All (HasKeys (plain_standing c.args.self.now)) after keys))
