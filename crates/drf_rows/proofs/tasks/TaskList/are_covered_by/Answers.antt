use Rattle.std.proofs.Common.{◌≡◌, Bool, List, subst, sym, ap, ◌∙◌}
use Rattle.std.specs.Prelude.{◌&&◌}
use Rattle.std.specs.List.{list_all, AllByRecursion}
use Rattle.std.proofs.lemmas.List.Folds.{list_all-map}
use Rattle.drf_bundle.specs.Bundle.{IsBundle, covers}
use Rattle.drf_rows.specs.TaskLaws.{are_apart, is_enough}
use Rattle.drf_rows.proofs.TaskLaws.{covers_all-decided}
use Rattle.drf_rows.specs.Tasks.{Start, uses}
use Rattle.drf_rows.proofs.tasks.TaskList.are_covered_by.Goals as goal

pub returns : goal.returns
returns c =
    let tasks : List Start = c.args.self.now in
    let whole = c.args.whole.now in
    let same : c.as_slice-tasks.result.now ≡ tasks = c.as_slice-tasks.ensures.value ∙ c.self.view_is in
    (λ i. c.covers_each.ensures i && c.are_apart.ensures i && c.has_enough.ensures i)
    ∙ (λ i. list_all (λ s. covers whole s.1) (same i) && are_apart (uses (same i)) && list_all (is_enough whole (uses (same i))) (c.entries.ensures.value i))
    ∙ ap (λ (b : Bool). b && are_apart (uses tasks) && list_all (is_enough whole (uses tasks)) whole) (sym (list_all-map (covers whole) (λ (s : Start). s.1) tasks))
    ∙ covers_all-decided whole (uses tasks) c.entries.ensures.bundle
    (subst (λ (ss : List Start). AllByRecursion IsBundle (uses ss)) c.self.view_is c.self.invariant.bundles)
