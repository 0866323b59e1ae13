use Rattle.std.proofs.Common.{◌≡◌, take, true}
use Rattle.std.specs.List.{list_all}
use Rattle.drf_bundle.specs.Bundle.{covers}
use Rattle.drf_rows.specs.Tasks.{Start}
use Rattle.drf_rows.proofs.tasks.covers_each.Given as goal

abbrev pub invariant-loop-task : goal.invariant-loop-task
invariant-loop-task l = list_all (λ (s : Start). covers l.whole s.1) (take l.task-index l.tasks) ≡ true
