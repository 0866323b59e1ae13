use Rattle.std.proofs.Common.{◌≡◌, take, true, is_some}
use Rattle.std.specs.List.{list_all}
use Rattle.drf_bundle.specs.Bundle.{join}
use Rattle.drf_rows.specs.Tasks.{Start}
use Rattle.drf_rows.proofs.tasks.is_apart.Given as goal

abbrev pub invariant-loop-task : goal.invariant-loop-task
invariant-loop-task l = list_all (λ (s : Start). is_some (join l.part s.1)) (take l.task-index l.tasks) ≡ true
