use Rattle.std.proofs.Common.{take, All}
use Rattle.drf_bundle.specs.Bundle.{IsBundle}
use Rattle.drf_rows.specs.Tasks.{Start}
use Rattle.drf_rows.proofs.tasks.recall.Given as goal

abbrev pub invariant-loop-task : goal.invariant-loop-task
invariant-loop-task l = All (λ (s : Start). IsBundle s.1) (take l.task-index l.tasks)
