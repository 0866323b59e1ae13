use Rattle.std.proofs.Common.{◌≡◌, take}
use Rattle.drf_rows.proofs.tasks.TaskList.copy.Given as goal

abbrev pub invariant-loop-task : goal.invariant-loop-task
invariant-loop-task l = l.tasks.items ≡ take l.task-index l.self
