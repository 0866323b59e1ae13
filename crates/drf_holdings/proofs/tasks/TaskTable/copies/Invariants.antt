use Rattle.std.proofs.Common.{◌≡◌, ◌++◌, map}
use Rattle.drf_holdings.specs.Listed.{task_row}
use Rattle.drf_holdings.proofs.tasks.TaskTable.copies.Given as goal

abbrev pub invariant-loop-task : goal.invariant-loop-task
invariant-loop-task l = l.copies.items ++ map task_row l.task-iterator ≡ l.self
