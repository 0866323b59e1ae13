use Rattle.std.proofs.Common.{◌≡◌, ◌-◌, drop, sum_by}
use Rattle.drf_bundle.specs.Bundle.{amount}
use Rattle.drf_rows.specs.Tasks.{uses}
use Rattle.drf_rows.proofs.tasks.TaskList.leave_any_of.Given as goal

abbrev pub invariant-loop-task : goal.invariant-loop-task
invariant-loop-task l = l.left - sum_by amount (uses (drop l.task-index l.self)) ≡ amount l.whole - sum_by amount (uses l.self)
