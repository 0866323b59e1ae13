use Rattle.std.proofs.Common.{◌≡◌, ◌++◌, map, drop}
use Rattle.drf_role.specs.Text.{Text}
use Rattle.drf_rows.specs.Holdings.{holding_of_task, parts_on}
use Rattle.drf_audit.specs.Held.{parts_in}
use Rattle.drf_audit.proofs.held.Held.add_tasks.Given as goal

abbrev pub invariant-loop-task : goal.invariant-loop-task
invariant-loop-task l =
    (agent : Text) → parts_in l.self agent ++ parts_on agent (map holding_of_task (drop l.task-index l.tasks))
    ≡ parts_in l.fn.self agent ++ parts_on agent (map holding_of_task l.tasks)
