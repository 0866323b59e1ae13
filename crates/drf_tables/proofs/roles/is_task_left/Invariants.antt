use Rattle.std.proofs.Common.{◌≡◌, map}
use Rattle.std.specs.List.{list_any}
use Rattle.drf_holdings.specs.Listed.{task_row}
use Rattle.drf_rows.specs.Holdings.{holding_of_task}
use Rattle.drf_rows.specs.Roles.{is_left}
use Rattle.drf_tables.proofs.roles.is_task_left.Given as goal

abbrev pub invariant-loop-task : goal.invariant-loop-task
invariant-loop-task l =
    list_any (λ h. is_left l.framework l.roles h.client) (map holding_of_task (map task_row l.task-iterator))
    ≡ list_any (λ h. is_left l.framework l.roles h.client) (map holding_of_task (map task_row l.fn.tasks))
