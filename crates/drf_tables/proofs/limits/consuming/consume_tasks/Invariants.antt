use Rattle.std.proofs.Common.{map}
use Rattle.drf_tables.proofs.tables.Names.{holding_of_task, held_unreserved}
use Rattle.drf_holdings.specs.Listed.{task_row}
use Rattle.drf_tables.proofs.limits.Counts.{IsPartly}
use Rattle.drf_tables.proofs.limits.consuming.consume_tasks.Given as goal

abbrev pub invariant-loop-task : goal.invariant-loop-task
invariant-loop-task l =
    IsPartly l.initial.consumption l.consumption (λ test label. held_unreserved test (map holding_of_task (map task_row l.fn.tasks)) label)
    (λ test label. held_unreserved test (map holding_of_task (map task_row l.task-iterator)) label)
