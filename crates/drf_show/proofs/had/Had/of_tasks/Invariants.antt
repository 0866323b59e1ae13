use Rattle.std.proofs.Common.{◌≡◌, ◌++◌, map, drop}
use Rattle.drf_role.specs.Text.{Text}
use Rattle.drf_rows.specs.Holdings.{holding_of_task}
use Rattle.drf_show.specs.Had.{parts_for, parts_in}
use Rattle.drf_show.proofs.had.Had.of_tasks.Given as goal

abbrev pub invariant-loop-task : goal.invariant-loop-task
invariant-loop-task l =
    (framework : Text) → parts_in l.had framework ++ parts_for framework (map holding_of_task (drop l.task-index l.tasks)) ≡ parts_for framework (map holding_of_task l.tasks)
