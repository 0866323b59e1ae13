use Rattle.std.proofs.Common.{◌++◌, map, ap}
use Rattle.drf_rows.specs.Holdings.{holding_of_task}
use Rattle.drf_show.specs.Had.{parts_for}
use Rattle.drf_show.proofs.Parts.{had_more, had_all}
use Rattle.drf_show.proofs.had.Had.of_tasks.Goals as goal

pub loop-task-init : goal.loop-task-init
loop-task-init c = λ framework. ap (λ ps. ps ++ parts_for framework (map holding_of_task c.args.tasks.now)) (c.new-had.ensures framework)

pub loop-task-preserved : goal.loop-task-preserved
loop-task-preserved c = λ framework.
    had_more holding_of_task framework c.args.tasks.now _ _ _ c.loop-task.task-index c.task-item.result c.loop-task-test.true c.task-item.is
    (c.loop-task.invariant framework) (c.in_ok-add.ensures framework)

pub returns : goal.returns
returns c = λ framework.
    had_all holding_of_task framework c.args.tasks.now _ _ c.loop-task.task-index c.loop-task-test.false (c.loop-task.invariant framework)
