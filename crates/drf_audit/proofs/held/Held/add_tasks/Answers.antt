use Rattle.drf_rows.specs.Holdings.{holding_of_task}
use Rattle.drf_audit.proofs.Parts.{held_more, held_all}
use Rattle.drf_audit.proofs.held.Held.add_tasks.Goals as goal

pub loop-task-preserved : goal.loop-task-preserved
loop-task-preserved c = λ agent.
    held_more holding_of_task agent c.args.tasks.now _ _ _ c.loop-task.task-index c.task-item.result c.loop-task-test.true c.task-item.is
    (c.loop-task.invariant agent) (c.in_ok-add.ensures agent)

pub returns : goal.returns
returns c = λ agent.
    held_all holding_of_task agent c.args.tasks.now _ _ c.loop-task.task-index c.loop-task-test.false (c.loop-task.invariant agent)
