use Rattle.std.proofs.Common.{All, subst, take_all}
use Rattle.std.proofs.lemmas.List.Elements.{All-more}
use Rattle.drf_bundle.specs.Bundle.{IsBundle}
use Rattle.drf_rows.proofs.TaskLaws.{uses_each}
use Rattle.drf_rows.specs.Tasks.{Start}
use Rattle.drf_rows.proofs.tasks.recall.Goals as goal

pub loop-task-preserved : goal.loop-task-preserved
loop-task-preserved c =
    All-more (λ (s : Start). IsBundle s.1) c.args.tasks.now c.loop-task.task-index c.task-item.result c.loop-task-test.true c.loop-task.invariant
    (subst (λ (s : Start). IsBundle s.1) c.task-item.is c.recall.ensures)

pub returns : goal.returns
returns c =
    uses_each c.args.tasks.now
    (subst (All (λ (s : Start). IsBundle s.1)) (take_all c.loop-task.task-index c.args.tasks.now c.loop-task-test.false) c.loop-task.invariant)
