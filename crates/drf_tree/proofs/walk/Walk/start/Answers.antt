use Rattle.std.proofs.Common.{ap, ◌∙◌, ◌∷◌, ◌++◌, [], List}
use Rattle.drf_tree.proofs.Names.{Frame, frames_queue}
use Rattle.drf_tree.proofs.walk.Step.{top, top_queue}
use Rattle.drf_tree.proofs.walk.Walk.start.Goals as goal

pub returns-clause-queue : goal.returns-clause-queue
returns-clause-queue c content of =
    c.settle.ensures.queue content of
    ∙ ap (frames_queue content c.args.tree.now) (c.push.ensures ∙ ap (λ (fs : List Frame). fs ++ top ∷ []) c.clear.ensures.items)
    ∙ top_queue c.args.tree.now c.requires content of
