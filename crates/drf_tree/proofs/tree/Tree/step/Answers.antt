use Rattle.std.proofs.Common.{[], ◌++◌, ◌∷◌, ap, refl, sym, ◌∙◌}
use Rattle.drf_tree.proofs.Names.{Path, ledger_content}
use Rattle.drf_tree.proofs.shape.Find.{take_one_more}
use Rattle.drf_tree.proofs.growth.Grow.{step_longer, step_missing, step_nobody}
use Rattle.drf_tree.proofs.tree.Tree.step.Goals as goal

pub returns-in-Some-clause-path : goal.returns-in-Some-clause-path
returns-in-Some-clause-path c =
    c.in-Some.ensures.found.1
    ∙ ap (λ (p : Path). p ++ c.part.result.now ∷ []) c.requires.above
    ∙ sym (take_one_more c.args.path.now c.args.i c.part.result.now c.part.ensures)

pub sprout_for-requires-clause-longer : goal.sprout_for-requires-clause-longer
sprout_for-requires-clause-longer c =
    step_longer (ledger_content c.args.ledger.now) c.args.self.now c.requires.tree c.args.path.now c.args.node c.args.i c.part.result.now
    c.requires.there c.requires.above c.part.ensures (c.in_default.ensures.missing refl)

pub sprout_for-requires-clause-missing : goal.sprout_for-requires-clause-missing
sprout_for-requires-clause-missing c =
    step_missing (ledger_content c.args.ledger.now) c.args.self.now c.requires.tree c.args.path.now c.args.node c.args.i c.part.result.now
    c.requires.there c.requires.above c.part.ensures (c.in_default.ensures.missing refl)

pub sprout_for-requires-clause-nobody : goal.sprout_for-requires-clause-nobody
sprout_for-requires-clause-nobody c =
    step_nobody (ledger_content c.args.ledger.now) c.args.self.now c.requires.tree c.args.path.now c.args.node c.args.i c.part.result.now
    c.requires.there c.requires.above c.part.ensures (c.in_default.ensures.missing refl)
