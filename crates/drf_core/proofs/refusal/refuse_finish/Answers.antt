use Rattle.std.proofs.Common.{◌∷◌, [], sym, ◌∙◌, not}
use Rattle.drf_rows.specs.Step.{first_case, refusal_of}
use Rattle.drf_rows.specs.declared.reply.Refusal.TheVariants.{HistoryFull, UnknownFramework, UnknownTask}
use Rattle.drf_core.proofs.refusing.Known.{known_task}
use Rattle.drf_core.proofs.refusal.refuse_finish.Goals as goal

pub is_unknown-requires : goal.is_unknown-requires
is_unknown-requires c = λ holds.
    known_task c.args.tables.now.rows c.args.framework.now c.args.task.now c.recall.ensures (sym c.has_task-holds.ensures ∙ holds)

pub returns : goal.returns
unfolding refusal_of
returns c = c.first_case.ensures ∙ (λ i. first_case ((c.is_full.ensures i, HistoryFull) ∷ (c.is_unknown.ensures i, UnknownFramework) ∷ (not (c.has_task-holds.ensures i), UnknownTask) ∷ []))
