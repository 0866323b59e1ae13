use Rattle.std.proofs.Common.{[], ◌∷◌, ◌++◌, sym, ◌∙◌, append_assoc}
use Rattle.drf_journal.proofs.due.Due.ends.Goals as goal

pub returns-then-not-takes-2-clause-wrong : goal.returns-then-not-takes-2-clause-wrong
returns-then-not-takes-2-clause-wrong c = λ _ line has same.
    c.takes-2.ensures.wrong c.if-not-takes-2.true (line ++ c.args.end.now)
    (c.takes.ensures.right c.if-not-takes.false line has) []
    (c.takes.ensures.text ∙ same ∙ sym (append_assoc line c.args.end.now (10 ∷ [])))
