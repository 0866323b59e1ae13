use Rattle.std.proofs.Common.{◌≡◌, IfOk, ap, ◌∙◌, subst}
use Rattle.drf_core.specs.Machine.{live}
use Rattle.drf_explain.specs.Explained.{explained}
use Rattle.drf_explain.specs.ExplainedText.{explained_text}
use Rattle.drf_journal.specs.State.{State}
use Rattle.drf_journal.proofs.session.Session.explain.Goals as goal

pub returns : goal.returns
unfolding live
returns g c =
    let same = c.deref.ensures.value ∙ c.in_ok-findings.ensures
    ∙ ap (λ (s : State). explained s.machine.rows c.args.at) c.self.view_is in
    subst (λ fs. IfOk c.write_explained_lines.result (λ text. text.items ≡ explained_text fs)) same c.write_explained_lines.ensures
