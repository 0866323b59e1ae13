use Rattle.std.proofs.Common.{◌≡◌, map, ap, ◌∙◌, subst, IfOk}
use Rattle.drf_audit.specs.Audit.{line_of}
use Rattle.drf_core.specs.Machine.{live}
use Rattle.drf_rows.specs.declared.rows.Rows.{Rows}
use Rattle.drf_journal.specs.State.{State}
use Rattle.drf_journal.proofs.session.Session.audit.Goals as goal

pub returns : goal.returns
unfolding live
returns g c =
    let same = c.in_ok-rows.ensures.rows ∙ ap (λ (s : State). s.machine.rows) c.self.view_is in
    subst (λ (rows : Rows). IfOk c.audit.result (λ lines. lines.items ≡ map (line_of rows) rows.agents)) same c.audit.ensures
