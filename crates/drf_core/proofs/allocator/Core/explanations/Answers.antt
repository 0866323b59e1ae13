use Rattle.std.proofs.Common.{sym, ap, ◌∙◌}
use Rattle.std.proofs.lemmas.Result.{IfOk-weaker}
use Rattle.drf_rows.specs.Step.{live_rows}
use Rattle.drf_explain.specs.Each.{turns_by_agent}
use Rattle.drf_explain.proofs.EachLaws.{live_turns_are_reported}
use Rattle.drf_core.specs.Machine.{Engine}
use Rattle.drf_core.proofs.allocator.Core.explanations.Goals as goal

pub returns : goal.returns
returns g c =
    IfOk-weaker c.explanations.result _ _
    (λ explanations is. is
    ∙ sym (live_turns_are_reported c.self.inside.cluster.value.rows c.args.at)
    ∙ ap (λ (e : Engine). turns_by_agent (live_rows e.rows) c.args.at) c.self.view_is)
    (rw c.deref.ensures at c.explanations.ensures)
