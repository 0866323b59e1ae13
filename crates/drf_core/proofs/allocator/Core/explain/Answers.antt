use Rattle.std.proofs.Common.{sym, ap, ◌∙◌}
use Rattle.std.proofs.lemmas.Result.{IfOk-weaker}
use Rattle.drf_rows.specs.Step.{live_rows}
use Rattle.drf_explain.specs.Explained.{explained}
use Rattle.drf_explain.proofs.ExplainedLaws.{live_rows_are_explained}
use Rattle.drf_core.specs.Machine.{Engine}
use Rattle.drf_core.proofs.allocator.Core.explain.Goals as goal

pub returns : goal.returns
returns g c =
    IfOk-weaker c.explain.result _ _
    (λ findings is. is
    ∙ sym (live_rows_are_explained c.self.inside.cluster.value.rows c.args.at)
    ∙ ap (λ (e : Engine). explained (live_rows e.rows) c.args.at) c.self.view_is)
    (rw c.deref.ensures at c.explain.ensures)
