use Rattle.std.proofs.Common.{List, ◌∷◌, [], ap, ◌∙◌}
use Rattle.drf_bundle.specs.declared.resource.Resource.{Resource}
use Rattle.drf_rows.specs.Step.{first_case}
use Rattle.drf_rows.specs.Totals.{is_not_free}
use Rattle.drf_rows.specs.declared.reply.Refusal.TheVariants.{NotCovered}
use Rattle.drf_rows.specs.declared.rows.Rows.{Rows}
use Rattle.drf_core.proofs.refusal.late.refuse_unreserved.Goals as goal

pub returns : goal.returns
returns c =
    let rows : Rows = c.args.tables.now.rows in
    c.first_case.ensures
    ∙ (λ i. first_case ((c.in_ok-lacks.ensures i, NotCovered) ∷ []))
    ∙ ap (λ (rs : List Resource). first_case ((is_not_free rows c.args.agent.now rs, NotCovered) ∷ [])) c.in_ok-reserved.ensures
