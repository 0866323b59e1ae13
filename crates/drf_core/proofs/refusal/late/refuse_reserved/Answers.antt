use Rattle.std.proofs.Common.{List, ◌∷◌, [], not, ap, ◌∙◌}
use Rattle.drf_bundle.specs.declared.quantities.Entry.{Entry}
use Rattle.drf_rows.specs.Quota.{admits}
use Rattle.drf_rows.specs.Step.{first_case}
use Rattle.drf_rows.specs.Totals.{is_not_free}
use Rattle.drf_rows.specs.declared.reply.Refusal.TheVariants.{NotCovered, OverLimit}
use Rattle.drf_rows.specs.declared.rows.Rows.{Rows}
use Rattle.drf_core.specs.refusal.Cases.{cases_of_reserved}
use Rattle.drf_core.proofs.refusal.late.refuse_reserved.Goals as goal

pub admits-requires : goal.admits-requires
admits-requires c = c.in_ok-count_consumption.ensures.counted

pub returns-clause-value : goal.returns-clause-value
returns-clause-value c =
    let agent = c.args.agent.now in
    let role = c.args.role.now in
    let resources = c.args.resources.now in
    let rows : Rows = c.count_consumption.new.self.rows in
    c.first_case.ensures
    ∙ (λ i. first_case ((c.in_ok-lacks.ensures i, NotCovered) ∷ (not (c.admits.ensures i), OverLimit) ∷ []))
    ∙ ap (λ (es : List Entry). first_case ((is_not_free rows agent resources, NotCovered) ∷ (not (admits rows role es), OverLimit) ∷ [])) c.quantities-amounts.ensures.value
    ∙ ap (λ (r : Rows). first_case (cases_of_reserved r agent role resources)) c.count_consumption.ensures.same
