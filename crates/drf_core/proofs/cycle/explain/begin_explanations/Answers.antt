use Rattle.std.proofs.Common.{ap, ◌∙◌, List}
use Rattle.drf_rows.specs.declared.rows.OfferRow.{OfferRow}
use Rattle.drf_explain.specs.Each.{turns_on_all}
use Rattle.drf_tables.specs.cycle.Drafts.{with_offers}
use Rattle.drf_core.proofs.drafting.Told.{explanations-begins}
use Rattle.drf_core.proofs.cycle.explain.begin_explanations.Goals as goal

pub returns : goal.returns
returns g c =
    let rows = c.begin.new.tables.rows in
    ap (λ (os : List OfferRow). turns_on_all (with_offers rows os) rows.agents) c.in_ok-rows.ensures.none
    ∙ explanations-begins c.args.tables.rows rows c.args.at c.in_ok-rows.ensures.timestamp
