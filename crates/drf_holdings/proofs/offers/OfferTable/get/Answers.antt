use Rattle.std.proofs.Common.{◌==◌, find, ap, ◌∙◌}
use Rattle.drf_rows.specs.declared.rows.OfferRow.{OfferRow}
use Rattle.drf_holdings.proofs.offers.OfferTable.get.Goals as goal

pub returns : goal.returns
returns c = c.get.ensures ∙ ap (find (λ (o : OfferRow). o.number == c.args.number)) c.self.view_is
