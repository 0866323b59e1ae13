use Rattle.drf_lines.specs.StateLine.{row_line}
use Rattle.drf_ask.proofs.list.OfferRowListed.push.Goals as goal

pub returns : goal.returns
unfolding row_line
returns c = c.push_offer_row.ensures.appends.ok
