use Rattle.json.specs.Print.{escape_byte}
use Rattle.drf_lines.proofs.Appends.{and_then}
use Rattle.drf_lines.proofs.reply.put_offers.Goals as goal

pub returns : goal.returns
unfolding escape_byte
returns c = and_then c.in_ok-put.ensures (and_then c.in_ok-put_offer_list.ensures c.put_byte.ensures)
