use Rattle.json.specs.Print.{escape_byte}
use Rattle.drf_lines.proofs.Appends.{and_then}
use Rattle.drf_lines.proofs.reply.put_offer.Goals as goal

pub returns : goal.returns
unfolding escape_byte
returns c =
    and_then c.in_ok-put_name.ensures.appends (and_then c.in_ok-put_name-2.ensures.appends (and_then c.in_ok-put_number.ensures.appends
    (and_then c.in_ok-put_bundle.ensures.appends (and_then c.in_ok-put_role.ensures.appends c.put_byte.ensures))))
