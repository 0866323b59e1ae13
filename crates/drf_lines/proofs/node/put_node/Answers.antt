use Rattle.json.specs.Print.{escape_byte}
use Rattle.drf_lines.proofs.Appends.{and_then}
use Rattle.drf_lines.proofs.node.put_node.Goals as goal

pub returns : goal.returns
unfolding escape_byte
returns c =
    and_then c.in_ok-put_number.ensures.appends (and_then c.in_ok-put_amounts.ensures (and_then (rw c.text.ensures.text at c.in_ok-put_text.ensures)
    (and_then c.in_ok-put_fraction.ensures (and_then c.in_ok-put_fraction-2.ensures c.put_byte.ensures))))
