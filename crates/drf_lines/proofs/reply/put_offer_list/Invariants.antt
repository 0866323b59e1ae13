use Rattle.drf_lines.specs.ReplyLine.{offer_value}
use Rattle.drf_lines.proofs.Appends.{AppendsItems}
use Rattle.drf_lines.proofs.reply.put_offer_list.Given as goal

abbrev pub invariant-loop-i : goal.invariant-loop-i
invariant-loop-i l = AppendsItems offer_value l.offers l.i l.fn.line.items l.line.items
