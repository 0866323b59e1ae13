use Rattle.std.proofs.Common.{◌∙◌, sym, arith}
use Rattle.drf_lines.proofs.Lanes.{none_stop, one_stops}
use Rattle.drf_lines.proofs.plain.is_plain_end.Goals as goal

pub returns-then-stops_8-ne0 : goal.returns-then-stops_8-ne0
returns-then-stops_8-ne0 c = sym (one_stops c.args.from 8 c.args.bytes.now (omega (arith, c.stops_8.ensures, c.if-stops_8-ne0.true)))

pub returns : goal.returns
returns c =
    c.is_plain_slowly-2.ensures ∙ sym (none_stop c.args.from 8 c.args.bytes.now (omega (arith, c.stops_8.ensures, c.if-stops_8-ne0.false)))
