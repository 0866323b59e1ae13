use Rattle.std.proofs.Common.{◌∙◌, sym, arith}
use Rattle.drf_lines.proofs.Lanes.{none_stop, one_stops}
use Rattle.drf_lines.proofs.plain.is_plain.Goals as goal

pub returns-then-stops_16-ne0 : goal.returns-then-stops_16-ne0
returns-then-stops_16-ne0 c =
    sym (c.loop-i.invariant.0 ∙ one_stops c.loop-i.i 16 c.as_bytes-bytes.result.now (omega (arith, c.stops_16.ensures, c.if-stops_16-ne0.true)))

pub loop-i-preserved : goal.loop-i-preserved
loop-i-preserved c =
    (c.loop-i.invariant.0 ∙ none_stop c.loop-i.i 16 c.as_bytes-bytes.result.now (omega (arith, c.stops_16.ensures, c.if-stops_16-ne0.false)), omega arith)
