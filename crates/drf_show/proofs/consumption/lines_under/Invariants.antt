use Rattle.std.proofs.Common.{◌≡◌, map, take}
use Rattle.drf_show.specs.Consuming.{limit_line_by}
use Rattle.drf_show.proofs.consumption.lines_under.Given as goal

abbrev pub invariant-loop-row : goal.invariant-loop-row
invariant-loop-row l = l.lines.items ≡ map (limit_line_by l.consumption) (take l.row-index l.limits)
