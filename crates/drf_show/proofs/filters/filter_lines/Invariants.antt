use Rattle.std.proofs.Common.{◌≡◌, map, take}
use Rattle.drf_show.specs.Shown.{filter_line}
use Rattle.drf_show.proofs.filters.filter_lines.Given as goal

abbrev pub invariant-loop-filter : goal.invariant-loop-filter
invariant-loop-filter l = l.lines.items ≡ map (filter_line l.clock) (take l.filter-index l.filters)
