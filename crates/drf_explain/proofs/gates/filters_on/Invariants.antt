use Rattle.std.proofs.Common.{◌≡◌, filter, take}
use Rattle.drf_rows.specs.Filters.{is_on_agent}
use Rattle.drf_explain.proofs.gates.filters_on.Given as goal

abbrev pub invariant-loop-filter : goal.invariant-loop-filter
invariant-loop-filter l = l.kept.items ≡ filter (is_on_agent l.agent) (take l.filter-index l.filters)
