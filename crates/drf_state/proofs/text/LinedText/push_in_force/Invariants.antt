use Rattle.std.proofs.Common.{◌≡◌, map, take}
use Rattle.drf_rows.specs.Filters.{in_force}
use Rattle.drf_saved.specs.declared.saved.SavedRow.TheVariants.{Filter}
use Rattle.drf_state.specs.LinedText.{with_rows}
use Rattle.drf_state.specs.Read.{AreRead}
use Rattle.drf_state.proofs.text.LinedText.push_in_force.Given as goal

abbrev pub invariant-loop-filter : goal.invariant-loop-filter
invariant-loop-filter l =
    (l.self ≡ with_rows l.initial.self (map Filter (in_force l.clock (take l.filter-index l.filters))))
    × AreRead (map Filter (in_force l.clock (take l.filter-index l.filters)))
