use Rattle.std.proofs.Common.{◌≡◌, map, take}
use Rattle.drf_state.specs.LinedText.{with_rows}
use Rattle.drf_state.specs.Read.{AreRead}
use Rattle.drf_state.proofs.text.LinedText.push_all.Given as goal

abbrev pub invariant-loop-row : goal.invariant-loop-row
invariant-loop-row g l =
    (l.self ≡ with_rows l.initial.self (map g.T.Lined.saved (take l.row-index l.rows))) × AreRead (map g.T.Lined.saved (take l.row-index l.rows))
