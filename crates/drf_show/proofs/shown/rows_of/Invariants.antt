use Rattle.std.proofs.Common.{◌≡◌, ◌∷◌, map, take}
use Rattle.drf_show.specs.ShownText.{ShownRow}
use Rattle.drf_show.proofs.shown.rows_of.Given as goal

abbrev pub invariant-loop-item : goal.invariant-loop-item
invariant-loop-item g l =
    l.rows.items ≡ g.T.Shown.heads ∷ map (λ (r : ShownRow). r.cells) (map g.T.Shown.shown (take l.item-index l.items))
