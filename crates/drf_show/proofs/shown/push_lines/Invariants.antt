use Rattle.std.proofs.Common.{◌≡◌, ◌∷◌, ◌++◌, [], map, take}
use Rattle.std.specs.List.{flat_map}
use Rattle.drf_show.specs.ShownText.{ShownRow}
use Rattle.drf_show.proofs.shown.push_lines.Given as goal

abbrev pub invariant-loop-item : goal.invariant-loop-item
invariant-loop-item g l =
    l.text.items ≡ l.initial.text.items ++ flat_map (λ (r : ShownRow). r.line ++ 10 ∷ []) (map g.T.Shown.shown (take l.item-index l.items))
