use Rattle.std.proofs.Common.{◌≡◌, map, drop}
use Rattle.drf_lines.specs.LineValue.{is_among}
use Rattle.drf_lines.proofs.object.is_among.Given as goal

abbrev pub invariant-loop-name : goal.invariant-loop-name
invariant-loop-name l =
    is_among (map (λ name. name.now) (drop l.name-index l.names)) l.key ≡ is_among (map (λ name. name.now) l.names) l.key
