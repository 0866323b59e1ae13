use Rattle.std.proofs.Common.{◌≡◌, take}
use Rattle.std.specs.List.{flat_map}
use Rattle.drf_show.specs.Had.{lines_by, parts_in, weighted_in}
use Rattle.drf_show.proofs.clients.lines_of.Given as goal

abbrev pub invariant-loop-framework : goal.invariant-loop-framework
invariant-loop-framework g l =
    l.lines.items ≡ flat_map (lines_by (weighted_in (g.S.Sorter.content l.sorter)) (parts_in l.offered) (parts_in l.used)) (take l.framework-index l.frameworks)
