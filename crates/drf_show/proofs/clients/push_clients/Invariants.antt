use Rattle.std.proofs.Common.{◌≡◌, ◌++◌, map, take}
use Rattle.drf_show.specs.Had.{client_line_by, parts_in, weighted_in}
use Rattle.drf_show.proofs.clients.push_clients.Given as goal

abbrev pub invariant-loop-client : goal.invariant-loop-client
invariant-loop-client g l =
    l.lines.items ≡ l.initial.lines.items
    ++ map (client_line_by (weighted_in (g.S.Sorter.content l.sorter)) (parts_in l.offered) (parts_in l.used) l.framework) (take l.client-index l.clients)
