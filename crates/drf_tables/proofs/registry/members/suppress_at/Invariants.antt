use Rattle.std.proofs.Common.{◌≡◌, ◌++◌, map, take, drop, if◌then◌else◌}
use Rattle.drf_tables.proofs.tables.Names.{same_path, ClientRow}
use Rattle.drf_tables.proofs.registry.members.suppress_at.Given as goal

abbrev pub invariant-loop-client : goal.invariant-loop-client
invariant-loop-client l =
    l.clients
    ≡ map (λ (c : ClientRow). if same_path c.role l.role then record c { suppressed = l.suppressed } else c) (take l.client-index l.fn.clients)
    ++ drop l.client-index l.fn.clients
