use Rattle.std.proofs.Common.{◌≡◌, ◌++◌, drop}
use Rattle.std.specs.List.{flat_map}
use Rattle.drf_explain.specs.Explained.{reported_if_suppressed}
use Rattle.drf_explain.proofs.suppression.add_all_suppressed.Given as goal

abbrev pub invariant-loop-client : goal.invariant-loop-client
invariant-loop-client l =
    l.findings.items ++ flat_map (reported_if_suppressed l.framework) (drop l.client-index l.clients)
    ≡ l.fn.findings.items ++ flat_map (reported_if_suppressed l.framework) l.clients
