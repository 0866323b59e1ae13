use Rattle.std.proofs.Common.{◌≡◌, drop}
use Rattle.std.specs.List.{list_any}
use Rattle.drf_why.specs.Asked.{has_client}
use Rattle.drf_why.proofs.whom.pick_client.Given as goal

abbrev pub invariant-loop-row : goal.invariant-loop-row
invariant-loop-row l =
    list_any (has_client l.framework l.role) (drop l.row-index l.frameworks) ≡ list_any (has_client l.framework l.role) l.frameworks
