use Rattle.std.proofs.Common.{◌≡◌, drop}
use Rattle.std.specs.List.{list_any}
use Rattle.drf_role.specs.Parts.{parts_of}
use Rattle.drf_role.specs.Path.{same_path}
use Rattle.drf_rows.specs.declared.rows.ClientRow.{ClientRow}
use Rattle.drf_why.proofs.whom.pick_in_role.Given as goal

abbrev pub invariant-loop-client : goal.invariant-loop-client
invariant-loop-client l =
    list_any (λ (c : ClientRow). same_path c.role (parts_of l.role)) (drop l.client-index l.clients)
    ≡ list_any (λ (c : ClientRow). same_path c.role (parts_of l.role)) l.clients
