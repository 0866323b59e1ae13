use Rattle.std.proofs.Common.{take, All}
use Rattle.drf_role.specs.Role.{IsRole}
use Rattle.drf_rows.specs.declared.rows.ClientRow.{ClientRow}
use Rattle.drf_saved.proofs.saved.recall_roles.Given as goal

abbrev pub invariant-loop-client : goal.invariant-loop-client
invariant-loop-client l = All (λ (c : ClientRow). IsRole c.role) (take l.client-index l.clients)
