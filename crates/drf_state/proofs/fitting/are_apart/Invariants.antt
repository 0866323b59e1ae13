use Rattle.std.proofs.Common.{◌≡◌, take, true, not}
use Rattle.std.specs.List.{list_all}
use Rattle.drf_role.specs.Path.{same_path}
use Rattle.drf_rows.specs.declared.rows.ClientRow.{ClientRow}
use Rattle.drf_state.proofs.fitting.are_apart.Given as goal

abbrev pub invariant-loop-client : goal.invariant-loop-client
invariant-loop-client l = list_all (λ (c : ClientRow). not (same_path l.role c.role)) (take l.client-index l.clients) ≡ true
