use Rattle.std.proofs.Common.{◌≡◌, map}
use Rattle.drf_rows.specs.Members.{new_client}
use Rattle.drf_core.proofs.events.frameworks.new_clients.Given as goal

abbrev pub invariant-loop-role : goal.invariant-loop-role
invariant-loop-role l = l.clients.items ≡ map new_client l.yielded
