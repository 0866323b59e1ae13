use Rattle.std.proofs.Common.{◌≡◌, filter, not}
use Rattle.drf_rows.specs.Roles.{has_role}
use Rattle.drf_core.proofs.events.frameworks.new_roles.Given as goal

abbrev pub invariant-loop-role : goal.invariant-loop-role
invariant-loop-role l = l.kept.items ≡ filter (λ role. not (has_role l.clients role)) l.yielded
