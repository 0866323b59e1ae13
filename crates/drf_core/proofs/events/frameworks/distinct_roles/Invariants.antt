use Rattle.std.proofs.Common.{◌≡◌}
use Rattle.drf_rows.specs.Members.{distinct}
use Rattle.drf_core.proofs.events.frameworks.distinct_roles.Given as goal

abbrev pub invariant-loop-role : goal.invariant-loop-role
invariant-loop-role l = l.kept.items ≡ distinct l.yielded
