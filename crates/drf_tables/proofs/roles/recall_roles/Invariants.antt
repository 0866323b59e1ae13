use Rattle.std.proofs.Common.{take, All}
use Rattle.drf_role.specs.Role.{IsRole}
use Rattle.drf_tables.proofs.roles.recall_roles.Given as goal

abbrev pub invariant-loop-role : goal.invariant-loop-role
invariant-loop-role l = All IsRole (take l.role-index l.roles)
