use Rattle.std.proofs.Common.{take, All}
use Rattle.drf_lines.specs.FrameworkEvents.{role_value}
use Rattle.drf_lines.proofs.Texts.{IsRoleRead}
use Rattle.drf_lines.proofs.Appends.{AppendsItems}
use Rattle.drf_lines.proofs.frameworks.put_role_list.Given as goal

abbrev pub invariant-loop-i : goal.invariant-loop-i
invariant-loop-i l = record {
  written : AppendsItems role_value l.roles l.i l.fn.line.items l.line.items;
  read : All IsRoleRead (take l.i l.roles);
}
