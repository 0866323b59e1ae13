use Rattle.std.proofs.Common.{take, All}
use Rattle.drf_lines.specs.FrameworkRows.{client_value, IsClientRead}
use Rattle.drf_lines.proofs.Appends.{AppendsItems}
use Rattle.drf_lines.proofs.clients.put_client_list.Given as goal

abbrev pub invariant-loop-i : goal.invariant-loop-i
invariant-loop-i l = record {
  written : AppendsItems client_value l.clients l.i l.fn.line.items l.line.items;
  read : All IsClientRead (take l.i l.clients);
}
