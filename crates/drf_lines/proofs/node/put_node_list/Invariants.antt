use Rattle.drf_lines.specs.ReportLine.{node_value}
use Rattle.drf_lines.proofs.Appends.{AppendsItems}
use Rattle.drf_lines.proofs.node.put_node_list.Given as goal

abbrev pub invariant-loop-i : goal.invariant-loop-i
invariant-loop-i l = AppendsItems node_value l.nodes l.i l.fn.line.items l.line.items
