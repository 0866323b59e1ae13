use Rattle.std.proofs.Common.{take, All}
use Rattle.drf_lines.specs.TaskTexts.{task_value}
use Rattle.drf_lines.proofs.Events.{IsStartRead}
use Rattle.drf_lines.proofs.Appends.{AppendsItems}
use Rattle.drf_lines.proofs.tasks.put_task_list.Given as goal

abbrev pub invariant-loop-i : goal.invariant-loop-i
invariant-loop-i l = record {
  written : AppendsItems task_value l.tasks l.i l.fn.line.items l.line.items;
  read : All IsStartRead (take l.i l.tasks);
}
