use Rattle.drf_lines.specs.StateLine.{row_line}
use Rattle.drf_ask.proofs.list.TaskRowListed.push.Goals as goal

pub returns : goal.returns
unfolding row_line
returns c = c.push_task_row.ensures.appends.ok
