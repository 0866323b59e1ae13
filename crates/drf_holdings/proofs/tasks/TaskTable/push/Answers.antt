use Rattle.std.proofs.Common.{ap, ◌∙◌}
use Rattle.std.specs.List.{list_any}
use Rattle.drf_rows.specs.Releases.{is_task}
use Rattle.drf_holdings.proofs.tasks.TaskTable.push.Goals as goal

pub put_task-requires-clause-kept : goal.put_task-requires-clause-kept
put_task-requires-clause-kept c = c.in_ok-serial.ensures.ok.1

pub put_task-requires-clause-new : goal.put_task-requires-clause-new
put_task-requires-clause-new c =
    ap (list_any (is_task c.args.row.framework c.args.row.name)) (c.next_serial.ensures.rows ∙ c.self.view_is) ∙ c.requires
