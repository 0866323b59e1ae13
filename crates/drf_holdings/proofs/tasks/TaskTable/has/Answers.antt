use Rattle.std.proofs.Common.{ap, ◌∙◌}
use Rattle.std.specs.List.{list_any}
use Rattle.drf_rows.specs.Releases.{is_task}
use Rattle.drf_holdings.specs.Listed.{task_serial, task_row}
use Rattle.drf_holdings.proofs.Removed.{some_listed}
use Rattle.drf_holdings.proofs.tasks.TaskTable.has.Goals as goal

pub returns : goal.returns
returns c =
    let framework = c.args.framework.now in
    let name = c.args.name.now in
    c.is_some.ensures
    ∙ some_listed task_row (is_task framework name) task_serial c.get.result c.self.inside.tasks
    (c.get.ensures ∙ c.self.invariant.listed.names (framework, name))
    ∙ ap (list_any (is_task framework name)) c.self.view_is
