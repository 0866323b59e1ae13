use Rattle.std.proofs.Common.{◌≡◌, List, [], map, flat_map, refl, ap, subst, ◌∙◌, IfOk}
use Rattle.drf_bundle.specs.Taken.{rest_of_all}
use Rattle.drf_bundle.specs.declared.resource.Resource.{Resource}
use Rattle.drf_rows.specs.Holdings.{holding_of_task, parts_on}
use Rattle.drf_holdings.specs.Listed.{task_serial, bundles_at}
use Rattle.drf_holdings.proofs.Parts.{parts_listed}
use Rattle.drf_holdings.proofs.Running.{row_holdings}
use Rattle.drf_holdings.proofs.tasks.TaskTable.left_of.Goals as goal

pub returns-in-Some : goal.returns-in-Some
returns-in-Some c =
    let tasks = c.self.inside.tasks in
    let agent = c.args.agent.now in
    let serials = c.in-Some.serials.now.items in
    let parts : flat_map (bundles_at task_serial (λ t. t.row.bundle) tasks) serials ≡ parts_on agent (map holding_of_task c.args.self.now) =
    parts_listed task_serial (λ t. t.row.bundle) (λ t. holding_of_task t.row) agent (λ t. refl) tasks serials c.self.invariant.rising
    (c.in-Some.ensures ∙ c.self.invariant.listed.agents agent)
    ∙ ap (parts_on agent) (row_holdings tasks ∙ ap (map holding_of_task) c.self.view_is) in
    subst (λ (ps : List (List Resource)). IfOk c.less_tasks.result (λ left. left ≡ rest_of_all c.args.whole ps)) parts c.less_tasks.ensures

pub returns-in-None : goal.returns-in-None
returns-in-None c =
    let tasks = c.self.inside.tasks in
    let agent = c.args.agent.now in
    let parts : [] ≡ parts_on agent (map holding_of_task c.args.self.now) =
    parts_listed task_serial (λ t. t.row.bundle) (λ t. holding_of_task t.row) agent (λ t. refl) tasks [] c.self.invariant.rising
    (c.in-None.ensures ∙ c.self.invariant.listed.agents agent)
    ∙ ap (parts_on agent) (row_holdings tasks ∙ ap (map holding_of_task) c.self.view_is) in
    ap (rest_of_all c.args.whole) parts
