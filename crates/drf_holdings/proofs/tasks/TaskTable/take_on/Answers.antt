use Rattle.std.proofs.Common.{◌≡◌, ◌-◌, List, length, map, filter, sym, subst}
use Rattle.drf_role.specs.Text.{same_text}
use Rattle.drf_rows.specs.declared.rows.TaskRow.{TaskRow}
use Rattle.drf_holdings.specs.Listed.{numbers_in, task_serial, task_row, task_on}
use Rattle.drf_holdings.specs.Taking.{HasNone}
use Rattle.drf_holdings.proofs.Running.{task_taken, task_none}
use Rattle.drf_holdings.proofs.Removed.{none_by, rows_none}
use Rattle.drf_holdings.proofs.tasks.TaskTable.take_on.Goals as goal

pub returns-in_err-serial : goal.returns-in_err-serial
returns-in_err-serial c =
    let tasks = c.self.inside.tasks in
    let agent = c.args.agent.now in
    let ns = numbers_in c.self.inside.index.agents agent in
    let listed : ns ≡ map task_serial (filter (task_on agent) tasks) = c.self.invariant.listed.agents agent in
    let none = rows_none task_row (λ (t : TaskRow). same_text t.agent agent) tasks tasks (none_by task_serial (task_on agent) tasks ns listed (sym c.in_err-serial.ensures)) in
    rw c.from_residual.ensures (subst (λ (rows : List TaskRow). HasNone (λ t. same_text t.agent agent) rows rows) c.self.view_is none)

pub invariant_of-self : goal.invariant_of-self
invariant_of-self c = c.take_task.ensures.kept c.self.inside.next c.self.invariant

pub returns-in_err-task : goal.returns-in_err-task
returns-in_err-task c =
    let tasks = c.self.inside.tasks in
    let agent = c.args.agent.now in
    let ns = numbers_in c.self.inside.index.agents agent in
    let listed : ns ≡ map task_serial (filter (task_on agent) tasks) = c.self.invariant.listed.agents agent in
    rw c.from_residual-in_err-task.ensures (task_none tasks c.take_task.new.tasks c.args.self.now c.self.view_is c.self.invariant.rising
    (task_on agent) ns listed (λ t. same_text t.agent agent) (λ t here. here) c.in_ok-serial.serial (length ns - 1) (sym c.in_ok-serial.ensures) c.in_err-task.ensures.taken)

pub invariant_of-self-2 : goal.invariant_of-self-2
invariant_of-self-2 c = c.take_task.ensures.kept c.self.inside.next c.self.invariant

pub returns : goal.returns
returns c =
    let tasks = c.self.inside.tasks in
    let agent = c.args.agent.now in
    let ns = numbers_in c.self.inside.index.agents agent in
    let listed : ns ≡ map task_serial (filter (task_on agent) tasks) = c.self.invariant.listed.agents agent in
    task_taken tasks c.take_task.new.tasks c.args.self.now c.self.view_is c.self.invariant.rising
    (task_on agent) ns listed (λ t. same_text t.agent agent) (λ t here. here) c.in_ok-serial.serial (length ns - 1) (sym c.in_ok-serial.ensures) c.in_ok-task.task c.in_ok-task.ensures.taken
