use Rattle.std.proofs.Common.{◌≡◌, [], ◌∷◌, List, map, filter, refl, sym, subst, ◌∙◌}
use Rattle.std.proofs.lemmas.Bool.{and_parts}
use Rattle.drf_role.specs.Text.{same_text}
use Rattle.drf_rows.specs.declared.rows.TaskRow.{TaskRow}
use Rattle.drf_holdings.specs.Listed.{task_serial, task_row, task_named}
use Rattle.drf_holdings.specs.Taking.{HasNone}
use Rattle.drf_holdings.proofs.Running.{task_taken, task_none, named_none}
use Rattle.drf_holdings.proofs.Removed.{any_listed, rows_none}
use Rattle.drf_holdings.proofs.tasks.TaskTable.take_of.Goals as goal

pub returns-in_err-serial : goal.returns-in_err-serial
returns-in_err-serial c =
    let tasks = c.self.inside.tasks in
    let framework = c.args.framework.now in
    let none = rows_none task_row (λ (t : TaskRow). same_text t.framework framework) tasks tasks (record {
      none = named_none framework tasks (λ name. any_listed task_serial (task_named (framework, name)) tasks
          (sym (c.self.invariant.listed.names (framework, name)) ∙ c.in_err-serial.ensures.none name));
      same = refl;
    }) in
    rw c.from_residual.ensures (subst (λ (rows : List TaskRow). HasNone (λ t. same_text t.framework framework) rows rows) c.self.view_is none)

pub invariant_of-self : goal.invariant_of-self
invariant_of-self c = c.take_task.ensures.kept c.self.inside.next c.self.invariant

pub returns-in_err-task : goal.returns-in_err-task
returns-in_err-task c =
    let tasks = c.self.inside.tasks in
    let framework = c.args.framework.now in
    let name = c.in_ok-serial.ensures.some.0 in
    let listed : c.in_ok-serial.serial ∷ [] ≡ map task_serial (filter (task_named (framework, name)) tasks) =
    sym c.in_ok-serial.ensures.some.1 ∙ c.self.invariant.listed.names (framework, name) in
    rw c.from_residual-in_err-task.ensures (task_none tasks c.take_task.new.tasks c.args.self.now c.self.view_is c.self.invariant.rising
    (task_named (framework, name)) (c.in_ok-serial.serial ∷ []) listed (λ t. same_text t.framework framework)
    (λ t here. (and_parts (same_text t.row.framework framework) (same_text t.row.name name) here).0) c.in_ok-serial.serial 0 refl c.in_err-task.ensures.taken)

pub invariant_of-self-2 : goal.invariant_of-self-2
invariant_of-self-2 c = c.take_task.ensures.kept c.self.inside.next c.self.invariant

pub returns : goal.returns
returns c =
    let tasks = c.self.inside.tasks in
    let framework = c.args.framework.now in
    let name = c.in_ok-serial.ensures.some.0 in
    let listed : c.in_ok-serial.serial ∷ [] ≡ map task_serial (filter (task_named (framework, name)) tasks) =
    sym c.in_ok-serial.ensures.some.1 ∙ c.self.invariant.listed.names (framework, name) in
    task_taken tasks c.take_task.new.tasks c.args.self.now c.self.view_is c.self.invariant.rising
    (task_named (framework, name)) (c.in_ok-serial.serial ∷ []) listed (λ t. same_text t.framework framework)
    (λ t here. (and_parts (same_text t.row.framework framework) (same_text t.row.name name) here).0) c.in_ok-serial.serial 0 refl c.in_ok-task.task c.in_ok-task.ensures.taken
