use Rattle.std.proofs.Common.{◌≡◌, [], ◌∷◌, List, Some, map, filter, refl, sym, subst, ◌∙◌}
use Rattle.std.proofs.lemmas.Bool.{false≢true}
use Rattle.drf_rows.specs.Releases.{is_task}
use Rattle.drf_rows.specs.declared.rows.TaskRow.{TaskRow}
use Rattle.drf_holdings.specs.Listed.{TaskKey, task_serial, task_row, task_named}
use Rattle.drf_holdings.specs.Taking.{IsTaken, HasNone}
use Rattle.drf_holdings.specs.declared.tasks.Task.{Task}
use Rattle.drf_holdings.proofs.Running.{task_taken, kept_out}
use Rattle.drf_holdings.proofs.Removed.{any_listed, rows_none, not_missing, taken_by}
use Rattle.drf_holdings.proofs.Unlisted.{listed_without, named_gone, names_same}
use Rattle.drf_holdings.proofs.tasks.TaskTable.take_named.Goals as goal

pub returns-in_err-serial : goal.returns-in_err-serial
returns-in_err-serial c =
    let tasks = c.self.inside.tasks in
    let framework = c.args.framework.now in
    let name = c.args.name.now in
    let listed : [] ≡ map task_serial (filter (task_named (framework, name)) tasks) =
    c.in_err-serial.ensures.found ∙ c.self.invariant.listed.names (framework, name) in
    let none = rows_none task_row (is_task framework name) tasks tasks (record { none = any_listed task_serial (task_named (framework, name)) tasks (sym listed); same = refl }) in
    rw c.from_residual.ensures (subst (λ (rows : List TaskRow). HasNone (is_task framework name) rows (map task_row tasks)) c.self.view_is none)

pub invariant_of-self : goal.invariant_of-self
invariant_of-self c =
    names_same c.self.inside.index c.take.new.self c.args.framework.now c.args.name.now c.self.inside.tasks c.self.inside.next
    c.in_err-serial.ensures.found c.take.ensures.left c.self.invariant

pub invariant_of-self-in_err-task : goal.invariant_of-self-in_err-task
invariant_of-self-in_err-task c =
    let key : TaskKey = (c.args.framework.now, c.args.name.now) in
    let serial = c.in_ok-serial.serial in
    absurd (false≢true (not_missing task_serial (task_named key) c.self.inside.tasks (serial ∷ [])
    (c.in_ok-serial.ensures.found ∙ c.self.invariant.listed.names key) serial 0 c.take-2.new.self refl c.in_err-task.ensures.taken))

pub returns-in_err-task : goal.returns-in_err-task
returns-in_err-task c =
    let key : TaskKey = (c.args.framework.now, c.args.name.now) in
    let serial = c.in_ok-serial.serial in
    absurd (false≢true (not_missing task_serial (task_named key) c.self.inside.tasks (serial ∷ [])
    (c.in_ok-serial.ensures.found ∙ c.self.invariant.listed.names key) serial 0 c.take-2.new.self refl c.in_err-task.ensures.taken))

pub invariant_of-self-2 : goal.invariant_of-self-2
invariant_of-self-2 c =
    let old = c.self.inside.index in
    let tasks = c.self.inside.tasks in
    let framework = c.args.framework.now in
    let name = c.args.name.now in
    let serial = c.in_ok-serial.serial in
    let task = c.in_ok-task.task in
    let listed : serial ∷ [] ≡ map task_serial (filter (task_named (framework, name)) tasks) =
    c.in_ok-serial.ensures.found ∙ c.self.invariant.listed.names (framework, name) in
    let out : IsTaken (λ (t : Task). is_task framework name t.row) tasks c.take-2.new.self task =
    taken_by task_serial (task_named (framework, name)) tasks (serial ∷ []) listed (λ t. is_task framework name t.row) (λ t here. here)
    serial 0 c.take-2.new.self c.self.invariant.rising refl (Some task) c.in_ok-task.ensures.taken in
    kept_out old (record { agents = c.remove.new.self; names = c.take.new.self }) tasks c.take-2.new.self c.self.inside.next serial task
    c.in_ok-task.ensures.taken
    (λ before after rising. listed_without old c.remove.new.self c.take.new.self before after task rising c.remove.ensures
    (named_gone old.names c.take.new.self framework name task out.passes c.take.ensures.left))
    c.self.invariant

pub returns : goal.returns
returns c =
    let tasks = c.self.inside.tasks in
    let framework = c.args.framework.now in
    let name = c.args.name.now in
    let listed : c.in_ok-serial.serial ∷ [] ≡ map task_serial (filter (task_named (framework, name)) tasks) =
    c.in_ok-serial.ensures.found ∙ c.self.invariant.listed.names (framework, name) in
    task_taken tasks c.take-2.new.self c.args.self.now c.self.view_is c.self.invariant.rising
    (task_named (framework, name)) (c.in_ok-serial.serial ∷ []) listed (is_task framework name) (λ t here. here) c.in_ok-serial.serial 0 refl
    c.in_ok-task.task c.in_ok-task.ensures.taken
