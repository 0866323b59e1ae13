use Rattle.std.proofs.Common.{◌≡◌, ◌-◌, ◌≤◌, ◌∷◌, ◌++◌, [], List, map, take, length, length-append, refl, sym, ap, ◌∙◌, arith}
use Rattle.std.proofs.lemmas.Bool.{eq-eqb}
use Rattle.std.proofs.lemmas.List.{append-nil, map-append, take-append-le}
use Rattle.drf_rows.specs.declared.rows.TaskRow.{TaskRow}
use Rattle.drf_holdings.specs.Listed.{task_row}
use Rattle.drf_holdings.specs.declared.tasks.Task.{Task}
use Rattle.drf_holdings.proofs.Running.{kept_out}
use Rattle.drf_holdings.proofs.tasks.TaskTable.pop.Goals as goal

pub invariant_of-self : goal.invariant_of-self
invariant_of-self c =
    let left : List Task = c.pop.new.self in
    let task : Task = c.in-Some.task in
    let whole : c.self.inside.tasks ≡ left ++ task ∷ [] = c.in-Some.ensures.items in
    kept_out c.self.inside.index c.remove.new.self c.self.inside.tasks left c.self.inside.next task.serial task
    (record { before = left; after = []; whole = whole; left = sym (append-nil left); passes = eq-eqb task.serial task.serial refl })
    c.remove.ensures c.self.invariant

pub returns-in-Some-clause-prefix : goal.returns-in-Some-clause-prefix
returns-in-Some-clause-prefix c = λ count below.
    let left : List Task = c.pop.new.self in
    let task : Task = c.in-Some.task in
    let whole : c.args.self.now ≡ map task_row left ++ task.row ∷ [] =
    sym c.self.view_is ∙ ap (map task_row) c.in-Some.ensures.items ∙ map-append task_row left (task ∷ []) in
    let within : count ≤ length (map task_row left) = omega (arith, below, ap (λ (ts : List TaskRow). length ts) whole, length-append (map task_row left) (task.row ∷ [])) in
    sym (ap (take count) whole ∙ take-append-le count (map task_row left) (task.row ∷ []) within)

pub returns-in-Some-clause-fewer : goal.returns-in-Some-clause-fewer
returns-in-Some-clause-fewer c =
    let left : List Task = c.pop.new.self in
    let task : Task = c.in-Some.task in
    let whole : c.args.self.now ≡ map task_row left ++ task.row ∷ [] =
    sym c.self.view_is ∙ ap (map task_row) c.in-Some.ensures.items ∙ map-append task_row left (task ∷ []) in
    omega (arith, ap (λ (ts : List TaskRow). length ts) whole, length-append (map task_row left) (task.row ∷ []))

pub returns-in_default-clause-prefix : goal.returns-in_default-clause-prefix
returns-in_default-clause-prefix c = λ count below.
    absurd (omega (arith, below, ap (λ (ts : List TaskRow). length ts) (sym c.self.view_is ∙ ap (map task_row) c.in_default.ensures.none.0)))

pub returns-in_default-clause-fewer : goal.returns-in_default-clause-fewer
returns-in_default-clause-fewer c =
    ap (λ (ts : List Task). length (map task_row ts)) c.in_default.ensures.none.1
    ∙ ap (λ (ts : List TaskRow). length ts - 1) (sym (sym c.self.view_is ∙ ap (map task_row) c.in_default.ensures.none.0))
