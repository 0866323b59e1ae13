use Rattle.std.proofs.Common.{◌≡◌, ◌+◌, ◌∷◌, [], ◌++◌, List, map, length, sym, ap, subst, ◌∙◌, append_assoc, length-append, arith}
use Rattle.std.proofs.lemmas.List.{length-map}
use Rattle.drf_rows.specs.Offers.{AreNew}
use Rattle.drf_rows.specs.declared.rows.TaskRow.{TaskRow}
use Rattle.drf_holdings.specs.Listed.{task_row}
use Rattle.drf_holdings.specs.declared.tasks.Task.{Task}
use Rattle.drf_holdings.proofs.tasks.renumbered.Goals as goal

pub put_task-requires-clause-new : goal.put_task-requires-clause-new
put_task-requires-clause-new c =
    let at = c.loop-task in
    let new : AreNew (map task_row at.copy) (c.in-Some.task.now.row ∷ map task_row c.next.new.self) =
    subst (λ (ts : List Task). AreNew (map task_row at.copy) (map task_row ts)) c.in-Some.ensures.steps at.invariant.new in
    rw c.in_ok-copy.ensures new.0

pub overflow_add-serial : goal.overflow_add-serial
overflow_add-serial c = omega (arith, c.loop-task.invariant.total, c.values-task-items.ensures.fits)

pub loop-task-preserved : goal.loop-task-preserved
loop-task-preserved c =
    let at = c.loop-task in
    let task : Task = c.in-Some.task.now in
    let rest : List Task = c.next.new.self in
    let step : at.task-iterator ≡ task ∷ rest = c.in-Some.ensures.steps in
    let new : AreNew (map task_row at.copy) (task.row ∷ map task_row rest) =
    subst (λ (ts : List Task). AreNew (map task_row at.copy) (map task_row ts)) step at.invariant.new in
    let put : map task_row c.put_task.new.tasks ≡ map task_row at.copy ++ task.row ∷ [] =
    c.in_ok-put_task.ensures.ok ∙ ap (λ (r : TaskRow). map task_row at.copy ++ r ∷ []) c.in_ok-copy.ensures in
    let long : length c.put_task.new.tasks ≡ length at.copy + 1 =
    sym (length-map c.put_task.new.tasks task_row) ∙ ap (λ (rs : List TaskRow). length rs) put
    ∙ length-append (map task_row at.copy) (task.row ∷ []) ∙ ap (λ n. n + 1) (length-map at.copy task_row) in
    let less = ap (λ (ts : List Task). length ts) step in
    record {
      rows = ap (λ (rs : List TaskRow). rs ++ map task_row rest) put
          ∙ append_assoc (map task_row at.copy) (task.row ∷ []) (map task_row rest)
          ∙ ap (λ (ts : List Task). map task_row at.copy ++ map task_row ts) (sym step)
          ∙ at.invariant.rows;
      new = subst (λ (rs : List TaskRow). AreNew rs (map task_row rest)) (sym put) new.1;
      kept = c.in_ok-put_task.ensures.kept;
      number = omega (arith, at.invariant.number, long);
      total = omega (arith, at.invariant.total, less);
    }
