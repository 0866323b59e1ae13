use Rattle.std.proofs.Common.{sym, subst}
use Rattle.drf_holdings.specs.Listed.{AreTasksKept}
use Rattle.drf_holdings.proofs.Running.{kept_out}
use Rattle.drf_holdings.proofs.tasks.take_task.Goals as goal

pub returns-in_err-task-clause-taken : goal.returns-in_err-task-clause-taken
returns-in_err-task-clause-taken c = rw c.from_residual.ensures c.in_err-task.ensures.taken

pub returns-in_err-task-clause-kept : goal.returns-in_err-task-clause-kept
returns-in_err-task-clause-kept c next kept =
    subst (λ ts. AreTasksKept c.args.index.now ts next) (sym c.in_err-task.ensures.taken.same) kept

pub returns-clause-kept : goal.returns-clause-kept
returns-clause-kept c next kept =
    kept_out c.args.index.now c.remove.new.self c.args.tasks.now c.take.new.self next c.args.serial c.in_ok-task.task
    c.in_ok-task.ensures.taken c.remove.ensures kept
