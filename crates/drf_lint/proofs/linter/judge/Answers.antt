use Rattle.std.proofs.lemmas.Result.{err_from_is_err_and}
use Rattle.drf_lint.proofs.Judges.{stopped-event, stopped-fault}
use Rattle.drf_lint.proofs.linter.judge.Goals as goal

pub returns-in_err-write_form-in-Ok-clause-err : goal.returns-in_err-write_form-in-Ok-clause-err
returns-in_err-write_form-in-Ok-clause-err g c =
    let p = err_from_is_err_and c.from_residual.result c.from_residual.ensures.1 in
    let failed = c.in_err-write_form-in-Ok.ensures in
    rw (p.1, p.2)
    (stopped-event c.args.write c.args.number c.args.line.now c.in-Ok.event c.in-Ok.ensures _ _ _ _ failed.stop failed.err failed.memory)

pub returns-in_err-report-in-Err-Fault-clause-err : goal.returns-in_err-report-in-Err-Fault-clause-err
returns-in_err-report-in-Err-Fault-clause-err g c =
    let p = err_from_is_err_and c.from_residual-in_err-report-in-Err-Fault.result c.from_residual-in_err-report-in-Err-Fault.ensures.1 in
    let failed = c.in_err-report-in-Err-Fault.ensures in
    rw (p.1, p.2)
    (stopped-fault c.args.write c.args.number c.args.line.now c.in-Err-Fault.said (rw c.in-Err-Fault.field-0-is at c.in-Err-Fault.ensures) _ _ _ _ failed.stop failed.err failed.memory)
