use Rattle.std.proofs.Common.{ap}
use Rattle.std.proofs.lemmas.Result.{err_from_is_err_and}
use Rattle.drf_why.proofs.Lists.{reported_in, written_all, written_before, written_next, written_none, written_part}
use Rattle.drf_why.proofs.explanations.write_agents.Goals as goal

pub loop-findings-init : goal.loop-findings-init
loop-findings-init g c = written_none _ _ _

pub loop-findings-preserved : goal.loop-findings-preserved
loop-findings-preserved g c =
    let next = rw c.in-Some.is at c.in_ok-findings.ensures.reported in
    written_next _ _ _ _ _ c.loop-findings.invariant _ _ _ (ap reported_in next.1) c.deref.ensures.value _ c.in_ok-write_list.ensures

pub returns-in_err-findings : goal.returns-in_err-findings
returns-in_err-findings g c =
    let p = err_from_is_err_and c.from_residual.result c.from_residual.ensures.1 in
    rw (p.1, p.2) (written_before _ _ _ _ _ c.loop-findings.invariant)

pub returns-in_err-write_list : goal.returns-in_err-write_list
returns-in_err-write_list g c =
    let p = err_from_is_err_and c.from_residual-in_err-write_list.result c.from_residual-in_err-write_list.ensures.1 in
    let next = rw c.in-Some.is at c.in_ok-findings.ensures.reported in
    rw (p.1, p.2) (written_part _ _ _ _ _ c.loop-findings.invariant _ _ _ (ap reported_in next.1) c.deref.ensures.value _ _ c.in_err-write_list.ensures)

pub returns : goal.returns
returns g c =
    let none = rw c.in_default.is at c.in_ok-findings.ensures.reported in
    written_all _ _ _ _ _ c.loop-findings.invariant (ap reported_in none.0)
