use Rattle.std.proofs.Common.{sym, subst, slice_index_or, arith}
use Rattle.drf_master.specs.Scripts.{DidJob, IsAsked}
use Rattle.drf_master.specs.declared.driving.Job.{Job}
use Rattle.drf_master.proofs.Scripts.{did-jobs}
use Rattle.drf_master.proofs.driving.run_all.Goals as goal

pub returns-clause-did : goal.returns-clause-did
returns-clause-did g c =
    let results = c.in_ok-results.results.items in
    let asked = IsAsked (g.G.Gate.lets c.args.gate.now) (g.G.Gate.sees c.args.gate.now) in
    let stops = g.G.Gate.stops c.args.gate.now in
    did-jobs asked stops c.args.jobs.items results (omega (arith, c.in_ok-results.ensures.len))
    (λ i d e below.
    let gives = (c.in_ok-results.ensures.each i d below).1 in
    subst (λ (job : Job). DidJob asked stops job (slice_index_or results i d)) (sym (gives.job_is e)) gives.call.met)
