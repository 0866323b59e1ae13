use Rattle.std.proofs.Common.{rules, sym, subst}
use Rattle.std.proofs.lemmas.Result.{IfErr-weaker, IfOk-weaker}
use Rattle.drf_master.specs.Closing.{AreOf}
use Rattle.drf_master.specs.Scripts.{IsAsked, AreDone, HaveAllRun, IsFirstFault, IsRunFault}
use Rattle.drf_master.proofs.Scripts.{all-run, own-jobs, run-fault}
use Rattle.drf_master.proofs.driving.run_scripts.Goals as goal

pub run_all-requires-clause-own : goal.run_all-requires-clause-own
run_all-requires-clause-own g c κs within =
    let key = c.args.master.now.key in
    let own : AreOf key c.args.passes.items = search rules in
    own-jobs key c.in_ok-jobs.jobs.items (subst (AreOf key) (sym c.in_ok-jobs.ensures.passes) own)

pub returns-clause-run : goal.returns-clause-run
returns-clause-run g c =
    let key = c.args.master.now.key in
    let asked = IsAsked (g.G.Gate.lets c.args.gate.now) (g.G.Gate.sees c.args.gate.now) in
    let stops = g.G.Gate.stops c.args.gate.now in
    let own : AreOf key c.args.passes.items = search rules in
    let jobs = c.in_ok-jobs.jobs.items in
    let results = c.in_ok-results.results.items in
    IfOk-weaker c.all_done.result (λ r. AreDone results r.0.items r.1.items) (λ r. HaveAllRun asked key c.args.passes.items c.args.scripts.items r.0.items r.1.items)
    (λ r are. all-run asked stops key jobs results c.args.passes.items c.args.scripts.items r.0.items r.1.items own c.in_ok-jobs.ensures.passes
    c.in_ok-jobs.ensures.scripts c.in_ok-jobs.ensures.numbers c.in_ok-results.ensures.did are) c.all_done.ensures.done

pub returns-clause-fault : goal.returns-clause-fault
returns-clause-fault g c =
    let key = c.args.master.now.key in
    let asked = IsAsked (g.G.Gate.lets c.args.gate.now) (g.G.Gate.sees c.args.gate.now) in
    let stops = g.G.Gate.stops c.args.gate.now in
    let own : AreOf key c.args.passes.items = search rules in
    let jobs = c.in_ok-jobs.jobs.items in
    let results = c.in_ok-results.results.items in
    IfErr-weaker c.all_done.result (IsFirstFault results) (IsRunFault asked stops key c.args.passes.items c.args.scripts.items)
    (λ fault first. run-fault asked stops key jobs results c.args.passes.items c.args.scripts.items fault own c.in_ok-jobs.ensures.scripts
    c.in_ok-jobs.ensures.numbers c.in_ok-results.ensures.did first) c.all_done.ensures.fault
