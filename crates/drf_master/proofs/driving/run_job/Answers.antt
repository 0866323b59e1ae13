use Rattle.std.proofs.Common.{length, rules}
use Rattle.drf_master.specs.Scripts.{IsAsked, IsJobFault}
use Rattle.drf_master.specs.declared.driving.DriveFault.{DriveFault}
use Rattle.drf_master.proofs.Scripts.{job-cut}
use Rattle.drf_master.proofs.driving.run_job.Goals as goal

pub returns-in_err-replies : goal.returns-in_err-replies
returns-in_err-replies g c =
    let asked = IsAsked (g.G.Gate.lets c.args.gate.now) (g.G.Gate.sees c.args.gate.now) c.args.job.worker in
    let stops = g.G.Gate.stops c.args.gate.now c.args.job.worker in
    let fault : DriveFault = c.in_err-replies.field-0.0 in
    let stopped : IsJobFault asked stops (length c.args.job.script.items) fault =
    job-cut asked stops c.args.job.pass c.run_script.new.pass c.args.job.script.items fault c.in_err-replies.ensures.cut in
    search rules
