use Rattle.std.proofs.Common.{◌≡◌, length, arith}
use Rattle.drf_why.proofs.PassersFound.{all_granted, one_granted}
use Rattle.drf_why.proofs.grants.Grants.of.Goals as goal

pub loop-finding-preserved : goal.loop-finding-preserved
loop-finding-preserved c =
    one_granted c.args.findings.now c.loop-finding.finding-index c.finding-item.result _ _ c.loop-finding.invariant c.loop-finding-test.true
    c.finding-item.is c.in_ok-add.ensures.all c.in_ok-add.ensures.before

pub returns : goal.returns
returns c =
    let done : c.loop-finding.finding-index ≡ length c.args.findings.now = omega arith in
    all_granted c.args.findings.now c.loop-finding.finding-index _ c.loop-finding.invariant done
