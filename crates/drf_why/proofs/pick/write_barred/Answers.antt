use Rattle.std.proofs.Common.{◌++◌, if◌then◌else◌, [], ap, ◌∙◌}
use Rattle.drf_explain.specs.ExplainedText.{finding_text}
use Rattle.drf_why.specs.Pick.{bars_all}
use Rattle.drf_why.proofs.Picked.{picked_more, picked_over}
use Rattle.drf_why.proofs.pick.write_barred.Goals as goal

pub loop-finding-preserved : goal.loop-finding-preserved
loop-finding-preserved c =
    picked_more bars_all _ c.args.findings.now c.loop-finding.finding-index _ _ c.finding-item.result
    c.loop-finding-test.true c.finding-item.is
    (c.in_ok-write_if.ensures ∙ ap (λ b. c.loop-finding.text.items ++ (if b then finding_text c.finding-item.result else [])) c.bars_all.ensures)
    c.loop-finding.invariant

pub returns : goal.returns
returns c = picked_over bars_all _ c.args.findings.now c.loop-finding.finding-index _ c.loop-finding-test.false c.loop-finding.invariant
