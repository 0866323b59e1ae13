use Rattle.drf_explain.specs.ExplainedText.{finding_text}
use Rattle.drf_explain.proofs.Found.{added_more, added_over}
use Rattle.drf_explain.proofs.line.write_explained_lines.Goals as goal

pub loop-finding-preserved : goal.loop-finding-preserved
loop-finding-preserved c =
    added_more finding_text _ c.args.findings.now c.loop-finding.finding-index _ _ c.finding-item.result
    c.loop-finding-test.true c.finding-item.is c.in_ok-write_explained_line.ensures.ok c.loop-finding.invariant

pub returns : goal.returns
returns c =
    added_over finding_text _ c.args.findings.now c.loop-finding.finding-index _ c.loop-finding-test.false c.loop-finding.invariant
