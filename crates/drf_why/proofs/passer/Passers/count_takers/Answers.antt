use Rattle.std.proofs.Common.{sym, ap, ◌∙◌}
use Rattle.std.specs.Borrow.{Bor}
use Rattle.std.specs.Prelude.{fold}
use Rattle.drf_explain.specs.declared.finding.Finding.{Finding}
use Rattle.drf_why.specs.Passers.{taker_in, with_passer}
use Rattle.drf_why.proofs.PassersFound.{borrowed-takers}
use Rattle.drf_why.proofs.Passed.{counted_more, counted_over}
use Rattle.drf_why.proofs.passer.Passers.count_takers.Goals as goal

pub loop-finding-preserved : goal.loop-finding-preserved
loop-finding-preserved c =
    counted_more (λ (f : Bor Finding). taker_in c.args.bundle.now f.now) _ c.args.findings.now c.loop-finding.finding-index _ _ c.finding-item.result
    c.loop-finding-test.true c.finding-item.is c.in_ok-count_taker.ensures c.loop-finding.invariant

pub returns : goal.returns
returns c =
    counted_over (λ (f : Bor Finding). taker_in c.args.bundle.now f.now) _ c.args.findings.now c.loop-finding.finding-index _ c.loop-finding-test.false
    c.loop-finding.invariant
    ∙ ap (fold with_passer c.args.self.now) (sym (borrowed-takers c.args.bundle.now c.args.findings.now))
