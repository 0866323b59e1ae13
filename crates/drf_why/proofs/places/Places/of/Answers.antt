use Rattle.std.proofs.Common.{◌≡◌, ◌-◌, Some, cond, length, drop, sym, ap, ◌∙◌, arith}
use Rattle.std.specs.List.{position_from}
use Rattle.std.proofs.lemmas.Iterator.Adapters.{position_from-zero}
use Rattle.std.proofs.lemmas.List.{drop_all}
use Rattle.drf_why.specs.Pick.{is_of_client}
use Rattle.drf_why.proofs.PassersFound.{place_more}
use Rattle.drf_why.proofs.places.Places.of.Goals as goal

pub loop-i-init : goal.loop-i-init
loop-i-init c = λ path.
    let findings = c.args.findings.now in
    c.new-places.ensures path
    ∙ sym (ap (position_from (is_of_client path) (length findings)) (drop_all (length findings) findings (omega arith)))

pub loop-i-preserved : goal.loop-i-preserved
loop-i-preserved c = λ path.
    let findings = c.args.findings.now in
    let finding = c.index-findings-i.result in
    c.in_ok-put_finding.ensures path
    ∙ ap (cond (is_of_client path finding) (Some (c.loop-i.i - 1))) (c.loop-i.invariant path)
    ∙ place_more (is_of_client path) findings c.loop-i.i (c.loop-i.i - 1) finding (omega arith) (omega arith) c.index-findings-i.is

pub returns : goal.returns
returns c = λ path.
    let findings = c.args.findings.now in
    let done : c.loop-i.i ≡ 0 = omega arith in
    c.loop-i.invariant path
    ∙ (λ k. position_from (is_of_client path) (done k) (drop (done k) findings))
    ∙ sym (position_from-zero (is_of_client path) findings)
