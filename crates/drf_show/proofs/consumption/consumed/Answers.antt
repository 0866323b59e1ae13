use Rattle.std.proofs.Common.{ap, ◌∙◌}
use Rattle.drf_bundle.specs.Quantities.{with_amount}
use Rattle.drf_gates.specs.quota.Allowance.{used_at}
use Rattle.drf_show.proofs.Counting.{used_more}
use Rattle.drf_show.proofs.consumption.consumed.Goals as goal

pub loop-entry-preserved : goal.loop-entry-preserved
loop-entry-preserved c =
    let amount = c.amount-amount.ensures.value ∙ ap (used_at c.args.consumption.now c.args.role.now) c.text.ensures.text in
    used_more c.args.consumption.now c.args.role.now c.entries-entries.result.now _ _ c.loop-entry.entry-index c.entry-item.result
    c.loop-entry-test.true c.entry-item.is c.loop-entry.invariant
    (c.in_ok-set.ensures.ok ∙ (λ i. with_amount c.loop-entry.amounts (c.in_ok-copy.ensures i) (amount i)))
