use Rattle.std.proofs.Common.{◌≡◌, ℕ, ◌+◌, ◌≤◌, ◌↔◌, IsTrue, Bool, Option, Some, List, [], ◌∷◌, ◌++◌, take, slice_get, refl, ap, sym, subst, ◌∙◌, take_all}
use Rattle.std.proofs.lemmas.List.{take_more}
use Rattle.drf_master.specs.Tallies.{IsTally, least_after}
use Rattle.drf_master.specs.declared.pass.Receipt.{Receipt}
use Rattle.drf_master.proofs.Tallying.{tally-open, tally-push, judged, least_after-push}
use Rattle.drf_master.proofs.matching.Tally.take_all.Goals as goal

pub loop-receipt-init : goal.loop-receipt-init
loop-receipt-init c = (refl, λ lists tally. tally-open c.args.journal.now lists c.args.self.now.named.items c.args.self.now.wrong tally)

pub loop-receipt-preserved : goal.loop-receipt-preserved
loop-receipt-preserved c =
    let more : take (c.loop-receipt.receipt-index + 1) c.args.receipts.now ≡ take c.loop-receipt.receipt-index c.args.receipts.now ++ c.receipt-item.result ∷ [] =
    take_more c.args.receipts.now c.loop-receipt.receipt-index _ c.loop-receipt-test.true ∙ ap (λ x. take c.loop-receipt.receipt-index c.args.receipts.now ++ x ∷ []) (sym c.receipt-item.is) in
    let judgement = subst (λ (k : ℕ). IsTrue c.is_journals-is_journals.result ↔ ((k ≤ c.receipt-item.result.place) × (slice_get c.args.journal.now c.receipt-item.result.place ≡ Some c.receipt-item.result.entry)))
    c.loop-receipt.invariant.0 c.is_journals-is_journals.ensures in
    let its = judged c.args.journal.now (least_after 0 (take c.loop-receipt.receipt-index c.args.receipts.now)) c.receipt-item.result c.is_journals-is_journals.result judgement in (
      sym (ap (least_after 0) more ∙ least_after-push 0 (take c.loop-receipt.receipt-index c.args.receipts.now) c.receipt-item.result),
      λ lists tally. subst (λ (x : List Receipt × (List Bool × Option ℕ)). IsTally c.args.journal.now (lists ++ x.0 ∷ []) x.1.0 x.1.1)
          (λ i. (sym more i, (sym c.take.ensures.named i, sym c.take.ensures.wrong i)))
          (tally-push c.args.journal.now lists (take c.loop-receipt.receipt-index c.args.receipts.now) c.receipt-item.result c.loop-receipt.self.named.items c.loop-receipt.self.wrong c.is_journals-is_journals.result
          (c.loop-receipt.invariant.1 lists tally) its),
    )

pub returns : goal.returns
returns c lists tally =
    subst (λ (rs : List Receipt). IsTally c.args.journal.now (lists ++ rs ∷ []) c.loop-receipt.self.named.items c.loop-receipt.self.wrong)
    (take_all _ _ c.loop-receipt-test.false) (c.loop-receipt.invariant.1 lists tally)
