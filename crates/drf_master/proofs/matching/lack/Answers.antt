use Rattle.std.proofs.Common.{◌≡◌, ◌+◌, List, take, ap, sym, ◌∙◌, arith, [], ◌∷◌, ◌++◌, length}
use Rattle.std.proofs.lemmas.List.{map_more}
use Rattle.drf_master.specs.Matching.{count, receipts_of}
use Rattle.drf_master.specs.Receipts.{Held}
use Rattle.drf_master.specs.declared.pass.Receipt.{Receipt}
use Rattle.drf_master.proofs.matching.lack.Goals as goal

count-push : (lists : List (List Receipt)) (rs : List Receipt) → count (lists ++ rs ∷ []) ≡ count lists + length rs
count-push [] rs = omega arith
count-push (l ∷ lists) rs = let rest = count-push lists rs in omega (arith, rest)

pub loop-pass-preserved : goal.loop-pass-preserved
loop-pass-preserved c =
    let before = receipts_of (take c.loop-pass.pass-index c.args.passes.now) in
    let more : receipts_of (take (c.loop-pass.pass-index + 1) c.args.passes.now) ≡ before ++ c.receipts.result.now ∷ [] =
    map_more (λ (h : Held). h.receipts) c.args.passes.now c.loop-pass.pass-index _ c.loop-pass-test.true
    ∙ ap (λ rs. before ++ rs ∷ []) (sym (c.receipts.ensures ∙ ap (λ (h : Held). h.receipts) c.pass-item.is)) in
    let counted : count (receipts_of (take (c.loop-pass.pass-index + 1) c.args.passes.now)) ≡ count before + length c.receipts.result.now =
    ap count more ∙ count-push before c.receipts.result.now in
    omega (arith, counted, c.saturating_sub-left.ensures, c.loop-pass.invariant)
