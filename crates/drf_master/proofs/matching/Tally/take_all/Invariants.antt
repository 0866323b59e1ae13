use Rattle.std.proofs.Common.{◌≡◌, List, [], ◌∷◌, ◌++◌, take}
use Rattle.drf_master.specs.Tallies.{IsTally, least_above, least_after}
use Rattle.drf_master.specs.declared.pass.Receipt.{Receipt}
use Rattle.drf_master.proofs.matching.Tally.take_all.Given as goal

-- the receipts so far are those of one more pass
abbrev pub invariant-loop-receipt : goal.invariant-loop-receipt
invariant-loop-receipt l =
    (least_above l.before ≡ least_after 0 (take l.receipt-index l.receipts))
    × ((lists : List (List Receipt)) → IsTally l.journal lists l.fn.self.named.items l.fn.self.wrong
    → IsTally l.journal (lists ++ take l.receipt-index l.receipts ∷ []) l.self.named.items l.self.wrong)
