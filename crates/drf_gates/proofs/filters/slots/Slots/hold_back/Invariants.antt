use Rattle.drf_rows.specs.Filters.{holds_back}
use Rattle.drf_gates.specs.filters.Index.{pair_hash}
use Rattle.drf_gates.specs.filters.Slots.{slot_passes}
use Rattle.drf_gates.proofs.filters.Held.{IsWalked}
use Rattle.drf_gates.proofs.filters.slots.Slots.hold_back.Given as goal

abbrev pub invariant-loop-after : goal.invariant-loop-after
invariant-loop-after l =
    IsWalked l.self.rows.items l.self.pairs (slot_passes (holds_back l.now (record { role = l.role; framework = l.framework }) l.agent l.bundle))
    (pair_hash l.self.pairs.start l.role l.framework l.agent) l.after

abbrev pub decreases-loop-after : goal.decreases-loop-after
decreases-loop-after l = l.after
