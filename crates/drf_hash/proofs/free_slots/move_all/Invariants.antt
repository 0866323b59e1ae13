use Rattle.std.proofs.Common.{◌≡◌, get_or}
use Rattle.drf_hash.proofs.FreeSlotLaws.{moved_first}
use Rattle.drf_hash.proofs.free_slots.move_all.Given as goal

abbrev pub invariant-loop-at : goal.invariant-loop-at
invariant-loop-at g l = l.places.entries ≡ moved_first (λ i. get_or l.ranks i 0) l.at l.fn.places.entries
