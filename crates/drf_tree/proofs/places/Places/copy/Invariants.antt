use Rattle.std.proofs.Common.{◌≡◌, take}
use Rattle.drf_tree.proofs.places.Places.copy.Given as goal

abbrev pub invariant-loop-place : goal.invariant-loop-place
invariant-loop-place l = l.items.items ≡ take l.place-index l.self.items
