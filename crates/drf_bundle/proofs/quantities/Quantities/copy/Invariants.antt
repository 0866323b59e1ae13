use Rattle.std.proofs.Common.{◌≡◌, take}
use Rattle.drf_bundle.proofs.quantities.Quantities.copy.Given as goal

-- the entries so far
abbrev pub invariant-loop-entry : goal.invariant-loop-entry
invariant-loop-entry l = l.entries.items ≡ take l.entry-index l.entry-items
