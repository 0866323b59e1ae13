use Rattle.std.proofs.Common.{◌≡◌, ◌+◌, ◌≤◌, length, drop}
use Rattle.drf_bundle.specs.Quantities.{plus}
use Rattle.drf_bundle.proofs.theorems.QuantitiesLaws.{unnamed_in}
use Rattle.drf_bundle.proofs.quantities.Quantities.count_with.Given as goal

-- the count so far, and the new labels among the remaining entries
abbrev pub invariant-loop-entry : goal.invariant-loop-entry
invariant-loop-entry l = record {
  whole : l.count + length (unnamed_in l.self (drop l.entry-index l.entry-items)) ≡ length (plus l.self l.other);
  small : l.count ≤ length l.self + l.entry-index;
}
