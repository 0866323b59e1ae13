use Rattle.std.proofs.Common.{◌≡◌, ◌≤◌, ◌*◌, ◌^◌, take}
use Rattle.drf_bundle.specs.Bundle.{amount}
use Rattle.drf_bundle.proofs.bundle.BundleAlgebra.amount.Given as goal

abbrev pub invariant-loop-resource : goal.invariant-loop-resource
invariant-loop-resource l = record {
  so_far : l.amount ≡ amount (take l.resource-index l.resource-items);
  small : l.amount ≤ l.resource-index * 2 ^ 64;
}
