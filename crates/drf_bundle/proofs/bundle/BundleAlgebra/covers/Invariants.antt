use Rattle.std.proofs.Common.{◌≡◌, true, take}
use Rattle.drf_bundle.specs.Bundle.{covers}
use Rattle.drf_bundle.proofs.bundle.BundleAlgebra.covers.Given as goal

-- each so far is covered
abbrev pub invariant-loop-i : goal.invariant-loop-i
invariant-loop-i l = covers l.self (take l.i l.resource-items) ≡ true
