use Rattle.std.proofs.Common.{◌≡◌, drop, IsTrue}
use Rattle.drf_bundle.specs.Bundle.{is_in_order, clashes_with_some}
use Rattle.drf_bundle.specs.Sides.{none_before}
use Rattle.drf_bundle.proofs.merge.clashes_with_some.Given as goal

-- what was passed does not clash, and the others are in order
abbrev pub invariant-loop-other : goal.invariant-loop-other
invariant-loop-other l = record {
  same : clashes_with_some l.clash l.resource (drop l.other-index l.others) ≡ clashes_with_some l.clash l.resource l.others;
  in_order : IsTrue (is_in_order (drop l.other-index l.others));
  not_before : IsTrue (none_before l.resource.label (drop l.other-index l.others));
}
