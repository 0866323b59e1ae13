use Rattle.std.proofs.Common.{◌≡◌, drop}
use Rattle.drf_bundle.specs.Taken.{rest_of_all}
use Rattle.drf_audit.specs.Held.{parts_of}
use Rattle.drf_audit.proofs.agents.left_of.Given as goal

abbrev pub invariant-loop-part : goal.invariant-loop-part
invariant-loop-part l = rest_of_all l.left (parts_of (drop l.part-index l.parts)) ≡ rest_of_all l.whole (parts_of l.parts)
