use Rattle.std.proofs.Common.{◌≡◌, ◌++◌, drop}
use Rattle.std.specs.List.{flat_map}
use Rattle.drf_explain.specs.Explained.{suppressed_in}
use Rattle.drf_explain.proofs.suppression.suppressed.Given as goal

abbrev pub invariant-loop-framework : goal.invariant-loop-framework
invariant-loop-framework l =
    l.findings.items ++ flat_map suppressed_in (drop l.framework-index l.frameworks) ≡ flat_map suppressed_in l.frameworks
