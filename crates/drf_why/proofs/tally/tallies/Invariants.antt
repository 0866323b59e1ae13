use Rattle.std.proofs.Common.{◌≡◌, ◌++◌, drop}
use Rattle.std.specs.List.{flat_map}
use Rattle.drf_why.proofs.Tallied.{blank_in}
use Rattle.drf_why.proofs.tally.tallies.Given as goal

abbrev pub invariant-loop-framework : goal.invariant-loop-framework
invariant-loop-framework l =
    l.tallies.items ++ flat_map blank_in (drop l.framework-index l.frameworks) ≡ flat_map blank_in l.frameworks
