use Rattle.std.proofs.Common.{◌≡◌, ◌++◌, drop}
use Rattle.std.specs.List.{flat_map}
use Rattle.drf_why.proofs.Tallied.{blank_one}
use Rattle.drf_why.proofs.tally.add_tallies.Given as goal

abbrev pub invariant-loop-client : goal.invariant-loop-client
invariant-loop-client l =
    l.tallies.items ++ flat_map (blank_one l.framework) (drop l.client-index l.clients) ≡ l.fn.tallies.items ++ flat_map (blank_one l.framework) l.clients
