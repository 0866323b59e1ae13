use Rattle.std.proofs.Common.{◌≡◌, take}
use Rattle.drf_show.specs.Consuming.{used_of}
use Rattle.drf_show.proofs.consumption.consumed.Given as goal

abbrev pub invariant-loop-entry : goal.invariant-loop-entry
invariant-loop-entry l = l.amounts ≡ used_of l.consumption l.role (take l.entry-index l.entries)
