use Rattle.std.proofs.Common.{◌≡◌, true, take}
use Rattle.drf_bundle.specs.Quantities.{names_all}
use Rattle.drf_bundle.proofs.quantities.Quantities.names_all.Given as goal

-- each label so far is named
abbrev pub invariant-loop-entry : goal.invariant-loop-entry
invariant-loop-entry l = names_all l.self (take l.entry-index l.entry-items) ≡ true
