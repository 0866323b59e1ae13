use Rattle.std.proofs.Common.{◌≡◌, ◌-◌, ◌++◌, map, take, drop}
use Rattle.drf_bundle.specs.Quantities.{amount_of}
use Rattle.drf_bundle.specs.declared.quantities.Entry.{Entry}
use Rattle.drf_bundle.proofs.quantities.Quantities.lower.Given as goal

-- the entries so far are reduced, and the others are unchanged
abbrev pub invariant-loop-entry : goal.invariant-loop-entry
invariant-loop-entry l =
    l.entry-items ≡ map (λ (e : Entry). record { label = e.label; amount = e.amount - amount_of l.other e.label }) (take l.entry-index l.initial.entry-items) ++ drop l.entry-index l.initial.entry-items
