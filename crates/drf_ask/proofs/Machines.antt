-- An event does not change the capacities of an allocator.
use Rattle.std.proofs.Common.{◌≡◌, List, ℕ, Result, Ok, Err, ⊎_elim, refl, ap, ◌∙◌}
use Rattle.drf_core.specs.Machine.{Machine, after}
use Rattle.drf_lines.specs.Meaning.{meaning_of}
use Rattle.drf_lines.specs.declared.fault.LineFault.{LineFault}
use Rattle.drf_rows.specs.declared.event.Event.{Event}
use Rattle.drf_journal.specs.State.{machine_after, HasTakenAtMost}

limits-after : (machine : Machine) (meaning : Result Event LineFault) → (machine_after machine meaning).limits ≡ machine.limits
unfolding after
limits-after machine (Ok event) = refl
limits-after machine (Err fault) = refl

pub limits-stay : (old new : Machine) (line : List ℕ) → HasTakenAtMost old line new → new.limits ≡ old.limits
limits-stay old new line taken =
    ⊎_elim (λ (same : new ≡ old). ap (λ (m : Machine). m.limits) same)
    (λ (next : new ≡ machine_after old (meaning_of line)). ap (λ (m : Machine). m.limits) next ∙ limits-after old (meaning_of line)) taken
