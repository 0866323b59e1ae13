use Rattle.std.proofs.Common.{[], length, eqb}
use Rattle.std.specs.List.{slice_split}
use Rattle.drf_text.specs.Steps.{quantities_step}
use Rattle.drf_text.proofs.Reading.{IsReadTo}
use Rattle.drf_text.proofs.read.read_quantities.Given as goal

abbrev pub invariant-loop-entry : goal.invariant-loop-entry
invariant-loop-entry l = IsReadTo quantities_step [] (slice_split (λ b. eqb b 59) l.text) (length l.yielded) l.quantities
