use Rattle.std.proofs.Common.{[], length, eqb}
use Rattle.std.specs.List.{slice_split}
use Rattle.drf_text.specs.Steps.{bundle_step}
use Rattle.drf_text.proofs.Reading.{IsReadTo}
use Rattle.drf_text.proofs.read.read_bundle.Given as goal

abbrev pub invariant-loop-piece : goal.invariant-loop-piece
invariant-loop-piece l = IsReadTo bundle_step [] (slice_split (λ b. eqb b 59) l.text) (length l.yielded) l.bundle
