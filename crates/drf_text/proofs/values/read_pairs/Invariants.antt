use Rattle.std.proofs.Common.{◌≡◌, length, drop, eqb}
use Rattle.std.specs.List.{slice_split}
use Rattle.drf_text.specs.Blanks.{trimmed}
use Rattle.drf_text.specs.Steps.{each_of, pair_in}
use Rattle.drf_text.proofs.Parts.{each_after}
use Rattle.drf_text.proofs.values.read_pairs.Given as goal

-- the pairs so far, followed by those of the remaining parts, are the result
abbrev pub invariant-loop-part : goal.invariant-loop-part
invariant-loop-part l =
    each_after (λ part. pair_in (trimmed part)) l.pairs.items (drop (length l.yielded) (slice_split (λ b. eqb b 44) l.text))
    ≡ each_of (λ part. pair_in (trimmed part)) (slice_split (λ b. eqb b 44) l.text)
