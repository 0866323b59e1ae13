use Rattle.std.proofs.Common.{[], ◌∷◌, decimal, append_assoc}
use Rattle.drf_lines.proofs.Appends.{and_then}
use Rattle.drf_lines.proofs.fraction.put_long_fraction.Goals as goal

pub returns : goal.returns
returns c =
    rw (append_assoc (decimal c.args.part) (47 ∷ decimal c.args.whole) (34 ∷ []))
    (and_then (rw c.format.ensures.text at c.in_ok-put.ensures) (and_then c.in_ok-put_byte.ensures
    (and_then (rw c.format-2.ensures.text at c.in_ok-put-2.ensures) c.put_byte-2.ensures)))
