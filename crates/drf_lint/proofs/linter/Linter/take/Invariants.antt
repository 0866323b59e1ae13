use Rattle.std.proofs.Common.{◌≡◌, ◌+◌, ◌≤◌, true, false, length}
use Rattle.drf_lint.specs.Lint.{lint_of}
use Rattle.drf_lint.proofs.Pieces.{Laws, TookPrefix}
use Rattle.drf_lint.proofs.linter.Linter.take.Given as goal

abbrev pub invariant-loop-at : goal.invariant-loop-at
invariant-loop-at g l = record {
  laws : Laws;
  prefix : TookPrefix (lint_of l.fn.self) (lint_of l.self) l.fn.piece l.rest
      (g.W.Write.contents l.fn.writer.inner) (g.W.Write.contents l.writer.inner)
      (g.E.Write.contents l.fn.errors.inner) (g.E.Write.contents l.errors.inner);
  few : l.self.lines + length l.rest ≤ l.fn.self.lines + length l.fn.piece;
  counted : l.self.faults ≤ l.self.lines;
  sound : l.fn.writer.failed ≡ false → l.fn.errors.failed ≡ false → (l.writer.failed ≡ false) × (l.errors.failed ≡ false);
  flushed : l.fn.writer.flushed ≡ true → l.writer.flushed ≡ true;
  errors_flushed : l.fn.errors.flushed ≡ true → l.errors.flushed ≡ true;
}

abbrev pub decreases-loop-at : goal.decreases-loop-at
decreases-loop-at g l = length l.rest
