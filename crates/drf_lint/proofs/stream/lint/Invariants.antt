use Rattle.std.proofs.Common.{◌≡◌, ◌*◌, ◌≤◌, true, false, length}
use Rattle.drf_lint.specs.Lint.{lint_of}
use Rattle.drf_lint.proofs.Pieces.{Laws}
use Rattle.drf_lint.proofs.Streams.{IsLinting}
use Rattle.drf_lint.proofs.stream.lint.Given as goal

abbrev pub invariant-loop-turn : goal.invariant-loop-turn
invariant-loop-turn g l = record {
  laws : Laws;
  linting : IsLinting l.fn.linter.write (g.R.Read.remaining l.fn.reader.inner) (g.R.Read.remaining l.reader.inner)
      (g.W.Write.contents l.fn.writer.inner) (g.W.Write.contents l.writer.inner)
      (g.E.Write.contents l.fn.errors.inner) (g.E.Write.contents l.errors.inner) (lint_of l.linter);
  reads : l.reader.calls ≡ l._turn;
  sound : l.reader.failed ≡ false;
  writer_sound : l.writer.failed ≡ false;
  errors_sound : l.errors.failed ≡ false;
  flushed : l.fn.writer.flushed ≡ true → l.writer.flushed ≡ true;
  errors_flushed : l.fn.errors.flushed ≡ true → l.errors.flushed ≡ true;
  chunk : length l.chunk ≡ 65536;
  few : l.linter.lines ≤ l._turn * 65536;
  counted : l.linter.faults ≤ l.linter.lines;
}
