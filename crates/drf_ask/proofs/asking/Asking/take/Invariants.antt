use Rattle.std.proofs.Common.{◌≡◌, ◌+◌, ◌≤◌, true, false, length}
use Rattle.drf_ask.proofs.Kept.{Laws}
use Rattle.drf_ask.proofs.Pieces.{WentOver}
use Rattle.drf_ask.proofs.asking.Asking.take.Given as goal

abbrev pub invariant-loop-at : goal.invariant-loop-at
invariant-loop-at g l = record {
  laws : Laws;
  went : WentOver l.fn.self l.self l.fn.piece l.rest (g.W.Write.contents l.fn.writer.inner) (g.W.Write.contents l.writer.inner);
  few : l.self.events + length l.rest ≤ l.fn.self.events + length l.fn.piece;
  sound : l.fn.writer.failed ≡ false → l.writer.failed ≡ false;
  flushed : l.fn.writer.flushed ≡ true → l.writer.flushed ≡ true;
}

abbrev pub decreases-loop-at : goal.decreases-loop-at
decreases-loop-at g l = length l.rest
