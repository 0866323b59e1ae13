use Rattle.std.proofs.Common.{◌≡◌, ◌+◌, ◌≤◌, true, false, length}
use Rattle.drf_journal.proofs.Parts.{SentPrefix}
use Rattle.drf_journal.proofs.engine.reply_to_chunk.Given as goal

abbrev pub invariant-loop-rest : goal.invariant-loop-rest
invariant-loop-rest g l = record {
  prefix : SentPrefix l.fn.session l.session l.fn.piece l.rest (g.W.Write.contents l.fn.writer.inner)
      (g.W.Write.contents l.writer.inner);
  few : l.session.lines + length l.rest ≤ l.fn.session.lines + length l.fn.piece;
  sound : l.fn.writer.failed ≡ false → l.writer.failed ≡ false;
  flushed : l.fn.writer.flushed ≡ true → l.writer.flushed ≡ true;
}

abbrev pub decreases-loop-rest : goal.decreases-loop-rest
decreases-loop-rest g l = length l.rest
