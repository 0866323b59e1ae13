use Rattle.std.proofs.Common.{◌+◌, ◌≤◌, None, length}
use Rattle.drf_journal.proofs.Parts.{SentPrefix}
use Rattle.drf_journal.proofs.audit.take_chunk.Given as goal

abbrev pub invariant-loop-rest : goal.invariant-loop-rest
invariant-loop-rest g l = record {
  prefix : SentPrefix l.fn.session l.session l.fn.piece l.rest None None;
  few : l.session.lines + length l.rest ≤ l.fn.session.lines + length l.fn.piece;
}

abbrev pub decreases-loop-rest : goal.decreases-loop-rest
decreases-loop-rest g l = length l.rest
