use Rattle.std.proofs.Common.{◌+◌, ◌-◌, ◌<◌, ◌≤◌, length}
use Rattle.drf_journal.specs.State.{WaitsBelow}
use Rattle.drf_journal.proofs.Prefixes.{TookPrefix}
use Rattle.drf_journal.proofs.session.Session.take.Given as goal

abbrev pub invariant-loop-at : goal.invariant-loop-at
invariant-loop-at g l = record {
  prefix : TookPrefix l.fn.self l.self l.fn.piece l.rest;
  few : l.self.lines + length l.rest ≤ l.fn.self.lines + length l.fn.piece;
  short : length l.rest ≤ length l.fn.piece;
  below : length l.fn.self.unsent < 65536 → WaitsBelow 65536 l.fn.self l.fn.piece (length l.fn.piece - length l.rest + 1);
}

abbrev pub decreases-loop-at : goal.decreases-loop-at
decreases-loop-at g l = length l.rest
