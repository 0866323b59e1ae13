use Rattle.std.proofs.Common.{◌+◌, ◌≤◌, length}
use Rattle.drf_journal.proofs.Checks.{CheckedPrefix}
use Rattle.drf_journal.proofs.checker.Checker.take.Given as goal

abbrev pub invariant-loop-at : goal.invariant-loop-at
invariant-loop-at g l = record {
  prefix : CheckedPrefix l.fn.self l.self l.fn.piece l.rest;
  few : l.self.events + length l.rest ≤ l.fn.self.events + length l.fn.piece;
}

abbrev pub decreases-loop-at : goal.decreases-loop-at
decreases-loop-at g l = length l.rest
