use Rattle.std.proofs.Common.{◌≡◌, ◌*◌, ◌≤◌, false, length}
use Rattle.drf_journal.proofs.Checks.{IsReading}
use Rattle.drf_journal.proofs.journal.check.Given as goal

abbrev pub invariant-loop-turn : goal.invariant-loop-turn
invariant-loop-turn g l = record {
  reading : IsReading (g.R.Read.remaining l.fn.reader.inner) (g.R.Read.remaining l.reader.inner) l.fn.checker l.checker;
  reads : l.reader.calls ≡ l._turn;
  sound : l.reader.failed ≡ false;
  chunk : length l.chunk ≡ 65536;
  few : l.checker.events ≤ l._turn * 65536;
}
