use Rattle.std.proofs.Common.{◌≡◌, ◌*◌, ◌≤◌, false, None, length}
use Rattle.drf_journal.proofs.Served.{IsServing}
use Rattle.drf_journal.proofs.audit.take_lines.Given as goal

abbrev pub invariant-loop-turn : goal.invariant-loop-turn
invariant-loop-turn g l = record {
  serving : IsServing l.fn.session (g.R.Read.remaining l.fn.reader.inner) (g.R.Read.remaining l.reader.inner) None None l.session;
  reads : l.reader.calls ≡ l._turn;
  sound : l.reader.failed ≡ false;
  chunk : length l.chunk ≡ 65536;
  few : l.session.lines ≤ l._turn * 65536;
}
