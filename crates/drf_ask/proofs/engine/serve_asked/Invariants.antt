use Rattle.std.proofs.Common.{◌≡◌, ◌*◌, ◌≤◌, true, false, length}
use Rattle.drf_ask.proofs.Ends.{IsServing}
use Rattle.drf_ask.proofs.Kept.{Laws}
use Rattle.drf_ask.proofs.engine.serve_asked.Given as goal

abbrev pub invariant-loop-turn : goal.invariant-loop-turn
invariant-loop-turn g l = record {
  laws : Laws;
  serving : IsServing l.fn.asking (g.R.Read.remaining l.fn.reader.inner) (g.R.Read.remaining l.reader.inner)
      (g.W.Write.contents l.fn.writer.inner) (g.W.Write.contents l.writer.inner) l.asking;
  reads : l.reader.calls ≡ l._turn;
  reader_sound : l.reader.failed ≡ false;
  writer_sound : l.writer.failed ≡ false;
  flushed : l.fn.writer.flushed ≡ true → l.writer.flushed ≡ true;
  chunk : length l.chunk ≡ 65536;
  few : l.asking.events ≤ l._turn * 65536;
}
