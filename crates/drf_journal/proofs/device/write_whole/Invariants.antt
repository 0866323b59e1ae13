use Rattle.std.proofs.Common.{◌≡◌, false, length}
use Rattle.drf_journal.proofs.Devices.{WrotePrefix}
use Rattle.drf_journal.proofs.device.write_whole.Given as goal

abbrev pub invariant-loop-rest : goal.invariant-loop-rest
invariant-loop-rest g l = record {
  wrote : WrotePrefix (g.W.Write.contents l.fn.writer.inner) (g.W.Write.contents l.writer.inner) l.fn.bytes l.rest;
  sound : l.fn.writer.failed ≡ false → l.writer.failed ≡ false;
}

abbrev pub decreases-loop-rest : goal.decreases-loop-rest
decreases-loop-rest g l = length l.rest
