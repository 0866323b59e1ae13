use Rattle.std.proofs.Common.{◌≡◌, true, false, drop}
use Rattle.std.specs.List.{flat_map}
use Rattle.drf_audit.specs.AuditText.{audit_text}
use Rattle.drf_journal.proofs.Devices.{WrotePrefix}
use Rattle.drf_journal.proofs.audit.write_lines.Given as goal

abbrev pub invariant-loop-line : goal.invariant-loop-line
invariant-loop-line g l = record {
  wrote : WrotePrefix (g.W.Write.contents l.fn.writer.inner) (g.W.Write.contents l.writer.inner) (flat_map audit_text l.lines)
      (flat_map audit_text (drop l.line-index l.lines));
  sound : l.fn.writer.failed ≡ false → l.writer.failed ≡ false;
  flushed : l.fn.writer.flushed ≡ true → l.writer.flushed ≡ true;
}
