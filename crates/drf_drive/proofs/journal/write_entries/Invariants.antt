use Rattle.std.proofs.Common.{◌≡◌, true, false, take}
use Rattle.drf_drive.specs.JournalText.{HasSent, journal_text}
use Rattle.drf_drive.proofs.journal.write_entries.Given as goal

-- a prefix of the text of the entries so far was written, and the rest is still to be written
abbrev pub invariant-loop-entry : goal.invariant-loop-entry
invariant-loop-entry g l = record {
  sent : HasSent (g.W.Write.contents l.fn.writer.inner) (g.W.Write.contents l.writer.inner)
      (journal_text (take l.entry-index l.entries)) l.text.items;
  sound : l.writer.failed ≡ false;
  flushed : l.fn.writer.flushed ≡ true → l.writer.flushed ≡ true;
}
