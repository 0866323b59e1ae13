-- What was written has been flushed, unless the writer failed.
use Rattle.std.proofs.Common.{◌≡◌, ℕ, Bool, true, false, Result, Ok, Err, sym, ◌∙◌}
use Rattle.std.proofs.lemmas.Bool.{false≢true}
use Rattle.drf_journal.specs.Ended.{HasCause, HasFlushed}
use Rattle.drf_journal.specs.declared.fault.RunFault.{RunFault}
use Rattle.drf_journal.specs.declared.fault.RunFault.TheVariants.{Read, Write, Memory}

pub flushed_unless_failed : {T : Type 0} (ended : Result T RunFault) (reader_failed : Bool) (reads : ℕ) (failed flushed : Bool) → HasCause ended reader_failed reads failed → HasFlushed ended flushed → failed ≡ false → flushed ≡ true
flushed_unless_failed (Ok reported) reader_failed reads failed flushed cause is sound = is
flushed_unless_failed (Err Read) reader_failed reads failed flushed cause is sound = is
flushed_unless_failed (Err Write) reader_failed reads failed flushed cause is sound = absurd (false≢true (sym sound ∙ cause.1))
flushed_unless_failed (Err Memory) reader_failed reads failed flushed cause is sound = is
