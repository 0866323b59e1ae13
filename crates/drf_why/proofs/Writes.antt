-- A text that is written in several parts.
use Rattle.std.proofs.Common.{◌≡◌, ℕ, false, true, List, [], ◌++◌, take, drop, Result, Ok, Err, OnOk, OnErr, IfErr, is_err, refl, sym, ap, ◌∙◌, append_assoc, take-append-drop}
use Rattle.std.specs.Io.KnownBytes.{Appends}
use Rattle.std.proofs.KnownBytes.{Appends-nil, Appends-trans}
use Rattle.drf_journal.specs.Device.{AppendsPrefixOf}
use Rattle.drf_journal.specs.declared.fault.RunFault.{RunFault}
use Rattle.drf_journal.specs.declared.fault.RunFault.TheVariants.{Write, Memory}
use Rattle.drf_journal.proofs.Audits.{cause-written, flushed-written}
use Rattle.drf_journal.proofs.Devices.{wrote-prefix}
use Rattle.drf_why.specs.Written.{Output, HasWritten}

-- there was nothing to write
pub nothing_written : (old : Output) → HasWritten [] old old (Ok tt)
nothing_written old = record { whole = Appends-nil old.bytes; prefix = tt; cause = λ sound. (refl, sound); sent = λ flushed. flushed }

-- memory ran out before anything was written
pub unwritten : (text : List ℕ) (old : Output) → HasWritten text old old (Err Memory)
unwritten text old = record { whole = tt; prefix = (0, Appends-nil old.bytes); cause = λ sound. (refl, sound); sent = λ flushed. flushed }

-- a text was written in one part
pub written_whole : (text : List ℕ) (old new : Output) (result : Result (Unit {0}) RunFault)
    → OnOk result (Appends old.bytes new.bytes text)
    → OnErr result (AppendsPrefixOf old.bytes new.bytes text)
    → IfErr result (λ fault. fault ≡ Write)
    → (old.failed ≡ false → new.failed ≡ is_err result)
    → OnOk result (new.flushed ≡ true)
    → HasWritten text old new result
written_whole text old new result whole prefix fault failed flushed = record {
  whole = whole;
  prefix = prefix;
  cause = λ sound. cause-written result new.failed (failed sound) fault;
  sent = λ begun. flushed-written result new.flushed fault flushed;
}

-- a part was written, and then the next one
pub and_then : (before text : List ℕ) (old now new : Output) (result : Result (Unit {0}) RunFault)
    → HasWritten before old now (Ok tt) → HasWritten text now new result → HasWritten (before ++ text) old new result
and_then before text old now new (Ok done) first next = record {
  whole = Appends-trans old.bytes now.bytes new.bytes before text first.whole next.whole;
  prefix = tt;
  cause = λ sound. next.cause (first.cause sound).1;
  sent = λ flushed. next.sent (first.sent flushed);
}
and_then before text old now new (Err fault) first next =
    let count : ℕ = next.prefix.0 in
    record {
      whole = tt;
      prefix = wrote-prefix old.bytes new.bytes (before ++ text) (drop count text) (record {
        prefix = before ++ take count text;
        whole = ap (λ l. before ++ l) (sym (take-append-drop count text)) ∙ sym (append_assoc before (take count text) (drop count text));
        appended = Appends-trans old.bytes now.bytes new.bytes before (take count text) first.whole next.prefix.1;
      });
      cause = λ sound. next.cause (first.cause sound).1;
      sent = λ flushed. next.sent (first.sent flushed);
    }

-- a part failed, and the text after it was not written
pub stopped : (before text : List ℕ) (old new : Output) (fault : RunFault)
    → HasWritten before old new (Err fault) → HasWritten (before ++ text) old new (Err fault)
stopped before text old new fault first =
    let count : ℕ = first.prefix.0 in
    record {
      whole = tt;
      prefix = wrote-prefix old.bytes new.bytes (before ++ text) (drop count before ++ text) (record {
        prefix = take count before;
        whole = ap (λ l. l ++ text) (sym (take-append-drop count before)) ∙ append_assoc (take count before) (drop count before) text;
        appended = first.prefix.1;
      });
      cause = first.cause;
      sent = first.sent;
    }
