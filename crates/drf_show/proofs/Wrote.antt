-- The result of writing what is shown.
use Rattle.std.proofs.Common.{◌≡◌, ℕ, Bool, false, List, [], take, Option, Result, Ok, Err, OnOk, OnErr, IfErr, refl, ap, ◌∙◌, arith}
use Rattle.std.specs.Io.KnownBytes.{Appends, Consumes, IsAtEnd}
use Rattle.std.proofs.KnownBytes.{Appends-nil}
use Rattle.std.proofs.lemmas.Bool.{false≢true}
use Rattle.drf_core.specs.Machine.{Machine, Engine, live}
use Rattle.drf_rows.specs.LimitNumbers.{LimitNumbers}
use Rattle.drf_rows.specs.Step.{live_rows}
use Rattle.drf_rows.specs.declared.rows.Rows.{Rows}
use Rattle.drf_journal.specs.Audited.{rows_after_lines, reported_of_lines}
use Rattle.drf_journal.specs.Device.{AppendsPrefixOf}
use Rattle.drf_journal.specs.Ended.{HasCause}
use Rattle.drf_journal.specs.Lines.{lines_of}
use Rattle.drf_journal.specs.Resumed.{resumed}
use Rattle.drf_journal.specs.declared.fault.RunFault.{RunFault}
use Rattle.drf_journal.specs.declared.fault.RunFault.TheVariants.{Read, Write, Memory}
use Rattle.drf_show.specs.Showing.{HasShown}
use Rattle.drf_show.specs.ShownText.{rows_text, shown}
use Rattle.drf_show.specs.declared.form.Form.{Form}

-- only the current state is shown
shown_live : (form : Form) (limits : LimitNumbers) (a b : Rows) → live_rows a ≡ live_rows b → shown form limits a ≡ shown form limits b
unfolding shown
shown_live form limits a b same = ap (λ (rows : Rows). rows_text form limits rows) same

-- the text of an allocator that has taken all lines is the one that the definition gives
pub shown_due : (form : Form) (old new : Engine) (read text : List ℕ)
    → live new ≡ resumed (live old) (lines_of read)
    → text ≡ shown form old.limits new.rows
    → text ≡ reported_of_lines (shown form (live old).limits) (live old) (lines_of read)
unfolding live reported_of_lines
shown_due form old new read text is reported =
    reported ∙ shown_live form old.limits new.rows (rows_after_lines old.limits (live_rows old.rows) (lines_of read)) (ap (λ (m : Machine). m.rows) is)

module _ (form : Form) (machine : Machine) (unread_before unread_after : Option (List ℕ)) where
  -- nothing was written if not all lines were taken
  pub shown_unread : (T : Type 0) (written : Option (List ℕ)) (fault : RunFault) (reads : ℕ) (reader_failed : Bool) (read : List ℕ)
      → HasCause {T = T} (Err fault) reader_failed reads false → Consumes unread_before unread_after read
      → HasShown form machine unread_before unread_after written written (Err fault)
  shown_unread T written Read reads reader_failed read cause consumed =
      record { read = read; written = []; consumed = consumed; appended = Appends-nil written; reported = refl; whole = tt; late = λ some. absurd (omega arith) }
  shown_unread T written Write reads reader_failed read cause consumed = absurd (false≢true cause.1)
  shown_unread T written Memory reads reader_failed read cause consumed =
      record { read = read; written = []; consumed = consumed; appended = Appends-nil written; reported = (0, refl); whole = tt; late = λ some. absurd (omega arith) }

  -- and nothing was written if memory ran out after them
  pub shown_forgotten : (written : Option (List ℕ)) (read : List ℕ) → Consumes unread_before unread_after read
      → HasShown form machine unread_before unread_after written written (Err Memory)
  shown_forgotten written read consumed =
      record { read = read; written = []; consumed = consumed; appended = Appends-nil written; reported = (0, refl); whole = tt; late = λ some. absurd (omega arith) }

  -- the text was written, or a prefix of it
  pub shown_ends : (written_before written_after : Option (List ℕ)) (read text : List ℕ) (result : Result (Unit {0}) RunFault)
      → Consumes unread_before unread_after read → IsAtEnd unread_after
      → text ≡ reported_of_lines (shown form machine.limits) machine (lines_of read)
      → OnOk result (Appends written_before written_after text)
      → OnErr result (AppendsPrefixOf written_before written_after text)
      → IfErr result (λ f. f ≡ Write)
      → HasShown form machine unread_before unread_after written_before written_after result
  shown_ends written_before written_after read text (Ok done) consumed whole reported wrote prefix is =
      record { read = read; written = text; consumed = consumed; appended = wrote; reported = reported; whole = whole; late = λ some. whole }
  shown_ends written_before written_after read text (Err Write) consumed whole reported wrote prefix is =
      record { read = read; written = take prefix.0 text; consumed = consumed; appended = prefix.1; reported = (prefix.0, ap (take prefix.0) reported); whole = tt; late = λ some. whole }
  shown_ends written_before written_after read text (Err Read) consumed whole reported wrote prefix is = let none : ⊥ = cc in absurd none
  shown_ends written_before written_after read text (Err Memory) consumed whole reported wrote prefix is = let none : ⊥ = cc in absurd none
