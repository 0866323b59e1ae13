-- The text that is written is the one that the definition gives for the lines that were read.
use Rattle.std.proofs.Common.{◌≡◌, ℕ, Bool, false, List, [], ◌∷◌, ◌++◌, take, Option, Some, None, Result, Ok, Err, ⊎_elim, refl, sym, ap, ◌∙◌, arith}
use Rattle.std.specs.List.{flat_map}
use Rattle.std.specs.Option.{option_map_or}
use Rattle.std.specs.Io.KnownBytes.{Consumes, IsAtEnd}
use Rattle.std.proofs.KnownBytes.{Appends-nil}
use Rattle.std.proofs.lemmas.Bool.{false≢true}
use Rattle.drf_core.specs.Machine.{Machine, Engine, live}
use Rattle.drf_explain.proofs.EachLaws.{live_rows_are_reported, live_turns_are_reported}
use Rattle.drf_explain.specs.Explained.{suppressed_of}
use Rattle.drf_explain.specs.ExplainedText.{explained_text}
use Rattle.drf_rows.specs.Step.{live_rows}
use Rattle.drf_rows.specs.declared.rows.Rows.{Rows}
use Rattle.drf_row_laws.proofs.LiveLaws.{report_of-live}
use Rattle.drf_journal.specs.Audited.{HasReportedOfRows, rows_after_lines, reported_of_lines}
use Rattle.drf_journal.specs.Ended.{HasCause}
use Rattle.drf_journal.specs.Lines.{lines_of}
use Rattle.drf_journal.specs.Resumed.{resumed}
use Rattle.drf_journal.specs.declared.fault.RunFault.{RunFault}
use Rattle.drf_journal.specs.declared.fault.RunFault.TheVariants.{Read, Write, Memory}
use Rattle.drf_why.specs.Pick.{picked, picked_of}
use Rattle.drf_why.specs.Tally.{tally_lines, tallies_of}
use Rattle.drf_why.specs.declared.pick.Pick.{Pick}
use Rattle.drf_why.specs.Asked.{absent_text, asked_text, pick_of, summed_text}
use Rattle.drf_why.specs.Written.{Output, HasWritten}
use Rattle.drf_why.specs.declared.whom.Whom.{Whom}
use Rattle.drf_why.specs.declared.whom.Whom.TheVariants as whom

-- ---- expired filters change nothing

picked_live : (pick : Pick) (at : ℕ) (rows : Rows) → picked_of pick (live_rows rows) at ≡ picked_of pick rows at
picked_live pick at rows = ap (λ lists. flat_map (picked pick) (suppressed_of rows ∷ lists)) (live_rows_are_reported rows at)

asked_by_pick : (asked : Whom) (at : ℕ) (rows : Rows)
    → pick_of (live_rows rows) asked ≡ pick_of rows asked → absent_text (live_rows rows) asked ≡ absent_text rows asked
    → asked_text asked at (live_rows rows) ≡ asked_text asked at rows
unfolding asked_text
asked_by_pick asked at rows same none =
    λ i. option_map_or (λ pick. explained_text (picked_live pick at rows i)) (same i) (none i)

pub asked_live : (asked : Whom) (at : ℕ) (rows : Rows) → asked_text asked at (live_rows rows) ≡ asked_text asked at rows
asked_live whom.All at rows = asked_by_pick whom.All at rows refl refl
asked_live (whom.Agent name) at rows = asked_by_pick (whom.Agent name) at rows refl refl
asked_live (whom.Client framework role) at rows = asked_by_pick (whom.Client framework role) at rows refl refl

-- the text if the subject is not registered, and if it is
module _ (asked : Whom) (at : ℕ) (rows live_ones : Rows) (same : rows ≡ live_ones) where
  asked_here : asked_text asked at rows ≡ asked_text asked at live_ones
  asked_here = ap (asked_text asked at) same

  pub asked_none : pick_of rows asked ≡ None → absent_text rows asked ≡ asked_text asked at live_ones
  unfolding asked_text
  asked_none none =
      ap (λ (p : Option Pick). option_map_or (λ pick. explained_text (picked_of pick rows at)) p (absent_text rows asked)) (sym none) ∙ asked_here

  pub asked_some : (pick : Pick) → pick_of rows asked ≡ Some pick → explained_text (picked_of pick rows at) ≡ asked_text asked at live_ones
  unfolding asked_text
  asked_some pick one =
      ap (λ (p : Option Pick). option_map_or (λ pick. explained_text (picked_of pick rows at)) p (absent_text rows asked)) (sym one) ∙ asked_here

pub summed_live : (at : ℕ) (rows : Rows) → summed_text at (live_rows rows) ≡ summed_text at rows
unfolding summed_text
summed_live at rows =
    λ i. explained_text (suppressed_of rows) ++ flat_map (tally_lines (report_of-live rows i)) (tallies_of rows (live_turns_are_reported rows at i))

-- ---- the result

module _ (tell : Rows → List ℕ) (tell_live : (rows : Rows) → tell (live_rows rows) ≡ tell rows) where
  -- the text for an allocator that has taken all lines
  pub due : (old new : Engine) (read : List ℕ) → live new ≡ resumed (live old) (lines_of read)
      → tell (live_rows new.rows) ≡ reported_of_lines tell (live old) (lines_of read)
  unfolding live reported_of_lines
  due old new read is =
      ap (λ (m : Machine). tell m.rows) is ∙ tell_live (rows_after_lines old.limits (live_rows old.rows) (lines_of read))

module _ (tell : Rows → List ℕ) (machine : Machine) (unread_before unread_after : Option (List ℕ)) where
  -- nothing was written if not all lines were taken
  pub reported_unread : (T : Type 0) (written : Option (List ℕ)) (fault : RunFault) (reads : ℕ) (reader_failed : Bool) (read : List ℕ)
      → HasCause {T = T} (Err fault) reader_failed reads false → Consumes unread_before unread_after read
      → HasReportedOfRows tell machine unread_before unread_after written written (Err fault)
  reported_unread T written Read reads reader_failed read cause consumed =
      record { read = read; written = []; consumed = consumed; appended = Appends-nil written; reported = refl; whole = tt; late = λ some. absurd (omega arith) }
  reported_unread T written Write reads reader_failed read cause consumed = absurd (false≢true cause.1)
  reported_unread T written Memory reads reader_failed read cause consumed =
      record { read = read; written = []; consumed = consumed; appended = Appends-nil written; reported = (0, refl); whole = tt; late = λ some. absurd (omega arith) }

  -- the text was written, or a prefix of it
  pub reported_ends : (old new : Output) (read text : List ℕ) (result : Result (Unit {0}) RunFault)
      → Consumes unread_before unread_after read → IsAtEnd unread_after
      → text ≡ reported_of_lines tell machine (lines_of read)
      → old.failed ≡ false → HasWritten text old new result
      → HasReportedOfRows tell machine unread_before unread_after old.bytes new.bytes result
  reported_ends old new read text (Ok done) consumed whole reported sound wrote =
      record { read = read; written = text; consumed = consumed; appended = wrote.whole; reported = reported; whole = whole; late = λ some. whole }
  reported_ends old new read text (Err Read) consumed whole reported sound wrote =
      absurd (⊎_elim (λ e. false≢true e) (λ e. omega arith) (wrote.cause sound).0)
  reported_ends old new read text (Err Write) consumed whole reported sound wrote =
      record { read = read; written = take wrote.prefix.0 text; consumed = consumed; appended = wrote.prefix.1; reported = (wrote.prefix.0, ap (take wrote.prefix.0) reported); whole = tt; late = λ some. whole }
  reported_ends old new read text (Err Memory) consumed whole reported sound wrote =
      record { read = read; written = take wrote.prefix.0 text; consumed = consumed; appended = wrote.prefix.1; reported = (wrote.prefix.0, ap (take wrote.prefix.0) reported); whole = tt; late = λ some. whole }
