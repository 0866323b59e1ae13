-- Lemmas about what a drive has written when it returns.
use Rattle.std.proofs.Common.{◌≡◌, ℕ, ◌+◌, List, [], ◌∷◌, length, Option, refl, sym, ◌∙◌, subst, inl, inr, arith}
use Rattle.std.specs.Prelude.{All, Result, Ok, Err, OnOk, IfErr}
use Rattle.std.specs.Global.{Vec}
use Rattle.std.specs.Io.KnownBytes.{Appends}
use Rattle.std.proofs.lemmas.List.Elements.{All-nil, All-weaker}
use Rattle.drf_board.specs.History.{IsLegal}
use Rattle.drf_board.proofs.HistoryLaws.{legal-nil}
use Rattle.drf_board.specs.declared.entry.Entry.{Entry}
use Rattle.drf_core.specs.Machine.{Engine, Machine, live}
use Rattle.drf_journal.specs.declared.fault.RunFault.TheVariants.{Read, Write, Memory}
use Rattle.drf_master.specs.Closing.{AreOf, IsCloseFault}
use Rattle.drf_master.specs.Journal.{Begins}
use Rattle.drf_master.specs.Matching.{IsFault, receipts_of}
use Rattle.drf_master.specs.Receipts.{Held, IsNewPass}
use Rattle.drf_master.specs.Scripts.{HasStopped, HaveRun, IsUndriven, IsUnfit}
use Rattle.drf_master.specs.declared.driving.DriveFault.TheVariants as driving
use Rattle.drf_master.specs.declared.driving.Undriven.{Undriven}
use Rattle.drf_master.specs.declared.driving.Undriven.TheVariants.{Undone, Unfit}
use Rattle.drf_master.specs.declared.master.CloseRefused.{CloseRefused}
use Rattle.drf_master.specs.declared.matching.CloseFault.{CloseFault}
use Rattle.drf_master.specs.declared.matching.CloseFault.TheVariants as why
use Rattle.drf_rows.specs.LimitNumbers.{LimitNumbers}
use Rattle.drf_rows.specs.declared.event.Event.{Event}
use Rattle.drf_rows.specs.declared.rows.Rows.{Rows}
use Rattle.drf_row_laws.proofs.LiveLaws.{live_rows-twice}
use Rattle.drf_drive.specs.Driven.{HasDrivenFiles, HasMisfit, IsHandedOn, IsJournalOfFiles, IsRunFault, IsShuffleOf, IsTellable, IsReportedAs, IsReportedUnfit}
use Rattle.drf_journal.specs.Files.{Known}
use Rattle.drf_drive.specs.JournalText.{IsCutOff, journal_text}
use Rattle.drf_drive.specs.Scripts.{HasScripts}
use Rattle.drf_drive.specs.declared.script.Misfit.{Misfit}
use Rattle.drf_drive.specs.declared.script.ScriptFault.{ScriptFault}
use Rattle.drf_drive.specs.declared.script.ScriptFault.TheVariants.{Run, Unread, Line, Close}
use Rattle.drf_drive.proofs.Contents.{contents-count}
use Rattle.drf_drive.proofs.Scripts.{scripts-count}

-- there is a script for each file
pub scripts-few : (known : Known) (names : List (List ℕ)) (scripts : List (Vec Event)) → HasScripts known names scripts
    → length scripts ≡ length names
scripts-few known names scripts has =
    scripts-count has.contents scripts has.meant ∙ contents-count known names has.contents has.read

-- without scripts, the journal is empty
shuffle-none : (scripts : List (Vec Event)) → length scripts ≡ 0 → IsShuffleOf scripts []
shuffle-none [] none = record {
  passes = [];
  unused = All-nil (λ (pass : Held). pass.receipts ≡ []);
  replies = [];
  driven = record {
    lists = [];
    run = tt;
    shuffle = record { entries = tt; once = λ place below. absurd (omega arith) };
  };
}
shuffle-none (s ∷ scripts) none = absurd (omega arith)

pub journal-none : (start : Machine) (known : Known) (names : List (List ℕ)) (scripts : List (Vec Event)) → HasScripts known names scripts
    → length scripts ≡ 0 → IsJournalOfFiles start known names []
journal-none start known names scripts has none = record {
  scripts = scripts;
  meant = has;
  legal = legal-nil start.limits start.rows;
  shuffle = shuffle-none scripts none;
}

-- after the journal was written, or writing it failed
pub written-ends : (start : Machine) (known : Known) (names : List (List ℕ)) (journal : List Entry) → IsJournalOfFiles start known names journal
    → (r : Result (Unit {0}) ScriptFault) (old new : Option (List ℕ)) → OnOk r (Appends old new (journal_text journal))
    → IfErr r (IsCutOff old new (journal_text journal)) → HasDrivenFiles start known names old new r
written-ends start known names journal right (Ok done) old new ok err = record { journal = journal; right = right; appended = ok }
written-ends start known names journal right (Err (Unread file)) old new ok err = absurd err
written-ends start known names journal right (Err (Run Read)) old new ok err = absurd err
written-ends start known names journal right (Err (Run Write)) old new ok err = record { journal = journal; right = right; appended = err }
written-ends start known names journal right (Err (Run Memory)) old new ok err = inr (record { journal = journal; right = right; appended = err })
written-ends start known names journal right (Err (Line bad)) old new ok err = absurd err
written-ends start known names journal right (Err (Close misfit)) old new ok err = absurd err

-- without files, there are no scripts
pub scripts-none : (known : Known) (names : List (List ℕ)) → length names ≡ 0 → HasScripts known names []
scripts-none known [] none = record { contents = []; read = tt; meant = tt }
scripts-none known (n ∷ names) none = absurd (omega arith)

-- ---- under a gate that allows all calls

abbrev never : ℕ → ℕ → Type 0
never worker call = ⊥

not-stopped : (asked : ℕ → ℕ → Type 0) (worker : ℕ) (scripts : List (Vec Event)) → ¬ HasStopped asked never worker scripts
not-stopped asked worker [] stopped = stopped
not-stopped asked worker (s ∷ scripts) (inl stop) = stop.stopped
not-stopped asked worker (s ∷ scripts) (inr later) = not-stopped asked (worker + 1) scripts later.1

-- no worker is stopped, and no pass has another key
module _ (limits : LimitNumbers) (start : Rows) (asked : ℕ → ℕ → Type 0) (key : ℕ) (passes : List Held) (scripts : List (Vec Event)) (new : All (IsNewPass key) passes) where
  pub tellable : {K : Type 0} (undriven : Undriven K) → IsUndriven limits start asked never key passes scripts undriven → IsTellable undriven
  tellable (Undone driving.Stopped) is = not-stopped asked 0 scripts is.1
  tellable (Undone driving.Memory) is = tt
  tellable (Undone (driving.Close why.Stranger)) is = is (All-weaker (IsNewPass key) (λ (h : Held). h.key ≡ key) (λ pass own. own.key) passes new)
  tellable (Undone (driving.Close why.Missing)) is = is
  tellable (Undone (driving.Close (why.Mismatch place))) is = is
  tellable (Undone (driving.Close why.Memory)) is = is
  tellable (Unfit refused) is = tt

  fault-of : (journal : List Entry) (done : List Held) (fault : CloseFault) → AreOf key done → IsCloseFault journal key done fault
      → IsFault journal (receipts_of done) fault
  fault-of journal done why.Stranger own is = absurd (is own)
  fault-of journal done why.Missing own is = is.1
  fault-of journal done (why.Mismatch place) own is = is.1
  fault-of journal done why.Memory own is = is.1

  misfit-of : {K : Type 0} (refused : CloseRefused K) → IsUnfit limits start asked key passes scripts refused → (reported : Misfit) → IsHandedOn refused reported
      → HasMisfit limits start scripts reported
  misfit-of refused is reported on =
      let handed = sym on.passes in
      let found = sym on.journal in
      record {
        passes = passes;
        unused = All-weaker (IsNewPass key) (λ (h : Held). h.receipts ≡ []) (λ pass own. own.receipts) passes new;
        replies = is.replies;
        run = subst (λ (ps : Vec Held). HaveRun passes scripts is.replies (receipts_of ps.items)) handed is.run.run;
        legal = subst (IsLegal limits start) found is.handed_back.legal;
        fault = subst (λ (x : List Entry × (Vec Held × CloseFault)). IsFault x.0 (receipts_of x.1.0.items) x.1.1)
            (λ i. (found i, (handed i, sym on.fault i)))
            (fault-of refused.book.entries refused.passes.items refused.fault is.run.own_done is.handed_back.fault);
        found = λ memory. on.found (sym on.fault ∙ memory);
      }

  unfit-reported : {K : Type 0} (refused : CloseRefused K) → IsUnfit limits start asked key passes scripts refused → (reported : ScriptFault) → IsReportedUnfit refused reported
      → IsRunFault limits start scripts reported
  unfit-reported refused is (Unread file) on = absurd on
  unfit-reported refused is (Run Read) on = absurd on
  unfit-reported refused is (Run Write) on = absurd on
  unfit-reported refused is (Run Memory) on = tt
  unfit-reported refused is (Line bad) on = absurd on
  unfit-reported refused is (Close reported) on = misfit-of refused is reported on

  pub no-journal : {K : Type 0} (undriven : Undriven K) → IsUndriven limits start asked never key passes scripts undriven → (reported : ScriptFault) → IsReportedAs undriven reported
      → IsRunFault limits start scripts reported
  no-journal (Undone fault) is reported on = subst (IsRunFault limits start scripts) (sym on) tt
  no-journal (Unfit refused) is reported on = unfit-reported refused is reported on

-- if the scripts gave no journal, nothing was written
pub unrun-ends : (start : Machine) (known : Known) (names : List (List ℕ)) (scripts : List (Vec Event)) → HasScripts known names scripts
    → (old new : Option (List ℕ)) → new ≡ old → (fault : ScriptFault) → IsRunFault start.limits start.rows scripts fault
    → HasDrivenFiles start known names old new (Err fault)
unrun-ends start known names scripts meant old new same (Unread file) is = absurd is
unrun-ends start known names scripts meant old new same (Run Read) is = absurd is
unrun-ends start known names scripts meant old new same (Run Write) is = absurd is
unrun-ends start known names scripts meant old new same (Run Memory) is = inl same
unrun-ends start known names scripts meant old new same (Line bad) is = absurd is
unrun-ends start known names scripts meant old new same (Close misfit) is = (same, record { scripts = scripts; meant = meant; handed_back = is })

-- ---- a core as callers see it

pub live-limits : (engine : Engine) → (live engine).limits ≡ engine.limits
unfolding live
live-limits engine = refl

-- it begins with its current state
pub begins-live : (given : LimitNumbers) (engine : Engine) → engine.limits ≡ given → Begins given (live engine).rows engine
unfolding live
begins-live given engine limits = record { limits = limits; rows = sym (live_rows-twice engine.rows) }
