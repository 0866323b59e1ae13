-- How a run with questions ends.
use Rattle.std.proofs.Common.{◌≡◌, ℕ, ◌-◌, ◌≤◌, Bool, false, List, [], ◌∷◌, ◌++◌, length, take, drop, Option, Ok, Err, ⊎_elim, inl, inr, refl, sym, ap, ◌∙◌, subst, append_assoc, append-nil, take-append-drop, if◌then◌else◌, ◌==◌, arith}
use Rattle.std.specs.Prelude.{⊤}
use Rattle.std.proofs.Math.Seq.{take-append_seam}
use Rattle.std.specs.Io.{StartsWith}
use Rattle.std.specs.Io.KnownBytes.{Appends, Consumes, Keeps, IsAtEnd}
use Rattle.std.proofs.KnownBytes.{Appends-nil, Consumes-nil, Consumes-trans, Consumes-kept}
use Rattle.std.proofs.lemmas.Bool.{false≢true}
use Rattle.std.proofs.lemmas.List.{length-append, take-append-le}
use Rattle.drf_core.specs.Machine.{Machine}
use Rattle.drf_journal.specs.declared.fault.RunFault.{RunFault}
use Rattle.drf_journal.specs.declared.fault.RunFault.TheVariants.{Read, Write, Memory}
use Rattle.drf_journal.specs.Ended.{HaveEnded, HasCause, HasFlushed}
use Rattle.drf_journal.specs.JournalLaws.{EndedLinesStay}
use Rattle.drf_journal.specs.Lines.{ended_lines_of, open_line_of, lines_of}
use Rattle.drf_journal.specs.Output.{kept_of}
use Rattle.drf_ask.specs.Asked.{after_all_asked, asked_of, event_lines_of}
use Rattle.drf_ask.specs.Asking.{Asking, IsNotAsked, IsAskedTo, HasGone, HasStoppedIn, HasStopped, HasClosed, lines_reached}
use Rattle.drf_ask.specs.Ended.{HasAsked}
use Rattle.drf_ask.proofs.Steps.{asked-append, begins, begins_before}

-- the state of reader, writer and run before the next read
pub record IsServing (old : Asking) (unread_first unread written_first written : Option (List ℕ)) (asking : Asking) : Type 0 where
  pub read : List ℕ
  pub consumed : Consumes unread_first unread read
  pub so_far : IsAskedTo old.machine old.echo read written_first written asking

none_ended : ended_lines_of [] ≡ []
unfolding ended_lines_of
none_ended = refl

none_open : open_line_of [] ≡ []
unfolding open_line_of
none_open = refl

-- ---- lines in parts

all_lines : (read : List ℕ) → (last : List (List ℕ)) × (lines_of read ≡ ended_lines_of read ++ last)
unfolding lines_of
all_lines read = (if length (open_line_of read) == 0 then [] else open_line_of read ∷ [], refl)

first_lines : (all answered more : List (List ℕ)) → all ≡ answered ++ more → take (length answered) all ≡ answered
first_lines all answered more whole = ap (take (length answered)) whole ∙ take-append_seam answered more

few_lines : (all answered more : List (List ℕ)) → all ≡ answered ++ more → length answered ≤ length all
few_lines all answered more whole =
    let same = ap length whole in let sum = length-append answered more in omega arith

-- if memory ran out, all counted lines had ended
abbrev EndsAt : RunFault → List ℕ → List (List ℕ) → Type 0
EndsAt Read read all = ⊤
EndsAt Write read all = ⊤
EndsAt Memory read all = ended_lines_of read ≡ all

ends_there : (fault : RunFault) (read : List ℕ) → EndsAt fault read (ended_lines_of read)
ends_there Read read = tt
ends_there Write read = tt
ends_there Memory read = refl

module _ (stay : EndedLinesStay) (machine : Machine) (echo : Bool) where
  -- the text begins with that for the lines of a prefix
  earlier : (written read : List ℕ) (count : ℕ) → StartsWith written (asked_of machine echo (ended_lines_of read))
      → StartsWith written (asked_of machine echo (ended_lines_of (take count read)))
  earlier written read count whole =
      let first = ended_lines_of (take count read) in
      let others = stay (take count read) (drop count read) in
      let parted : ended_lines_of read ≡ first ++ others.0 = ap ended_lines_of (sym (take-append-drop count read)) ∙ others.1 in
      begins_before written (asked_of machine echo first) _
      (subst (λ (t : List ℕ). StartsWith written t) (ap (asked_of machine echo) parted ∙ asked-append machine echo first others.0) whole)

  -- the text for all lines begins with that for the lines that had ended
  whole_first : (read : List ℕ) → StartsWith (asked_of machine echo (lines_of read)) (asked_of machine echo (ended_lines_of read))
  whole_first read =
      let last = all_lines read in
      subst (λ (t : List ℕ). StartsWith t (asked_of machine echo (ended_lines_of read)))
      (sym (ap (asked_of machine echo) last.1 ∙ asked-append machine echo (ended_lines_of read) last.0))
      (begins (asked_of machine echo (ended_lines_of read)) _)

  all_first : (written : List ℕ) → StartsWith written written
  all_first written = subst (λ (t : List ℕ). StartsWith t written) (append-nil written) (begins written [])

  module _ (unread_first unread_after written_first written_after : Option (List ℕ)) (read : List ℕ)
      (consumed : Consumes unread_first unread_after read) where
    -- the run stopped
    stopped_with : (fault : RunFault) (before : List (List ℕ)) (all : List (List ℕ)) (rest : List (List ℕ))
        → HasStoppedIn fault machine echo before all written_first written_after
        → EndsAt fault read all × (lines_of read ≡ all ++ rest)
        → ((answered : ℕ) → answered ≤ length all → HaveEnded answered read unread_after)
        → ((written : List ℕ) → StartsWith written (asked_of machine echo before)
        → StartsWith written (asked_of machine echo (ended_lines_of (take (length read - 65536) read))))
        → HasAsked machine echo unread_first unread_after written_first written_after (Err fault)
    stopped_with Read before all rest stopped reported ended prompt = absurd stopped.prefix
    stopped_with Write before all rest stopped reported ended prompt =
        let parted : lines_of read ≡ stopped.answered ++ (stopped.more ++ rest) =
        reported.1 ∙ ap (λ ls. ls ++ rest) stopped.whole ∙ append_assoc stopped.answered stopped.more rest in
        record {
          read = read;
          written = stopped.written;
          consumed = consumed;
          appended = stopped.appended;
          lines = length stopped.answered;
          answered = record {
            count = stopped.prefix.0;
            output = stopped.prefix.1
                ∙ ap (λ ls. take stopped.prefix.0 (asked_of machine echo ls)) (sym (first_lines _ _ _ parted));
          };
          ended = ended (length stopped.answered) (few_lines _ _ _ stopped.whole);
          prompt = prompt stopped.written stopped.prompt;
        }
    stopped_with Memory before all rest stopped reported ended prompt =
        let parted : ended_lines_of read ≡ stopped.answered ++ stopped.more = reported.0 ∙ stopped.whole in
        record {
          read = read;
          written = stopped.written;
          consumed = consumed;
          appended = stopped.appended;
          lines = length stopped.answered;
          answered = record {
            output = stopped.prefix ∙ ap (asked_of machine echo) (sym (first_lines _ _ _ parted));
            had_ended = few_lines _ _ _ parted;
          };
          ended = ended (length stopped.answered) (few_lines _ _ _ stopped.whole);
          prompt = prompt stopped.written stopped.prompt;
        }

-- ---- a run

pub never-served : (machine : Machine) (echo : Bool) (unread written : Option (List ℕ)) → HasAsked machine echo unread unread written written (Err Memory)
never-served machine echo unread written = record {
  read = [];
  written = [];
  consumed = Consumes-nil unread;
  appended = Appends-nil written;
  lines = 0;
  answered = record { output = refl; had_ended = omega arith };
  ended = inl (omega arith);
  prompt = subst (λ ls. StartsWith [] (asked_of machine echo ls)) (sym none_ended) refl;
}

pub serving-begins : (old : Asking) → IsNotAsked old → (unread written : Option (List ℕ)) → IsServing old unread unread written written old
serving-begins old begins unread written = record {
  read = [];
  consumed = Consumes-nil unread;
  so_far = record {
    written = subst (λ ls. Appends written written (asked_of old.machine old.echo ls)) (sym none_ended) (Appends-nil written);
    machine = ap (after_all_asked old.machine) (sym none_ended);
    reported_too = refl;
    pending = ap (λ (a : Asking). a.pending) begins ∙ ap kept_of (sym none_open);
    events = ap (λ (a : Asking). a.events) begins ∙ ap (λ ls. length (event_lines_of ls)) (sym none_ended);
  };
}

module _ (stay : EndedLinesStay) (old : Asking) (unread_first unread unread_next written_first written written_next : Option (List ℕ)) (asking : Asking)
    (serving : IsServing old unread_first unread written_first written asking) where
  pub serving-takes : (piece : List ℕ) (next : Asking) → Consumes unread unread_next piece → HasGone piece asking next written written_next
      → IsServing old unread_first unread_next written_first written_next next
  serving-takes piece next consumed gone = record {
    read = serving.read ++ piece;
    consumed = Consumes-trans _ _ _ _ _ serving.consumed consumed;
    so_far = gone old.machine old.echo serving.read written_first serving.so_far;
  }

  pub run-unread : Keeps unread unread_next → HasAsked old.machine old.echo unread_first unread_next written_first written (Err Read)
  run-unread kept =
      let text = asked_of old.machine old.echo (ended_lines_of serving.read) in
      record {
        read = serving.read;
        written = text;
        consumed = Consumes-kept _ _ _ _ serving.consumed kept;
        appended = serving.so_far.written;
        lines = length (ended_lines_of serving.read);
        answered = record { output = refl; all_ended = refl };
        ended = inl (omega arith);
        prompt = earlier stay old.machine old.echo text serving.read _ (all_first stay old.machine old.echo text);
      }

  module _ (consumed : Consumes unread unread_next []) (at_end : IsAtEnd unread_next) where
    all_consumed : Consumes unread_first unread_next serving.read
    all_consumed = subst (Consumes unread_first unread_next) (append-nil serving.read) (Consumes-trans _ _ _ _ _ serving.consumed consumed)

    pub run-ends : (next : Asking) (reported : ℕ) → reported ≡ next.events
        → ((start : Machine) (echo : Bool) (read : List ℕ) (first : Option (List ℕ)) → IsAskedTo start echo read first written asking → HasClosed start echo read first written_next next)
        → HasAsked old.machine old.echo unread_first unread_next written_first written_next (Ok reported)
    run-ends next reported is closed =
        let end = closed old.machine old.echo serving.read written_first serving.so_far in
        record {
          read = serving.read;
          written = asked_of old.machine old.echo (lines_of serving.read);
          consumed = all_consumed;
          appended = end.written;
          lines = length (lines_of serving.read);
          answered = record { output = refl; all_lines = refl; events = is ∙ end.events };
          ended = inr at_end;
          prompt = earlier stay old.machine old.echo _ serving.read _ (whole_first stay old.machine old.echo serving.read);
        }

    pub run-unclosed : (fault : RunFault)
        → ((start : Machine) (echo : Bool) (read : List ℕ) (first : Option (List ℕ)) → IsAskedTo start echo read first written asking
        → HasStoppedIn fault start echo (ended_lines_of read) (lines_reached fault read) first written_next)
        → HasAsked old.machine old.echo unread_first unread_next written_first written_next (Err fault)
    run-unclosed Read stops = absurd (stops old.machine old.echo serving.read written_first serving.so_far).prefix
    run-unclosed Write stops =
        stopped_with stay old.machine old.echo unread_first unread_next written_first written_next serving.read all_consumed Write
        (ended_lines_of serving.read) (lines_of serving.read) [] (stops old.machine old.echo serving.read written_first serving.so_far)
        (tt, sym (append-nil (lines_of serving.read))) (λ answered few. inr at_end)
        (λ text whole. earlier stay old.machine old.echo text serving.read _ whole)
    run-unclosed Memory stops =
        let last = all_lines serving.read in
        stopped_with stay old.machine old.echo unread_first unread_next written_first written_next serving.read all_consumed Memory
        (ended_lines_of serving.read) (ended_lines_of serving.read) last.0 (stops old.machine old.echo serving.read written_first serving.so_far)
        (refl, last.1) (λ answered few. inr at_end)
        (λ text whole. earlier stay old.machine old.echo text serving.read _ whole)

  pub run-stops : (fault : RunFault) (piece : List ℕ) → length piece ≤ 65536 → Consumes unread unread_next piece
      → HasStopped fault piece asking written written_next
      → HasAsked old.machine old.echo unread_first unread_next written_first written_next (Err fault)
  run-stops fault piece short consumed stops =
      let read = serving.read ++ piece in
      let last = all_lines read in
      let prefix : take (length read - 65536) read ≡ take (length read - 65536) serving.read =
      take-append-le _ serving.read piece (let sum = length-append serving.read piece in omega arith) in
      stopped_with stay old.machine old.echo unread_first unread_next written_first written_next read
      (Consumes-trans _ _ _ _ _ serving.consumed consumed) fault
      (ended_lines_of serving.read) (ended_lines_of read) last.0 (stops old.machine old.echo serving.read written_first serving.so_far)
      (ends_there fault read, last.1) (λ answered few. inl few)
      (λ text whole. subst (λ (l : List ℕ). StartsWith text (asked_of old.machine old.echo (ended_lines_of l))) (sym prefix)
      (earlier stay old.machine old.echo text serving.read (length read - 65536) whole))

-- ---- the cause of an error

pub cause-stopped : (fault : RunFault) (reader_failed : Bool) (reads : ℕ) (writer_failed : Bool) → reader_failed ≡ false
    → HasCause {T = Unit {0}} (Err fault) false 0 writer_failed → HasCause {T = ℕ} (Err fault) reader_failed reads writer_failed
cause-stopped Read reader_failed reads writer_failed sound cause = absurd (⊎_elim (λ e. false≢true e) (λ e. omega arith) cause.0)
cause-stopped Write reader_failed reads writer_failed sound cause = (sound, cause.1)
cause-stopped Memory reader_failed reads writer_failed sound cause = (sound, cause.1)

pub flushed-stopped : (A B : Type 0) (fault : RunFault) (flushed : Bool) → HasFlushed {T = A} (Err fault) flushed
    → HasFlushed {T = B} (Err fault) flushed
flushed-stopped A B Read flushed is = is
flushed-stopped A B Write flushed is = tt
flushed-stopped A B Memory flushed is = is
