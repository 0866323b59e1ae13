-- A run with questions after a chunk of its input.
use Rattle.std.proofs.Common.{◌≡◌, ℕ, ◌+◌, ◌≤◌, ◌<◌, Bool, false, true, List, [], ◌∷◌, ◌++◌, length, take, drop, get_or, Option, refl, sym, ap, ◌∙◌, subst, append_assoc, append-nil, arith, if◌then◌else◌, ◌==◌}
use Rattle.std.proofs.lemmas.Bool.{ne_eqb}
use Rattle.std.specs.Io.KnownBytes.{Appends}
use Rattle.std.proofs.KnownBytes.{Appends-trans}
use Rattle.drf_core.specs.Machine.{Machine}
use Rattle.drf_journal.specs.declared.fault.RunFault.{RunFault}
use Rattle.drf_journal.specs.declared.fault.RunFault.TheVariants.{Read, Write, Memory}
use Rattle.drf_journal.specs.Lines.{ended_lines_of, open_line_of, lines_of, IsWithinLine}
use Rattle.drf_journal.specs.Output.{kept_of}
use Rattle.drf_ask.specs.Asked.{text_for, asked_of, event_lines_of}
use Rattle.drf_ask.specs.Asking.{Asking, after_line, count_of, IsAskedTo, HasGone, HasPart, HasStoppedIn, HasStopped, HasClosed, lines_reached}
use Rattle.drf_ask.specs.Question.{is_question}
use Rattle.drf_ask.proofs.Kept.{Laws}
use Rattle.drf_ask.proofs.Steps.{cut_at, line_answered, line_goes_on, stopped_at, stopped_between, text_after, events_after}

-- a run has processed a prefix of a chunk, and the rest remains
pub record WentOver (old now : Asking) (piece rest : List ℕ) (written_old written : Option (List ℕ)) : Type 0 where
  pub prefix : List ℕ
  pub whole : piece ≡ prefix ++ rest
  pub gone : HasGone prefix old now written_old written

pub went-begins : (old : Asking) (piece : List ℕ) (written : Option (List ℕ)) → WentOver old old piece piece written written
went-begins old piece written = record {
  prefix = [];
  whole = refl;
  gone = λ start echo read first so_far. subst (λ r. IsAskedTo start echo r first written old) (sym (append-nil read)) so_far;
}

module _ (laws : Laws) (old now : Asking) (piece rest : List ℕ) (written_old written : Option (List ℕ))
    (went : WentOver old now piece rest written_old written) where
  -- a line of the rest was answered
  pub went-line : (next : Asking) (written_next : Option (List ℕ)) (at : ℕ) → at < length rest → get_or rest at 0 ≡ 10
      → IsWithinLine (take at rest) → next ≡ after_line now (kept_of (now.pending ++ take at rest))
      → Appends written written_next (text_for now.echo now.machine (kept_of (now.pending ++ take at rest)))
      → WentOver old next piece (drop (at + 1) rest) written_old written_next
  went-line next written_next at inside feed within is reported =
      let end = take at rest in
      record {
        prefix = went.prefix ++ (end ++ 10 ∷ []);
        whole = went.whole ∙ ap (λ l. went.prefix ++ l) (cut_at rest at inside feed)
            ∙ sym (append_assoc went.prefix (end ++ 10 ∷ []) (drop (at + 1) rest));
        gone = λ start echo read first so_far.
            subst (λ r. IsAskedTo start echo r first written_next next) (append_assoc read went.prefix (end ++ 10 ∷ []))
            (line_answered laws start echo (read ++ went.prefix) first written now (went.gone start echo read first so_far) end
            next written_next within is reported);
      }

  -- the rest is part of one line
  pub went-all : (next : Asking) → IsWithinLine rest → next ≡ record now { pending = kept_of (now.pending ++ rest) }
      → HasGone piece old next written_old written
  went-all next within is = λ start echo read first so_far.
      let here = line_goes_on laws start echo (read ++ went.prefix) first written now (went.gone start echo read first so_far) rest next within is in
      subst (λ r. IsAskedTo start echo r first written next)
      (append_assoc read went.prefix rest ∙ ap (λ l. read ++ l) (sym went.whole)) here

  -- the run stops at the next line of the rest
  pub went-stops : (fault : RunFault) (written_next : Option (List ℕ)) (at : ℕ) → at < length rest → get_or rest at 0 ≡ 10
      → IsWithinLine (take at rest)
      → HasPart fault written written_next (text_for now.echo now.machine (kept_of (now.pending ++ take at rest)))
      → HasStopped fault piece old written_old written_next
  went-stops fault written_next at inside feed within part = λ start echo read first so_far.
      let end = take at rest in
      let here = read ++ went.prefix in
      let line = open_line_of here ++ end in
      let stay = laws.stay (here ++ (end ++ 10 ∷ [])) (drop (at + 1) rest) in
      let later = laws.stay read went.prefix in
      let whole : read ++ piece ≡ (here ++ (end ++ 10 ∷ [])) ++ drop (at + 1) rest =
      ap (λ l. read ++ l) (went.whole ∙ ap (λ l. went.prefix ++ l) (cut_at rest at inside feed))
      ∙ sym (append_assoc read went.prefix _) ∙ sym (append_assoc here (end ++ 10 ∷ []) (drop (at + 1) rest)) in
      let all : ended_lines_of (read ++ piece) ≡ ended_lines_of here ++ line ∷ stay.0 =
      ap ended_lines_of whole ∙ stay.1 ∙ ap (λ ls. ls ++ stay.0) (laws.feed here end within).0
      ∙ append_assoc (ended_lines_of here) (line ∷ []) stay.0 in
      subst (λ ls. HasStoppedIn fault start echo (ended_lines_of read) ls first written_next) (sym all)
      (stopped_at laws start echo here first written now (went.gone start echo read first so_far) end fault written_next
      (ended_lines_of read) stay.0 later.0 later.1 part)

  -- the run stops before the rest
  pub went-forgotten : HasStopped Memory piece old written_old written
  went-forgotten = λ start echo read first so_far.
      let here = read ++ went.prefix in
      let stay = laws.stay here rest in
      let later = laws.stay read went.prefix in
      let all : ended_lines_of (read ++ piece) ≡ ended_lines_of here ++ stay.0 =
      ap ended_lines_of (ap (λ l. read ++ l) went.whole ∙ sym (append_assoc read went.prefix rest)) ∙ stay.1 in
      subst (λ ls. HasStoppedIn Memory start echo (ended_lines_of read) ls first written) (sym all)
      (stopped_between laws start echo here first written now (went.gone start echo read first so_far) (ended_lines_of read) later.0 stay.0 later.1)

-- ---- the end of the input

kept-none : (line : List ℕ) → length (kept_of line) ≡ 0 → length line ≡ 0
kept-none [] none = refl
kept-none (b ∷ line) none = absurd (omega arith)

lines-ended : (read : List ℕ) → length (open_line_of read) ≡ 0 → lines_of read ≡ ended_lines_of read
unfolding lines_of
lines-ended read none = rw none (append-nil (ended_lines_of read))

kept-some : (line : List ℕ) → 0 < length (kept_of line) → (length line == 0) ≡ false
kept-some [] some = absurd (omega arith)
kept-some (b ∷ line) some = ne_eqb (length (b ∷ line)) 0 (λ e. omega arith)

module _ (laws : Laws) (start : Machine) (echo : Bool) (read : List ℕ) (first now : Option (List ℕ)) (asking : Asking)
    (so_far : IsAskedTo start echo read first now asking) where
  -- there are no bytes after the last line feed
  pub closed-none : length asking.pending ≡ 0 → HasClosed start echo read first now asking
  closed-none none =
      let all : lines_of read ≡ ended_lines_of read = lines-ended read (kept-none (open_line_of read) (ap length (sym so_far.pending) ∙ none)) in
      record {
        written = subst (λ ls. Appends first now (asked_of start echo ls)) (sym all) so_far.written;
        events = so_far.events ∙ ap (λ ls. length (event_lines_of ls)) (sym all);
      }

  -- there are bytes after the last line feed
  last-line : 0 < length asking.pending → lines_of read ≡ ended_lines_of read ++ (open_line_of read ++ []) ∷ []
  unfolding lines_of
  last-line some =
      let test = kept-some (open_line_of read) (subst (λ (l : List ℕ). 0 < length l) so_far.pending some) in
      ap (λ (b : Bool). ended_lines_of read ++ (if b then [] else open_line_of read ∷ [])) test
      ∙ ap (λ (l : List ℕ). ended_lines_of read ++ l ∷ []) (sym (append-nil (open_line_of read)))

  module _ (some : 0 < length asking.pending) (written_next : Option (List ℕ)) where
    pub closed-line : (next : Asking) → next ≡ after_line asking (kept_of (asking.pending ++ []))
        → Appends now written_next (text_for asking.echo asking.machine (kept_of (asking.pending ++ [])))
        → HasClosed start echo read first written_next next
    closed-line next is reported =
        let all = last-line some in
        record {
          written = subst (Appends first written_next)
              (text_after laws start echo read first now asking so_far [] ∙ ap (asked_of start echo) (sym all))
              (Appends-trans _ _ _ _ _ so_far.written reported);
          events = ap (λ (a : Asking). a.events) is ∙ events_after laws start echo read first now asking so_far []
              ∙ ap (λ ls. length (event_lines_of ls)) (sym all);
        }

    pub closed-stops : (fault : RunFault)
        → HasPart fault now written_next (text_for asking.echo asking.machine (kept_of (asking.pending ++ [])))
        → HasStoppedIn fault start echo (ended_lines_of read) (lines_reached fault read) first written_next
    unfolding HasPart
    closed-stops Read part = absurd part
    closed-stops Write part =
        subst (λ ls. HasStoppedIn Write start echo (ended_lines_of read) ls first written_next) (sym (last-line some))
        (stopped_at laws start echo read first now asking so_far [] Write written_next (ended_lines_of read) [] [] (sym (append-nil _)) part)
    closed-stops Memory part =
        let text : Appends first written_next (asked_of start echo (ended_lines_of read)) =
        subst (Appends first written_next) (append-nil _) (Appends-trans _ _ _ _ _ so_far.written part) in
        subst (λ ls. HasStoppedIn Memory start echo (ended_lines_of read) ls first written_next) (append-nil (ended_lines_of read))
        (stopped_between laws start echo read first written_next asking (record {
          written = text;
          machine = so_far.machine;
          reported_too = so_far.reported_too;
          pending = so_far.pending;
          events = so_far.events;
        }) (ended_lines_of read) [] [] (sym (append-nil _)))

-- ---- the number of event lines

pub counted : (line : List ℕ) → count_of line ≤ 1
counted line = at (is_question line)
  where
    at : (asks : Bool) → (if asks then 0 else 1) ≤ 1
    at true = omega arith
    at false = omega arith
