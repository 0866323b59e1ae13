-- What a lint has read and written so far, and its result.
use Rattle.std.proofs.Common.{◌≡◌, ℕ, ◌+◌, ◌-◌, ◌^◌, ◌≤◌, ◌<◌, Bool, true, false, List, [], ◌∷◌, ◌++◌, length, take, drop, Option, Ok, Err, ⊎_elim, inl, inr, refl, sym, ap, ◌∙◌, subst, append_assoc, append-nil, take-append-drop, if◌then◌else◌, ◌==◌, arith}
use Rattle.std.specs.Io.KnownBytes.{Appends, Consumes, Keeps, IsAtEnd}
use Rattle.std.proofs.KnownBytes.{Appends-nil, Appends-trans, Consumes-nil, Consumes-trans, Consumes-kept}
use Rattle.std.proofs.lemmas.Bool.{cases_lt, false≢true, ne_eqb}
use Rattle.std.proofs.lemmas.List.{length-append, take-append-le}
use Rattle.drf_lines.specs.Meaning.{meaning_of}
use Rattle.drf_journal.specs.declared.fault.RunFault.{RunFault}
use Rattle.drf_journal.specs.declared.fault.RunFault.TheVariants.{Read, Write, Memory}
use Rattle.drf_journal.specs.Ended.{HasCause}
use Rattle.drf_journal.specs.Lines.{ended_lines_of, open_line_of, lines_of}
use Rattle.drf_journal.specs.Output.{kept_of}
use Rattle.drf_lint.specs.Judged.{form_of, AreJudged}
use Rattle.drf_lint.specs.Linted.{AreLinted, AreReached, HasAllOf, HasLinted, AreJudgedInPart, IsPrefixOf}
use Rattle.drf_lint.specs.Lint.{Lint, begun, HasJudged, HasJudgedInPart, HasJudgedNothing, HasStoppedAt, HasEnded, HasClosed, IsLintedTo, IsStop, HasTaken, HasStoppedIn}
use Rattle.drf_lint.proofs.Kept.{length-kept, meaning-kept}
use Rattle.drf_lint.proofs.Judges.{all-of-first, judged-other, part-other, judged-more, part-more}
use Rattle.drf_lint.proofs.Pieces.{Laws}

-- ---- the lines of what was read

none_ended : ended_lines_of [] ≡ []
unfolding ended_lines_of
none_ended = refl

none_open : open_line_of [] ≡ []
unfolding open_line_of
none_open = refl

all_lines : (read : List ℕ) → (last : List (List ℕ)) × (lines_of read ≡ ended_lines_of read ++ last)
unfolding lines_of
all_lines read = (if length (open_line_of read) == 0 then [] else open_line_of read ∷ [], refl)

lines_closed : (read : List ℕ) → open_line_of read ≡ [] → lines_of read ≡ ended_lines_of read
unfolding lines_of
lines_closed read none =
    ap (λ (l : List ℕ). ended_lines_of read ++ (if length l == 0 then [] else l ∷ [])) none ∙ append-nil (ended_lines_of read)

lines_open : (read : List ℕ) → 0 < length (open_line_of read) → lines_of read ≡ ended_lines_of read ++ open_line_of read ∷ []
unfolding lines_of
lines_open read some =
    let test : (length (open_line_of read) == 0) ≡ false = ne_eqb (length (open_line_of read)) 0 (λ e. omega arith) in
    ap (λ (t : Bool). ended_lines_of read ++ (if t then [] else open_line_of read ∷ [])) test

few_lines : (all lines left : List (List ℕ)) → all ≡ lines ++ left → length lines ≤ length all
few_lines all lines left whole = let same = ap length whole in let sum = length-append lines left in omega arith

-- the state of the reader and the writers before a lint reads again
pub record IsLinting (write : Bool) (u0 u w0 w e0 e : Option (List ℕ)) (lint : Lint) : Type 0 where
  pub read : List ℕ
  pub written : List ℕ
  pub reported : List ℕ
  pub consumed : Consumes u0 u read
  pub appended : Appends w0 w written
  pub reported_appended : Appends e0 e reported
  pub write_is : lint.write ≡ write
  pub state : IsLintedTo read lint written reported

pub linting-begins : (write : Bool) (lint : Lint) (u w e : Option (List ℕ)) → lint ≡ begun write → IsLinting write u u w w e e lint
linting-begins write lint u w e is = subst (IsLinting write u u w w e e) (sym is) (record {
  read = [];
  written = [];
  reported = [];
  consumed = Consumes-nil u;
  appended = Appends-nil w;
  reported_appended = Appends-nil e;
  write_is = refl;
  state = record {
    prefix = ap kept_of (sym none_open);
    lines = ap length (sym none_ended);
    judged = subst (λ ls. AreJudged write ls [] [] 0) (sym none_ended) (record { forms = refl; tellings = refl; count = refl });
  };
})

module _ (laws : Laws) (write : Bool) (u0 u u1 w0 w w1 e0 e e1 : Option (List ℕ)) (lint : Lint) (linting : IsLinting write u0 u w0 w e0 e lint) where
  pub linting-takes : (piece : List ℕ) (new : Lint) → Consumes u u1 piece → HasTaken piece lint new w w1 e e1
      → IsLinting write u0 u1 w0 w1 e0 e1 new
  linting-takes piece new more taken = record {
    read = linting.read ++ piece;
    written = linting.written ++ taken.written;
    reported = linting.reported ++ taken.reported;
    consumed = Consumes-trans u0 u u1 linting.read piece linting.consumed more;
    appended = Appends-trans w0 w w1 linting.written taken.written linting.appended taken.appended;
    reported_appended = Appends-trans e0 e e1 linting.reported taken.reported linting.reported_appended taken.reported_appended;
    write_is = taken.write ∙ linting.write_is;
    state = taken.goes_on linting.read linting.written linting.reported linting.state;
  }

  judged_so_far : AreJudged write (ended_lines_of linting.read) linting.written linting.reported lint.faults
  judged_so_far =
      subst (λ wr. AreJudged wr (ended_lines_of linting.read) linting.written linting.reported lint.faults) linting.write_is linting.state.judged

  -- the output is complete for the lines that had ended in a prefix of what was read
  all_of_prefix : (count : ℕ) (written reported : List ℕ) → IsPrefixOf linting.written written → IsPrefixOf linting.reported reported
      → HasAllOf write (ended_lines_of (take count linting.read)) written reported
  all_of_prefix count written reported grown reported_grown =
      let first = ended_lines_of (take count linting.read) in
      let others = laws.stay (take count linting.read) (drop count linting.read) in
      let parted : ended_lines_of linting.read ≡ first ++ others.0 = ap ended_lines_of (sym (take-append-drop count linting.read)) ∙ others.1 in
      all-of-first write first others.0 linting.written linting.reported written reported lint.faults
      (subst (λ ls. AreJudged write ls linting.written linting.reported lint.faults) parted judged_so_far) grown reported_grown

  all_as_before : (count : ℕ) → HasAllOf write (ended_lines_of (take count linting.read)) linting.written linting.reported
  all_as_before count =
      all_of_prefix count linting.written linting.reported ([], sym (append-nil linting.written)) ([], sym (append-nil linting.reported))

  are_reached : (fault : RunFault) (read : List ℕ) (lines : List (List ℕ)) → IsStop fault → length lines ≤ length (ended_lines_of read)
      → AreReached (Err fault) read lines
  are_reached Read read lines stop few = absurd stop
  are_reached Write read lines stop few = tt
  are_reached Memory read lines stop few = few

  -- it stops within a chunk
  pub linted-stops : (fault : RunFault) (piece : List ℕ) → length piece ≤ 65536 → Consumes u u1 piece
      → HasStoppedIn fault piece lint w w1 e e1 → HasLinted write u0 u1 w0 w1 e0 e1 (Err fault)
  linted-stops fault piece short more stopped =
      let read = linting.read ++ piece in
      let written = linting.written ++ stopped.written in
      let reported = linting.reported ++ stopped.reported in
      let stop = stopped.stops linting.read linting.written linting.reported linting.state in
      let last = all_lines read in
      let few = few_lines (ended_lines_of read) stop.lines stop.left stop.first in
      let prefix : take (length read - 65536) read ≡ take (length read - 65536) linting.read =
      take-append-le _ linting.read piece (let sum = length-append linting.read piece in omega arith) in
      record {
        read = read;
        written = written;
        reported = reported;
        consumed = Consumes-trans u0 u u1 linting.read piece linting.consumed more;
        appended = Appends-trans w0 w w1 linting.written stopped.written linting.appended stopped.appended;
        reported_appended = Appends-trans e0 e e1 linting.reported stopped.reported linting.reported_appended stopped.reported_appended;
        lines = stop.lines;
        left = stop.left ++ last.0;
        first = last.1 ∙ ap (λ ls. ls ++ last.0) stop.first ∙ append_assoc stop.lines stop.left last.0;
        linted = subst (λ wr. AreLinted wr (Err fault) stop.lines written reported) linting.write_is stop.linted;
        reached = are_reached fault read stop.lines stop.stop few;
        ended = inl few;
        prompt = subst (λ (l : List ℕ). HasAllOf write (ended_lines_of l) written reported) (sym prefix)
            (all_of_prefix (length read - 65536) written reported (stopped.written, refl) (stopped.reported, refl));
        whole = tt;
      }

  -- a read fails
  pub linted-unread : Keeps u u1 → HasLinted write u0 u1 w0 w e0 e (Err Read)
  linted-unread kept =
      let last = all_lines linting.read in record {
        read = linting.read;
        written = linting.written;
        reported = linting.reported;
        consumed = Consumes-kept u0 u u1 linting.read linting.consumed kept;
        appended = linting.appended;
        reported_appended = linting.reported_appended;
        lines = ended_lines_of linting.read;
        left = last.0;
        first = last.1;
        linted = (lint.faults, judged_so_far);
        reached = refl;
        ended = inl (omega arith);
        prompt = all_as_before (length linting.read - 65536);
        whole = tt;
      }

  -- ---- the input is at its end

  module _ (none_read : Consumes u u1 []) (at_end : IsAtEnd u1) where
    still_consumed : Consumes u0 u1 linting.read
    still_consumed = subst (Consumes u0 u1) (append-nil linting.read) (Consumes-trans u0 u u1 linting.read [] linting.consumed none_read)

    abbrev ended : List (List ℕ)
    ended = ended_lines_of linting.read

    -- the open line
    abbrev last : List ℕ
    last = open_line_of linting.read

    none_kept : length lint.prefix ≡ 0 → last ≡ []
    none_kept none = by_length last (ap length (sym linting.state.prefix) ∙ none)
      where
        by_length : (bytes : List ℕ) → length (kept_of bytes) ≡ 0 → bytes ≡ []
        by_length [] none = refl
        by_length (b ∷ bytes) none = absurd (omega (arith, none))

    alone : 0 < length lint.prefix → lines_of linting.read ≡ ended ++ last ∷ []
    alone some = lines_open linting.read (let kept = length-kept last in let same = ap length linting.state.prefix in omega arith)

    number : lint.lines + 1 ≡ length ended + 1
    number = ap (λ n. n + 1) linting.state.lines

    closed-none : (new : Lint) → length lint.prefix ≡ 0 → new ≡ lint → HasJudgedNothing w w1 e e1
        → HasLinted write u0 u1 w0 w1 e0 e1 (Ok new.faults)
    closed-none new none same nothing =
        let all = lines_closed linting.read (none_kept none) in record {
          read = linting.read;
          written = linting.written;
          reported = linting.reported;
          consumed = still_consumed;
          appended = subst (Appends w0 w1) (append-nil linting.written) (Appends-trans w0 w w1 linting.written [] linting.appended nothing.nothing);
          reported_appended = subst (Appends e0 e1) (append-nil linting.reported) (Appends-trans e0 e e1 linting.reported [] linting.reported_appended nothing.nothing_reported);
          lines = ended;
          left = [];
          first = all ∙ sym (append-nil ended);
          linted = subst (λ f. AreJudged write ended linting.written linting.reported f) (ap (λ (l : Lint). l.faults) (sym same)) judged_so_far;
          reached = sym all;
          ended = inr at_end;
          prompt = all_as_before (length linting.read - 65536);
          whole = at_end;
        }

    closed-some : (new : Lint) → 0 < length lint.prefix → HasEnded lint [] new w w1 e e1
        → HasLinted write u0 u1 w0 w1 e0 e1 (Ok new.faults)
    closed-some new some ends =
        let prefix_is : lint.prefix ++ [] ≡ kept_of last = append-nil lint.prefix ∙ linting.state.prefix in
        let here = subst (λ n. HasJudged lint.write n (lint.prefix ++ []) ends.faults w w1 e e1) number ends.judged in
        let kept = subst (λ l. HasJudged lint.write (length ended + 1) l ends.faults w w1 e e1) prefix_is here in
        let whole = judged-other lint.write _ ends.faults (kept_of last) last w w1 e e1 (meaning-kept last) (length-kept last) kept in
        let form = form_of lint.write (meaning_of last) in
        let more = judged-more lint.write ended last linting.written linting.reported whole.reported lint.faults ends.faults
        linting.state.judged whole.is_reported whole.count in
        record {
          read = linting.read;
          written = linting.written ++ form;
          reported = linting.reported ++ whole.reported;
          consumed = still_consumed;
          appended = Appends-trans w0 w w1 linting.written form linting.appended whole.appended;
          reported_appended = Appends-trans e0 e e1 linting.reported whole.reported linting.reported_appended whole.reported_appended;
          lines = ended ++ last ∷ [];
          left = [];
          first = alone some ∙ sym (append-nil _);
          linted = subst (λ f. AreJudged write (ended ++ last ∷ []) (linting.written ++ form) (linting.reported ++ whole.reported) f)
              (ap (λ (l : Lint). l.faults) (sym ends.new_is))
              (subst (λ wr. AreJudged wr (ended ++ last ∷ []) (linting.written ++ form) (linting.reported ++ whole.reported) (lint.faults + ends.faults))
              linting.write_is more);
          reached = sym (alone some);
          ended = inr at_end;
          prompt = all_of_prefix (length linting.read - 65536) (linting.written ++ form) (linting.reported ++ whole.reported) (form, refl) (whole.reported, refl);
          whole = at_end;
        }

    pub linted-closed : (new : Lint) → HasClosed lint new w w1 e e1 → HasLinted write u0 u1 w0 w1 e0 e1 (Ok new.faults)
    linted-closed new closed =
        ⊎_elim
        (λ (some : 0 < length lint.prefix). closed-some new some (closed.some some))
        (λ (few : length lint.prefix ≤ 0). let none : length lint.prefix ≡ 0 = omega arith in
        let same = closed.none none in closed-none new none same.0 same.1)
        (cases_lt 0 (length lint.prefix))

    -- it stops at the last line
    close-memory : HasJudgedNothing w w1 e e1 → 0 < length lint.prefix → HasLinted write u0 u1 w0 w1 e0 e1 (Err Memory)
    close-memory nothing some = record {
      read = linting.read;
      written = linting.written;
      reported = linting.reported;
      consumed = still_consumed;
      appended = subst (Appends w0 w1) (append-nil linting.written) (Appends-trans w0 w w1 linting.written [] linting.appended nothing.nothing);
      reported_appended = subst (Appends e0 e1) (append-nil linting.reported) (Appends-trans e0 e e1 linting.reported [] linting.reported_appended nothing.nothing_reported);
      lines = ended;
      left = last ∷ [];
      first = alone some;
      linted = (lint.faults, judged_so_far);
      reached = omega arith;
      ended = inr at_end;
      prompt = all_as_before (length linting.read - 65536);
      whole = tt;
    }

    close-write : HasJudgedInPart lint.write (lint.lines + 1) lint.prefix w w1 e e1 → 0 < length lint.prefix
        → HasLinted write u0 u1 w0 w1 e0 e1 (Err Write)
    close-write part some =
        let here = subst (λ n. HasJudgedInPart lint.write n lint.prefix w w1 e e1) number part in
        let kept = subst (λ l. HasJudgedInPart lint.write (length ended + 1) l w w1 e e1) linting.state.prefix here in
        let whole = part-other lint.write _ (kept_of last) last w w1 e e1 (meaning-kept last) (length-kept last) kept in
        let wrote = take whole.prefix.0 (form_of lint.write (meaning_of last)) in
        let tells = take whole.reported_prefix.0 whole.reported in
        record {
          read = linting.read;
          written = linting.written ++ wrote;
          reported = linting.reported ++ tells;
          consumed = still_consumed;
          appended = Appends-trans w0 w w1 linting.written wrote linting.appended whole.prefix.1;
          reported_appended = Appends-trans e0 e e1 linting.reported tells linting.reported_appended whole.reported_prefix.1;
          lines = ended ++ last ∷ [];
          left = [];
          first = alone some ∙ sym (append-nil _);
          linted = subst (λ wr. AreJudgedInPart wr (ended ++ last ∷ []) (linting.written ++ wrote) (linting.reported ++ tells)) linting.write_is
              (part-more lint.write ended last linting.written linting.reported whole.reported lint.faults whole.prefix.0 whole.reported_prefix.0
              linting.state.judged whole.is_reported);
          reached = tt;
          ended = inr at_end;
          prompt = all_of_prefix (length linting.read - 65536) (linting.written ++ wrote) (linting.reported ++ tells) (wrote, refl) (tells, refl);
          whole = tt;
        }

    pub linted-close_stops : (fault : RunFault) → (0 < length lint.prefix) × HasStoppedAt fault lint.write (lint.lines + 1) lint.prefix w w1 e e1
        → HasLinted write u0 u1 w0 w1 e0 e1 (Err fault)
    linted-close_stops Read stop = absurd stop.1
    linted-close_stops Write stop = close-write stop.1 stop.0
    linted-close_stops Memory stop = close-memory stop.1 stop.0

-- an error that a call on the writers returned is an error of the whole lint, if the reader has not failed
pub cause-moved : (fault : RunFault) (reader_failed : Bool) (reads : ℕ) (writer_failed : Bool) → reader_failed ≡ false
    → HasCause {T = Unit {0}} (Err fault) false 0 writer_failed → HasCause {T = ℕ} (Err fault) reader_failed reads writer_failed
cause-moved Read reader_failed reads writer_failed sound cause =
    absurd (⊎_elim (λ (failed : false ≡ true). false≢true failed) (λ (many : 0 ≡ 2 ^ 40). absurd (omega arith)) cause.0)
cause-moved Write reader_failed reads writer_failed sound cause = (sound, cause.1)
cause-moved Memory reader_failed reads writer_failed sound cause = (sound, cause.1)
