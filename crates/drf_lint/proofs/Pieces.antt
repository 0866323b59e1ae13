-- The state of a lint after a chunk of its input.
use Rattle.std.proofs.Common.{◌≡◌, ℕ, ◌+◌, ◌≤◌, ◌<◌, Bool, true, false, ◌||◌, OnOk, IfErr, List, [], ◌∷◌, ◌++◌, length, get_or, take, drop, Option, Result, Ok, Err, refl, sym, ap, ◌∙◌, subst, append_assoc, append-nil, suc, add-one, take-append-drop, arith}
use Rattle.std.proofs.Math.Seq.{drop-cons}
use Rattle.std.proofs.KnownBytes.{Appends-nil, Appends-trans}
use Rattle.std.proofs.lemmas.Bool.{false≢true}
use Rattle.std.proofs.lemmas.List.{length-append}
use Rattle.drf_lines.specs.Meaning.{meaning_of}
use Rattle.drf_lines.specs.declared.fault.LineFault.{LineFault}
use Rattle.drf_rows.specs.declared.event.Event.{Event}
use Rattle.drf_journal.specs.declared.fault.RunFault.{RunFault}
use Rattle.drf_journal.specs.declared.fault.RunFault.TheVariants.{Read, Write, Memory}
use Rattle.drf_journal.specs.JournalLaws.{LineFeedEndsLine, LineGoesOn, EndedLinesStay}
use Rattle.drf_journal.specs.Lines.{ended_lines_of, open_line_of, IsWithinLine}
use Rattle.drf_journal.specs.Output.{kept_of}
use Rattle.drf_lint.specs.Judged.{form_of, faults_of, IsReportedOf, AreJudged}
use Rattle.drf_lint.specs.Linted.{AreJudgedInPart}
use Rattle.drf_lint.specs.Lint.{Lint, HasJudged, HasJudgedInPart, HasJudgedNothing, HasStoppedAt, HasEnded, HasClosed, IsLintedTo, IsStoppedIn, HasTaken, HasStoppedIn}
use Rattle.drf_lint.proofs.Kept.{kept-append, length-goes_on, length-kept, meaning-goes_on, meaning-kept}
use Rattle.drf_lint.proofs.Judges.{reported-other, judged-other, part-other, judged-more, part-more}

-- the contract of `line_law`
pub record Laws : Type 0 where
  pub feed : LineFeedEndsLine
  pub within : LineGoesOn
  pub stay : EndedLinesStay

-- ---- the open line ends

module _ (read : List ℕ) (lint : Lint) (before reported_then : List ℕ) (state : IsLintedTo read lint before reported_then) (end : List ℕ) where
  abbrev line : List ℕ
  line = open_line_of read ++ end

  number : lint.lines + 1 ≡ length (ended_lines_of read) + 1
  number = ap (λ n. n + 1) state.lines

  -- the stored bytes and the line mean the same
  means : meaning_of (lint.prefix ++ end) ≡ meaning_of line
  means = ap (λ l. meaning_of (l ++ end)) state.prefix ∙ meaning-goes_on (open_line_of read) end

  shorter : length (lint.prefix ++ end) ≤ length line
  shorter = subst (λ l. length (l ++ end) ≤ length line) (sym state.prefix) (length-goes_on (open_line_of read) end)

  module _ (faults : ℕ) (w0 w1 e0 e1 : Option (List ℕ)) (judged : HasJudged lint.write (lint.lines + 1) (lint.prefix ++ end) faults w0 w1 e0 e1) where
    pub all-judged : AreJudged lint.write (ended_lines_of read ++ line ∷ []) (before ++ form_of lint.write (meaning_of (lint.prefix ++ end)))
        (reported_then ++ judged.reported) (lint.faults + faults)
    all-judged =
        let here = subst (λ n. IsReportedOf n (lint.prefix ++ end) (meaning_of (lint.prefix ++ end)) judged.reported) number judged.is_reported in
        let is_reported = reported-other _ (lint.prefix ++ end) line means shorter judged.reported here in
        let more = judged-more lint.write (ended_lines_of read) line before reported_then judged.reported lint.faults faults state.judged is_reported
        (judged.count ∙ ap faults_of means) in
        subst (λ m. AreJudged lint.write (ended_lines_of read ++ line ∷ []) (before ++ form_of lint.write m) (reported_then ++ judged.reported) (lint.faults + faults))
        (sym means) more

  module _ (w0 w1 e0 e1 : Option (List ℕ)) (part : HasJudgedInPart lint.write (lint.lines + 1) (lint.prefix ++ end) w0 w1 e0 e1) where
    pub in-part : AreJudgedInPart lint.write (ended_lines_of read ++ line ∷ [])
        (before ++ take part.prefix.0 (form_of lint.write (meaning_of (lint.prefix ++ end)))) (reported_then ++ take part.reported_prefix.0 part.reported)
    in-part =
        let here = subst (λ n. IsReportedOf n (lint.prefix ++ end) (meaning_of (lint.prefix ++ end)) part.reported) number part.is_reported in
        let is_reported = reported-other _ (lint.prefix ++ end) line means shorter part.reported here in
        subst (λ m. AreJudgedInPart lint.write (ended_lines_of read ++ line ∷ [])
        (before ++ take part.prefix.0 (form_of lint.write m)) (reported_then ++ take part.reported_prefix.0 part.reported))
        (sym means)
        (part-more lint.write (ended_lines_of read) line before reported_then part.reported lint.faults part.prefix.0 part.reported_prefix.0 state.judged is_reported)

-- ---- a lint continues

moved : (read other before before_other reported reported_other : List ℕ) (lint : Lint)
    → read ≡ other → before ≡ before_other → reported ≡ reported_other → IsLintedTo read lint before reported → IsLintedTo other lint before_other reported_other
moved read other before before_other reported reported_other lint one two three state =
    subst (λ r. IsLintedTo r lint before_other reported_other) one
    (subst (λ w. IsLintedTo read lint w reported_other) two (subst (λ t. IsLintedTo read lint before t) three state))

same_lint : (read before reported : List ℕ) (old new : Lint) → new ≡ old → IsLintedTo read old before reported → IsLintedTo read new before reported
same_lint read before reported old new same state = subst (λ l. IsLintedTo read l before reported) (sym same) state

pub taken-begins : (lint : Lint) (w e : Option (List ℕ)) → lint.faults ≤ lint.lines → HasTaken [] lint lint w w e e
taken-begins lint w e counted = record {
  written = [];
  reported = [];
  appended = Appends-nil w;
  reported_appended = Appends-nil e;
  write = refl;
  few = omega arith;
  counted = counted;
  goes_on = λ read before reported state. moved read (read ++ []) before (before ++ []) reported (reported ++ []) lint
      (sym (append-nil read)) (sym (append-nil before)) (sym (append-nil reported)) state;
}

pub taken-then : (a b : List ℕ) (old mid new : Lint) (w0 w1 w2 e0 e1 e2 : Option (List ℕ))
    → HasTaken a old mid w0 w1 e0 e1 → HasTaken b mid new w1 w2 e1 e2 → HasTaken (a ++ b) old new w0 w2 e0 e2
taken-then a b old mid new w0 w1 w2 e0 e1 e2 one other = record {
  written = one.written ++ other.written;
  reported = one.reported ++ other.reported;
  appended = Appends-trans w0 w1 w2 one.written other.written one.appended other.appended;
  reported_appended = Appends-trans e0 e1 e2 one.reported other.reported one.reported_appended other.reported_appended;
  write = other.write ∙ one.write;
  few = let sum = length-append a b in let x = one.few in let y = other.few in omega arith;
  counted = other.counted;
  goes_on = λ read before reported state.
      moved ((read ++ a) ++ b) (read ++ (a ++ b)) ((before ++ one.written) ++ other.written) (before ++ (one.written ++ other.written))
      ((reported ++ one.reported) ++ other.reported) (reported ++ (one.reported ++ other.reported)) new
      (append_assoc read a b) (append_assoc before one.written other.written) (append_assoc reported one.reported other.reported)
      (other.goes_on (read ++ a) (before ++ one.written) (reported ++ one.reported) (one.goes_on read before reported state));
}

-- after a line
pub taken-line : (laws : Laws) (old : Lint) (end : List ℕ) (new : Lint) (w0 w1 e0 e1 : Option (List ℕ)) → IsWithinLine end
    → old.faults ≤ old.lines → HasEnded old end new w0 w1 e0 e1 → HasTaken (end ++ 10 ∷ []) old new w0 w1 e0 e1
taken-line laws old end new w0 w1 e0 e1 within counted ends =
    let next : Lint = record { write = old.write; prefix = []; lines = old.lines + 1; faults = old.faults + ends.faults } in
    let few : ends.faults ≤ 1 = one_at_most (meaning_of (old.prefix ++ end)) ends.faults ends.judged.count in
    record {
      written = form_of old.write (meaning_of (old.prefix ++ end));
      reported = ends.judged.reported;
      appended = ends.judged.appended;
      reported_appended = ends.judged.reported_appended;
      write = ap (λ (l : Lint). l.write) ends.new_is;
      few = let lines = ap (λ (l : Lint). l.lines) ends.new_is in let sum = length-append end (10 ∷ []) in omega arith;
      counted = let lines = ap (λ (l : Lint). l.lines) ends.new_is in let faults = ap (λ (l : Lint). l.faults) ends.new_is in omega arith;
      goes_on = λ read before reported state.
          let cut = laws.feed read end within in
          same_lint (read ++ (end ++ 10 ∷ [])) _ _ next new ends.new_is (record {
            prefix = ap kept_of (sym cut.1);
            lines = ap (λ n. n + 1) state.lines ∙ sym (ap length cut.0 ∙ length-append (ended_lines_of read) ((open_line_of read ++ end) ∷ []));
            judged = subst (λ ls. AreJudged old.write ls (before ++ form_of old.write (meaning_of (old.prefix ++ end))) (reported ++ ends.judged.reported)
                (old.faults + ends.faults)) (sym cut.0)
                (all-judged read old before reported state end ends.faults w0 w1 e0 e1 ends.judged);
          });
    }
  where
    one_at_most : (meaning : Result Event LineFault) (faults : ℕ) → faults ≡ faults_of meaning → faults ≤ 1
    one_at_most (Ok event) faults is = omega arith
    one_at_most (Err fault) faults is = omega arith

-- after bytes of the open line
pub taken-rest : (laws : Laws) (old : Lint) (rest : List ℕ) (new : Lint) (w e : Option (List ℕ)) → IsWithinLine rest
    → old.faults ≤ old.lines → new ≡ record old { prefix = kept_of (old.prefix ++ rest) } → HasTaken rest old new w w e e
taken-rest laws old rest new w e within counted is = record {
  written = [];
  reported = [];
  appended = Appends-nil w;
  reported_appended = Appends-nil e;
  write = ap (λ (l : Lint). l.write) is;
  few = let lines = ap (λ (l : Lint). l.lines) is in omega arith;
  counted = let lines = ap (λ (l : Lint). l.lines) is in let faults = ap (λ (l : Lint). l.faults) is in omega arith;
  goes_on = λ read before reported state.
      let next : Lint = record old { prefix = kept_of (old.prefix ++ rest) } in
      let on = laws.within read rest within in
      let goes : IsLintedTo (read ++ rest) next before reported = record {
        prefix = ap (λ l. kept_of (l ++ rest)) state.prefix ∙ kept-append (open_line_of read) rest ∙ ap kept_of (sym on.1);
        lines = state.lines ∙ ap length (sym on.0);
        judged = subst (λ ls. AreJudged old.write ls before reported old.faults) (sym on.0) state.judged;
      } in
      same_lint (read ++ rest) _ _ next new is
      (moved _ _ before (before ++ []) reported (reported ++ []) next refl (sym (append-nil before)) (sym (append-nil reported)) goes);
}

-- ---- a lint stops

pub stopped-then : (fault : RunFault) (a b : List ℕ) (old mid : Lint) (w0 w1 w2 e0 e1 e2 : Option (List ℕ))
    → HasTaken a old mid w0 w1 e0 e1 → HasStoppedIn fault b mid w1 w2 e1 e2 → HasStoppedIn fault (a ++ b) old w0 w2 e0 e2
stopped-then fault a b old mid w0 w1 w2 e0 e1 e2 one other = record {
  written = one.written ++ other.written;
  reported = one.reported ++ other.reported;
  appended = Appends-trans w0 w1 w2 one.written other.written one.appended other.appended;
  reported_appended = Appends-trans e0 e1 e2 one.reported other.reported one.reported_appended other.reported_appended;
  stops = λ read before reported state.
      let stop = other.stops (read ++ a) (before ++ one.written) (reported ++ one.reported) (one.goes_on read before reported state) in
      subst (λ wr. IsStoppedIn fault wr (read ++ (a ++ b)) (before ++ (one.written ++ other.written)) (reported ++ (one.reported ++ other.reported))) one.write
      (subst (λ r. IsStoppedIn fault mid.write r (before ++ (one.written ++ other.written)) (reported ++ (one.reported ++ other.reported))) (append_assoc read a b)
      (subst (λ wt. IsStoppedIn fault mid.write ((read ++ a) ++ b) wt (reported ++ (one.reported ++ other.reported))) (append_assoc before one.written other.written)
      (subst (λ t. IsStoppedIn fault mid.write ((read ++ a) ++ b) ((before ++ one.written) ++ other.written) t) (append_assoc reported one.reported other.reported) stop)));
}

judged-nil : (write : Bool) (lines : List (List ℕ)) (written reported : List ℕ) (faults : ℕ) → AreJudged write lines written reported faults
    → AreJudged write lines (written ++ []) (reported ++ []) faults
judged-nil write lines written reported faults judged =
    subst (λ w. AreJudged write lines w (reported ++ []) faults) (sym (append-nil written))
    (subst (λ t. AreJudged write lines written t faults) (sym (append-nil reported)) judged)

-- before a line, or before bytes of one
pub stopped-memory : (laws : Laws) (piece : List ℕ) (old : Lint) (w0 w1 e0 e1 : Option (List ℕ))
    → HasJudgedNothing w0 w1 e0 e1 → HasStoppedIn Memory piece old w0 w1 e0 e1
stopped-memory laws piece old w0 w1 e0 e1 none = record {
  written = [];
  reported = [];
  appended = none.nothing;
  reported_appended = none.nothing_reported;
  stops = λ read before reported state.
      let others = laws.stay read piece in record {
        lines = ended_lines_of read;
        left = others.0;
        first = others.1;
        stop = tt;
        linted = (old.faults, judged-nil old.write (ended_lines_of read) before reported old.faults state.judged);
      };
}

-- at a line
stopped-write : (laws : Laws) (old : Lint) (end more : List ℕ) (w0 w1 e0 e1 : Option (List ℕ)) → IsWithinLine end
    → HasJudgedInPart old.write (old.lines + 1) (old.prefix ++ end) w0 w1 e0 e1
    → HasStoppedIn Write ((end ++ 10 ∷ []) ++ more) old w0 w1 e0 e1
stopped-write laws old end more w0 w1 e0 e1 within part =
    let form = form_of old.write (meaning_of (old.prefix ++ end)) in record {
      written = take part.prefix.0 form;
      reported = take part.reported_prefix.0 part.reported;
      appended = part.prefix.1;
      reported_appended = part.reported_prefix.1;
      stops = λ read before reported state.
          let others = laws.stay (read ++ (end ++ 10 ∷ [])) more in record {
            lines = ended_lines_of read ++ (open_line_of read ++ end) ∷ [];
            left = others.0;
            first =
                ap ended_lines_of (sym (append_assoc read (end ++ 10 ∷ []) more)) ∙ others.1
                ∙ ap (λ ls. ls ++ others.0) (laws.feed read end within).0;
            stop = tt;
            linted = in-part read old before reported state end w0 w1 e0 e1 part;
          };
    }

pub stopped-line : (laws : Laws) (fault : RunFault) (old : Lint) (end more : List ℕ) (w0 w1 e0 e1 : Option (List ℕ)) → IsWithinLine end
    → HasStoppedAt fault old.write (old.lines + 1) (old.prefix ++ end) w0 w1 e0 e1
    → HasStoppedIn fault ((end ++ 10 ∷ []) ++ more) old w0 w1 e0 e1
stopped-line laws Read old end more w0 w1 e0 e1 within stop = absurd stop
stopped-line laws Write old end more w0 w1 e0 e1 within stop = stopped-write laws old end more w0 w1 e0 e1 within stop
stopped-line laws Memory old end more w0 w1 e0 e1 within stop = stopped-memory laws _ old w0 w1 e0 e1 stop

-- ---- a chunk of which a prefix was taken

pub record TookPrefix (old now : Lint) (piece rest : List ℕ) (w0 w e0 e : Option (List ℕ)) : Type 0 where
  pub passed : List ℕ
  pub whole : piece ≡ passed ++ rest
  pub taken : HasTaken passed old now w0 w e0 e

pub prefix-begins : (old : Lint) (piece : List ℕ) (w e : Option (List ℕ)) → old.faults ≤ old.lines → TookPrefix old old piece piece w w e e
prefix-begins old piece w e counted = record { passed = []; whole = refl; taken = taken-begins old w e counted }

cut_at : (rest : List ℕ) (at : ℕ) → at < length rest → get_or rest at 0 ≡ 10
    → rest ≡ (take at rest ++ 10 ∷ []) ++ drop (at + 1) rest
cut_at rest at inside feed =
    sym (take-append-drop at rest)
    ∙ ap (λ l. take at rest ++ l) (drop-cons rest at 0 inside ∙ ap (λ b. b ∷ drop (suc at) rest) feed
    ∙ ap (λ n. 10 ∷ drop n rest) (sym (add-one at)))
    ∙ sym (append_assoc (take at rest) (10 ∷ []) (drop (at + 1) rest))

module _ (laws : Laws) (old mid : Lint) (piece rest : List ℕ) (w0 w w1 e0 e e1 : Option (List ℕ)) (took : TookPrefix old mid piece rest w0 w e0 e) where
  pub prefix-line : (at : ℕ) (new : Lint) → at < length rest → get_or rest at 0 ≡ 10 → IsWithinLine (take at rest)
      → HasEnded mid (take at rest) new w w1 e e1 → TookPrefix old new piece (drop (at + 1) rest) w0 w1 e0 e1
  prefix-line at new inside feed within ends = record {
    passed = took.passed ++ (take at rest ++ 10 ∷ []);
    whole =
        took.whole ∙ ap (λ l. took.passed ++ l) (cut_at rest at inside feed)
        ∙ sym (append_assoc took.passed (take at rest ++ 10 ∷ []) (drop (at + 1) rest));
    taken = taken-then took.passed (take at rest ++ 10 ∷ []) old mid new w0 w w1 e0 e e1 took.taken
        (taken-line laws mid (take at rest) new w w1 e e1 within took.taken.counted ends);
  }

  pub prefix-stopped : (fault : RunFault) (at : ℕ) → at < length rest → get_or rest at 0 ≡ 10 → IsWithinLine (take at rest)
      → HasStoppedAt fault mid.write (mid.lines + 1) (mid.prefix ++ take at rest) w w1 e e1 → HasStoppedIn fault piece old w0 w1 e0 e1
  prefix-stopped fault at inside feed within stop =
      subst (λ p. HasStoppedIn fault p old w0 w1 e0 e1)
      (sym (took.whole ∙ ap (λ l. took.passed ++ l) (cut_at rest at inside feed)))
      (stopped-then fault took.passed _ old mid w0 w w1 e0 e e1 took.taken
      (stopped-line laws fault mid (take at rest) (drop (at + 1) rest) w w1 e e1 within stop))

  pub prefix-memory : HasJudgedNothing w w1 e e1 → HasStoppedIn Memory piece old w0 w1 e0 e1
  prefix-memory none =
      subst (λ p. HasStoppedIn Memory p old w0 w1 e0 e1) (sym took.whole)
      (stopped-then Memory took.passed rest old mid w0 w w1 e0 e e1 took.taken (stopped-memory laws rest mid w w1 e e1 none))

  pub prefix-rest : (new : Lint) → IsWithinLine rest → new ≡ record mid { prefix = kept_of (mid.prefix ++ rest) } → HasTaken piece old new w0 w e0 e
  prefix-rest new within is =
      subst (λ p. HasTaken p old new w0 w e0 e) (sym took.whole)
      (taken-then took.passed rest old mid new w0 w w e0 e e took.taken (taken-rest laws mid rest new w e within took.taken.counted is))

-- ---- judging the stored bytes of a line is judging the line

pub ended-kept : (old : Lint) (end : List ℕ) (new : Lint) (faults : ℕ) (w0 w1 e0 e1 : Option (List ℕ))
    → HasJudged old.write (old.lines + 1) (kept_of (old.prefix ++ end)) faults w0 w1 e0 e1
    → new ≡ record { write = old.write; prefix = []; lines = old.lines + 1; faults = old.faults + faults }
    → HasEnded old end new w0 w1 e0 e1
ended-kept old end new faults w0 w1 e0 e1 judged is = record {
  faults = faults;
  judged = judged-other old.write _ faults (kept_of (old.prefix ++ end)) (old.prefix ++ end) w0 w1 e0 e1
      (meaning-kept (old.prefix ++ end)) (length-kept (old.prefix ++ end)) judged;
  new_is = is;
}

pub stopped-kept : (fault : RunFault) (write : Bool) (number : ℕ) (line : List ℕ) (w0 w1 e0 e1 : Option (List ℕ))
    → HasStoppedAt fault write number (kept_of line) w0 w1 e0 e1 → HasStoppedAt fault write number line w0 w1 e0 e1
stopped-kept Read write place whole w0 w1 e0 e1 stop = absurd stop
stopped-kept Write write place whole w0 w1 e0 e1 stop =
    part-other write place (kept_of whole) whole w0 w1 e0 e1 (meaning-kept whole) (length-kept whole) stop
stopped-kept Memory write place whole w0 w1 e0 e1 stop = stop

pub judged-nothing : (w e : Option (List ℕ)) → HasJudgedNothing w w e e
judged-nothing w e = record { nothing = Appends-nil w; nothing_reported = Appends-nil e }

-- ---- the input ends

pub closed-none : (lint : Lint) → length lint.prefix ≡ 0 → (w e : Option (List ℕ)) → HasClosed lint lint w w e e
closed-none lint nothing w e = record { none = λ _. (refl, judged-nothing w e); some = λ anything. absurd (omega arith) }

pub closed-some : (old new : Lint) → 0 < length old.prefix → (w0 w1 e0 e1 : Option (List ℕ)) (result : Result (Unit {0}) RunFault)
    → OnOk result (HasEnded old [] new w0 w1 e0 e1) → OnOk result (HasClosed old new w0 w1 e0 e1)
closed-some old new anything w0 w1 e0 e1 (Ok done) ends = record { none = λ nothing. absurd (omega arith); some = λ _. ends }
closed-some old new anything w0 w1 e0 e1 (Err fault) ends = tt

pub close-stopped : (old : Lint) → 0 < length old.prefix → (w0 w1 e0 e1 : Option (List ℕ)) (result : Result (Unit {0}) RunFault)
    → IfErr result (λ fault. HasStoppedAt fault old.write (old.lines + 1) (old.prefix ++ []) w0 w1 e0 e1)
    → IfErr result (λ fault. (0 < length old.prefix) × HasStoppedAt fault old.write (old.lines + 1) old.prefix w0 w1 e0 e1)
close-stopped old anything w0 w1 e0 e1 (Ok done) stop = tt
close-stopped old anything w0 w1 e0 e1 (Err fault) stop =
    (anything, subst (λ l. HasStoppedAt fault old.write (old.lines + 1) l w0 w1 e0 e1) (append-nil old.prefix) stop)

-- ---- neither of two writers has failed

pub or_false : (a b : Bool) → (a || b) ≡ false → (a ≡ false) × (b ≡ false)
or_false false false none = (refl, refl)
or_false false true none = absurd (false≢true (sym none))
or_false true b none = absurd (false≢true (sym none))

pub or_none : (a b : Bool) → a ≡ false → b ≡ false → (a || b) ≡ false
or_none a b one other = rw (one, other) refl
