-- The output after one more line.
use Rattle.std.proofs.Common.{◌≡◌, ℕ, ◌+◌, ◌≤◌, Bool, List, [], ◌∷◌, ◌++◌, length, take, drop, Option, Result, Ok, Err, refl, sym, ap, ◌∙◌, subst, append_assoc, append-nil, take-append-drop, arith}
use Rattle.std.specs.Io.KnownBytes.{Appends}
use Rattle.std.proofs.KnownBytes.{Appends-nil}
use Rattle.std.proofs.lemmas.Grind.{flat_map-append}
use Rattle.drf_lines.specs.Meaning.{meaning_of}
use Rattle.drf_lines.specs.declared.fault.LineFault.{LineFault}
use Rattle.drf_rows.specs.declared.event.Event.{Event}
use Rattle.drf_journal.specs.Device.{AppendsPrefixOf}
use Rattle.drf_journal.specs.declared.fault.RunFault.{RunFault}
use Rattle.drf_journal.specs.declared.fault.RunFault.TheVariants.{Read, Write, Memory}
use Rattle.drf_lint.specs.declared.diagnosis.Diagnosis.{Diagnosis}
use Rattle.drf_lint.specs.Judged.{form_of, forms_of, faults_of, fault_count, IsDiagnosis, IsReportedOf, AreReported, AreJudged}
use Rattle.drf_lint.specs.Linted.{AreJudgedInPart, IsPrefixOf, HasAllOf}
use Rattle.drf_lint.specs.Lint.{HasJudged, HasJudgedInPart, HasStoppedAt, IsStop}
use Rattle.drf_lint.specs.Diagnosed.{reported_line}

-- ---- a line, and another that means the same and is no shorter

reported-by_meaning : (number : ℕ) (line other : List ℕ) → length line ≤ length other → (meaning : Result Event LineFault) (text : List ℕ)
    → IsReportedOf number line meaning text → IsReportedOf number other meaning text
reported-by_meaning number line other short (Ok event) text reported = reported
reported-by_meaning number line other short (Err fault) text reported = record {
  column = reported.column;
  words = reported.words;
  place = record { first = reported.place.first; last = let last = reported.place.last in omega arith };
  are_words = reported.are_words;
  text_is = reported.text_is;
}

pub reported-other : (number : ℕ) (line other : List ℕ) → meaning_of line ≡ meaning_of other → length line ≤ length other
    → (text : List ℕ) → IsReportedOf number line (meaning_of line) text → IsReportedOf number other (meaning_of other) text
reported-other number line other same short text reported =
    subst (λ m. IsReportedOf number other m text) same (reported-by_meaning number line other short (meaning_of line) text reported)

pub judged-other : (write : Bool) (number faults : ℕ) (line other : List ℕ) (w0 w1 e0 e1 : Option (List ℕ))
    → meaning_of line ≡ meaning_of other → length line ≤ length other
    → HasJudged write number line faults w0 w1 e0 e1 → HasJudged write number other faults w0 w1 e0 e1
judged-other write number faults line other w0 w1 e0 e1 same short judged = record {
  reported = judged.reported;
  is_reported = reported-other number line other same short judged.reported judged.is_reported;
  count = judged.count ∙ ap faults_of same;
  appended = subst (λ m. Appends w0 w1 (form_of write m)) same judged.appended;
  reported_appended = judged.reported_appended;
}

pub part-other : (write : Bool) (number : ℕ) (line other : List ℕ) (w0 w1 e0 e1 : Option (List ℕ))
    → meaning_of line ≡ meaning_of other → length line ≤ length other
    → HasJudgedInPart write number line w0 w1 e0 e1 → HasJudgedInPart write number other w0 w1 e0 e1
part-other write number line other w0 w1 e0 e1 same short judged = record {
  reported = judged.reported;
  is_reported = reported-other number line other same short judged.reported judged.is_reported;
  prefix = subst (λ m. AppendsPrefixOf w0 w1 (form_of write m)) same judged.prefix;
  reported_prefix = judged.reported_prefix;
}

-- ---- one more line

reported-more : (number : ℕ) (lines : List (List ℕ)) (line text more : List ℕ) → AreReported number lines text
    → IsReportedOf (number + length lines) line (meaning_of line) more → AreReported number (lines ++ line ∷ []) (text ++ more)
reported-more number [] line text more reported next =
    let here : number + 0 ≡ number = omega arith in record {
      one = more;
      other = [];
      first = subst (λ n. IsReportedOf n line (meaning_of line) more) here next;
      goes_on = refl;
      text_is = ap (λ l. l ++ more) reported ∙ sym (append-nil more);
    }
reported-more number (first ∷ lines) line text more reported next =
    let place : number + length (first ∷ lines) ≡ number + 1 + length lines = omega arith in record {
      one = reported.one;
      other = reported.other ++ more;
      first = reported.first;
      goes_on = reported-more (number + 1) lines line reported.other more reported.goes_on (subst (λ n. IsReportedOf n line (meaning_of line) more) place next);
      text_is = ap (λ l. l ++ more) reported.text_is ∙ append_assoc reported.one reported.other more;
    }

forms-more : (write : Bool) (lines : List (List ℕ)) (line : List ℕ)
    → forms_of write (lines ++ line ∷ []) ≡ forms_of write lines ++ form_of write (meaning_of line)
forms-more write lines line =
    flat_map-append (λ l. form_of write (meaning_of l)) lines (line ∷ [])
    ∙ ap (λ l. forms_of write lines ++ l) (append-nil (form_of write (meaning_of line)))

count-more : (lines : List (List ℕ)) (line : List ℕ)
    → fault_count (lines ++ line ∷ []) ≡ fault_count lines + faults_of (meaning_of line)
count-more [] line = omega arith
count-more (first ∷ lines) line = let rest = count-more lines line in omega arith

pub judged-more : (write : Bool) (lines : List (List ℕ)) (line written reported more : List ℕ) (faults next : ℕ)
    → AreJudged write lines written reported faults
    → IsReportedOf (length lines + 1) line (meaning_of line) more → next ≡ faults_of (meaning_of line)
    → AreJudged write (lines ++ line ∷ []) (written ++ form_of write (meaning_of line)) (reported ++ more) (faults + next)
judged-more write lines line written reported more faults next judged is_reported count =
    let place : length lines + 1 ≡ 1 + length lines = omega arith in record {
      forms = ap (λ l. l ++ form_of write (meaning_of line)) judged.forms ∙ sym (forms-more write lines line);
      tellings = reported-more 1 lines line reported more judged.tellings (subst (λ n. IsReportedOf n line (meaning_of line) more) place is_reported);
      count = let sum = count-more lines line in let before = judged.count in omega arith;
    }

-- prefixes of the output for the open line were written, after the complete output for the lines before it
pub part-more : (write : Bool) (lines : List (List ℕ)) (line written reported more : List ℕ) (faults : ℕ) (wrote tells : ℕ)
    → AreJudged write lines written reported faults
    → IsReportedOf (length lines + 1) line (meaning_of line) more
    → AreJudgedInPart write (lines ++ line ∷ []) (written ++ take wrote (form_of write (meaning_of line))) (reported ++ take tells more)
part-more write lines line written reported more faults wrote tells judged is_reported =
    let form = form_of write (meaning_of line) in record {
      forms = written ++ form;
      tellings = reported ++ more;
      faults = faults + faults_of (meaning_of line);
      judged = judged-more write lines line written reported more faults (faults_of (meaning_of line)) judged is_reported refl;
      written_prefix = (drop wrote form, ap (λ l. written ++ l) (sym (take-append-drop wrote form)) ∙ sym (append_assoc written (take wrote form) (drop wrote form)));
      reported_prefix = (drop tells more, ap (λ l. reported ++ l) (sym (take-append-drop tells more)) ∙ sym (append_assoc reported (take tells more) (drop tells more)));
    }

-- ---- the output for the first of some lines is a prefix

prefix-behind : (a b c : List ℕ) → IsPrefixOf a b → IsPrefixOf b c → IsPrefixOf a c
prefix-behind a b c one other = (one.0 ++ other.0, other.1 ∙ ap (λ l. l ++ other.0) one.1 ∙ append_assoc a one.0 other.0)

reported-first : (number : ℕ) (prefix more : List (List ℕ)) (text : List ℕ) → AreReported number (prefix ++ more) text
    → (tellings : List ℕ) × (AreReported number prefix tellings × IsPrefixOf tellings text)
reported-first number [] more text reported = ([], (refl, (text, refl)))
reported-first number (line ∷ prefix) more text reported =
    let rest = reported-first (number + 1) prefix more reported.other reported.goes_on in (
      reported.one ++ rest.0,
      (
        record { one = reported.one; other = rest.0; first = reported.first; goes_on = rest.1.0; text_is = refl },
        (rest.1.1.0, reported.text_is ∙ ap (λ l. reported.one ++ l) rest.1.1.1 ∙ sym (append_assoc reported.one rest.0 rest.1.1.0)),
      ),
    )

pub all-of-first : (write : Bool) (prefix more : List (List ℕ)) (written reported written_then reported_then : List ℕ) (faults : ℕ)
    → AreJudged write (prefix ++ more) written reported faults → IsPrefixOf written written_then → IsPrefixOf reported reported_then
    → HasAllOf write prefix written_then reported_then
all-of-first write prefix more written reported written_then reported_then faults judged grown reported_grown =
    let tells = reported-first 1 prefix more reported judged.tellings in
    let forms = flat_map-append (λ l. form_of write (meaning_of l)) prefix more in
    record {
      forms = forms_of write prefix;
      tellings = tells.0;
      faults = fault_count prefix;
      judged = record { forms = refl; tellings = tells.1.0; count = refl };
      forms_first = prefix-behind (forms_of write prefix) written written_then (forms_of write more, judged.forms ∙ forms) grown;
      tellings_first = prefix-behind tells.0 reported reported_then tells.1.1 reported_grown;
    }

-- ---- the effect of a line

module _ (write : Bool) (number : ℕ) (line : List ℕ) where
  module _ (event : Event) (means : meaning_of line ≡ Ok event) where
    nothing_reported : IsReportedOf number line (meaning_of line) []
    nothing_reported = subst (λ m. IsReportedOf number line m []) (sym means) refl

    pub stopped-event : (fault : RunFault) (w0 w1 e : Option (List ℕ)) → IsStop fault → AppendsPrefixOf w0 w1 (form_of write (Ok event))
        → (fault ≡ Memory → Appends w0 w1 []) → HasStoppedAt fault write number line w0 w1 e e
    stopped-event Read w0 w1 e stop prefix nothing = absurd stop
    stopped-event Write w0 w1 e stop prefix nothing = record {
      reported = [];
      is_reported = nothing_reported;
      prefix = subst (λ m. AppendsPrefixOf w0 w1 (form_of write m)) (sym means) prefix;
      reported_prefix = (0, Appends-nil e);
    }
    stopped-event Memory w0 w1 e stop prefix nothing = record { nothing = nothing refl; nothing_reported = Appends-nil e }

  module _ (said : Diagnosis) (is : IsDiagnosis line said) where
    tells : IsReportedOf number line (meaning_of line) (reported_line number said.fault said.column said.words.items)
    tells = subst (λ m. IsReportedOf number line m (reported_line number said.fault said.column said.words.items)) (sym is.fault) (record {
      column = said.column;
      words = said.words.items;
      place = is.place;
      are_words = is.words;
      text_is = refl;
    })

    no_form : form_of write (meaning_of line) ≡ []
    no_form = ap (form_of write) is.fault

    pub stopped-fault : (fault : RunFault) (w e0 e1 : Option (List ℕ)) → IsStop fault
        → AppendsPrefixOf e0 e1 (reported_line number said.fault said.column said.words.items)
        → (fault ≡ Memory → Appends e0 e1 []) → HasStoppedAt fault write number line w w e0 e1
    stopped-fault Read w e0 e1 stop prefix nothing = absurd stop
    stopped-fault Write w e0 e1 stop prefix nothing = record {
      reported = reported_line number said.fault said.column said.words.items;
      is_reported = tells;
      prefix = subst (λ f. AppendsPrefixOf w w f) (sym no_form) (0, Appends-nil w);
      reported_prefix = prefix;
    }
    stopped-fault Memory w e0 e1 stop prefix nothing = record { nothing = Appends-nil w; nothing_reported = nothing refl }
