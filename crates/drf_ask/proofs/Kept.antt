-- The kept bytes of a line have the answer of the line.
use Rattle.std.proofs.Common.{◌≡◌, ℕ, ◌+◌, ◌≤◌, ◌<◌, Bool, if◌then◌else◌, List, [], ◌∷◌, ◌++◌, length, ⊎_elim, refl, sym, ap, ◌∙◌, None, arith}
use Rattle.std.proofs.lemmas.Bool.{lt-ltb, cases_lt}
use Rattle.std.proofs.lemmas.List.{take_all, length-take-le}
use Rattle.drf_core.specs.Machine.{Machine}
use Rattle.drf_lines.specs.Meaning.{longest_line}
use Rattle.drf_journal.specs.JournalLaws.{LineFeedEndsLine, LineGoesOn, EndedLinesStay, KeptGoesOn, MeaningIsKept, AnswerIsKept}
use Rattle.drf_journal.specs.Output.{kept_of}
use Rattle.drf_journal.specs.State.{machine_after}
use Rattle.drf_lines.specs.ReplyLine.{line_of}
use Rattle.drf_ask.specs.Answer.{not_reported, answer_value, mark_of, answer_line}
use Rattle.drf_ask.specs.Asked.{text_for, after_asked}
use Rattle.drf_ask.specs.Asking.{count_of}
use Rattle.drf_ask.specs.Question.{is_question, word_at, fault_name}
use Rattle.drf_ask.specs.declared.question.Fault.TheVariants.{LineTooLong}

-- the statements of `line_law`
pub record Laws : Type 0 where
  pub feed : LineFeedEndsLine
  pub within : LineGoesOn
  pub stay : EndedLinesStay
  pub kept : KeptGoesOn
  pub meaning : MeaningIsKept
  pub answer : AnswerIsKept

question-kept : (line : List ℕ) → is_question (kept_of line) ≡ is_question line
question-kept [] = refl
question-kept (b ∷ line) = refl

too_long : (machine : Machine) (line : List ℕ) → longest_line < length line → answer_value machine line ≡ not_reported (word_at None) (fault_name LineTooLong)
unfolding answer_value
too_long machine line long = rw (lt-ltb longest_line (length line) long)

value-kept : (machine : Machine) (line : List ℕ) → answer_value machine (kept_of line) ≡ answer_value machine line
value-kept machine line =
    ⊎_elim
    (λ (long : longest_line < length line).
    too_long machine (kept_of line) (let kept : length (kept_of line) ≡ longest_line + 1 =
    length-take-le (longest_line + 1) line (omega arith) in omega arith)
    ∙ sym (too_long machine line long))
    (λ (short : length line ≤ longest_line). ap (answer_value machine) (take_all (longest_line + 1) line (omega arith)))
    (cases_lt longest_line (length line))

module _ (laws : Laws) where
  pub text-kept : (echo : Bool) (machine : Machine) (line : List ℕ) → text_for echo machine (kept_of line) ≡ text_for echo machine line
  text-kept echo machine line = λ i.
      if question-kept line i then answer_of i else laws.answer echo machine line i
    where
      answer_of : answer_line echo machine (kept_of line) ≡ answer_line echo machine line
      answer_of = ap (λ value. mark_of echo ++ line_of value) (value-kept machine line)

  pub after-kept : (machine : Machine) (line : List ℕ) → after_asked machine (kept_of line) ≡ after_asked machine line
  after-kept machine line = λ i. if question-kept line i then machine else machine_after machine (laws.meaning line i)

pub count-kept : (line : List ℕ) → count_of (kept_of line) ≡ count_of line
count-kept line = λ i. if question-kept line i then 0 else 1
