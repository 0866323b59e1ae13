-- How answers begin.
use Rattle.std.proofs.Common.{◌≡◌, ℕ, Bool, true, false, if◌then◌else◌, List, length, Option, Some, None, refl, ap, ◌∙◌, codes}
use Rattle.std.specs.Prelude.{nat_lt}
use Rattle.json.specs.Print.{escape_byte}
use Rattle.serde_json.specs.Data.{Data, string, object, Members, member}
use Rattle.drf_core.specs.Machine.{Machine}
use Rattle.drf_lines.specs.Meaning.{longest_line}
use Rattle.drf_lines.specs.ReplyLine.{line_of}
use Rattle.drf_role.specs.Text.{Text}
use Rattle.drf_rows.specs.declared.rows.Rows.{Rows}
use Rattle.drf_ask.specs.Answer.{reported, not_reported, is_known, explained_reported, answer_of_kind, answer_of_words, answer_value, answer_line}
use Rattle.drf_ask.specs.Asked.{begins_as_answer}
use Rattle.drf_ask.specs.Question.{Question, question_of, kind_of, has_right_words, timestamp_of}
use Rattle.drf_ask.specs.declared.question.Kind.{Kind}
use Rattle.drf_ask.specs.declared.question.Kind.TheVariants.{Report, Explain, Offers, Tasks, State, Tables}

-- an object whose first key is `asked`
record IsAnswer (value : Data) : Type 0 where
  pub word : Text
  pub others : Members
  pub is : value ≡ object (member (codes "asked") (string word) others)

is_reported : (word : Text) (value : Data) → IsAnswer (reported word value)
is_reported word value = record { word = word; others = _; is = refl }

is_not_reported : (word fault : Text) → IsAnswer (not_reported word fault)
is_not_reported word fault = record { word = word; others = _; is = refl }

either : (b : Bool) (x y : Data) → IsAnswer x → IsAnswer y → IsAnswer (if b then x else y)
either true x y there here = there
either false x y there here = here

is_explained : (rows : Rows) (at : Option ℕ) → IsAnswer (explained_reported rows at)
is_explained rows None = is_not_reported _ _
is_explained rows (Some at) = is_reported _ _

of_kind : (machine : Machine) (kind : Kind) (argument : Text) → IsAnswer (answer_of_kind machine kind argument)
of_kind machine Report argument = is_reported _ _
of_kind machine Explain argument = is_explained machine.rows (timestamp_of argument)
of_kind machine Offers argument = either (is_known machine.rows argument) _ _ (is_reported _ _) (is_not_reported _ _)
of_kind machine Tasks argument = either (is_known machine.rows argument) _ _ (is_reported _ _) (is_not_reported _ _)
of_kind machine State argument = is_reported _ _
of_kind machine Tables argument = is_reported _ _

of_words : (machine : Machine) (question : Question) (kind : Option Kind) → IsAnswer (answer_of_words machine question kind)
of_words machine question None = is_not_reported _ _
of_words machine question (Some kind) =
    either (has_right_words kind question) _ _ (of_kind machine kind question.argument) (is_not_reported _ _)

of_line : (machine : Machine) (line : List ℕ) → IsAnswer (answer_value machine line)
unfolding answer_value
of_line machine line =
    either (nat_lt longest_line (length line)) _ _ (is_not_reported _ _)
    (of_words machine (question_of line) (kind_of (question_of line).word))

begins : (word : Text) (others : Members) → begins_as_answer false (line_of (object (member (codes "asked") (string word) others))) ≡ true
unfolding escape_byte
begins word others = refl

pub answer_begins : (echo : Bool) (machine : Machine) (line : List ℕ) → begins_as_answer echo (answer_line echo machine line) ≡ true
answer_begins true machine line = refl
answer_begins false machine line =
    let answer = of_line machine line in
    ap (λ value. begins_as_answer false (line_of value)) answer.is ∙ begins answer.word answer.others
