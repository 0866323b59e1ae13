-- The output of a run with questions: for each line of the input, in order, the text for an event line or the answer to
-- a question.
use Rattle.std.specs.Prelude.{◌≡◌, ℕ, Bool, true, false, not, All, List, [], ◌∷◌, ◌++◌, take, map, filter, codes, if◌then◌else◌}
use Rattle.std.specs.List.{flat_map}
use Rattle.drf_core.specs.Machine.{Machine}
use Rattle.drf_lines.specs.Meaning.{meaning_of}
use Rattle.drf_role.specs.Text.{same_text}
use Rattle.drf_journal.specs.Lines.{IsWithinLine}
use Rattle.drf_journal.specs.Output.{kept_of, reply_line_after, output_of}
use Rattle.drf_journal.specs.State.{machine_after, machine_after_lines, answer_to}
use Rattle.drf_ask.specs.Answer.{answer_line}
use Rattle.drf_ask.specs.Question.{is_question}

-- the text for a line: the answer to a question, or else what a run without questions writes
abbrev pub text_for : Bool → Machine → List ℕ → List ℕ
text_for echo machine line =
    if is_question line then answer_line echo machine line else answer_to echo machine line

-- the allocator after a line; a question changes nothing
abbrev pub after_asked : Machine → List ℕ → Machine
after_asked machine line = if is_question line then machine else machine_after machine (meaning_of line)

abbrev pub after_all_asked : Machine → List (List ℕ) → Machine
after_all_asked machine [] = machine
after_all_asked machine (line ∷ lines) = after_all_asked (after_asked machine line) lines

-- the text for some lines
abbrev pub asked_of : Machine → Bool → List (List ℕ) → List ℕ
asked_of machine echo [] = []
asked_of machine echo (line ∷ lines) = text_for echo machine line ++ asked_of (after_asked machine line) echo lines

-- the lines that are not questions
abbrev pub event_lines_of : List (List ℕ) → List (List ℕ)
event_lines_of lines = filter (λ line. not (is_question line)) lines

-- ---- which output lines are answers

-- a line with its line feed, and whether it is an answer
pub record Written : Type 0 where
  pub is_answer : Bool
  pub text : List ℕ

-- the event line itself, if lines are echoed, and its reply
abbrev pub event_written : Bool → Machine → List ℕ → List Written
event_written true machine line =
    record { is_answer = false; text = kept_of line ++ 10 ∷ [] }
    ∷ record { is_answer = false; text = reply_line_after machine.limits machine.rows (meaning_of line) }
    ∷ []
event_written false machine line =
    record { is_answer = false; text = reply_line_after machine.limits machine.rows (meaning_of line) } ∷ []

abbrev pub line_written : Bool → Machine → List ℕ → List Written
line_written echo machine line =
    if is_question line then record { is_answer = true; text = answer_line echo machine line } ∷ []
    else event_written echo machine line

abbrev pub written_of : Machine → Bool → List (List ℕ) → List Written
written_of machine echo [] = []
written_of machine echo (line ∷ lines) = line_written echo machine line ++ written_of (after_asked machine line) echo lines

abbrev pub text_of_all : List Written → List ℕ
text_of_all written = flat_map (λ line. line.text) written

-- the lines that are not answers
abbrev pub without_answers : List Written → List Written
without_answers written = filter (λ line. not line.is_answer) written

-- a line begins like an answer: with `?` if lines are echoed, and else with `{"asked":`
abbrev pub begins_as_answer : Bool → List ℕ → Bool
begins_as_answer true text = same_text (take 1 text) (codes "?")
begins_as_answer false text = same_text (take 9 text) (codes "{\"asked\":")

-- ---- theorems

-- these lines are the output
abbrev pub IsWrittenInLines : Type 0
IsWrittenInLines =
    (machine : Machine) (echo : Bool) (lines : List (List ℕ))
    → text_of_all (written_of machine echo lines) ≡ asked_of machine echo lines

-- the text is one line, with a line feed only at its end
abbrev pub IsLine : List ℕ → Type 0
IsLine text = (line : List ℕ) × (IsWithinLine line × (text ≡ line ++ 10 ∷ []))

-- each output line is one line if no input line contains a line feed
abbrev pub EachIsLine : Type 0
EachIsLine =
    (machine : Machine) (echo : Bool) (lines : List (List ℕ)) → All IsWithinLine lines
    → All (λ (written : Written). IsLine written.text) (written_of machine echo lines)

-- answers can be recognized by how they begin
abbrev pub AnswersAreMarked : Type 0
AnswersAreMarked =
    (machine : Machine) (echo : Bool) (lines : List (List ℕ))
    → map (λ line. begins_as_answer echo line.text) (written_of machine echo lines)
    ≡ map (λ line. line.is_answer) (written_of machine echo lines)

-- without the answers, the output is byte for byte the output for the event lines alone
abbrev pub AnswersStandBeside : Type 0
AnswersStandBeside =
    (machine : Machine) (echo : Bool) (lines : List (List ℕ))
    → text_of_all (without_answers (written_of machine echo lines)) ≡ output_of machine echo (event_lines_of lines)

-- the allocator after all lines is the one after the event lines
abbrev pub QuestionsChangeNothing : Type 0
QuestionsChangeNothing =
    (machine : Machine) (lines : List (List ℕ))
    → after_all_asked machine lines ≡ machine_after_lines machine (event_lines_of lines)
