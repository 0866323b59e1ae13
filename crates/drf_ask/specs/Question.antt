-- Questions, which are lines that begin with `?`, and their words.
use Rattle.std.specs.Prelude.{ℕ, ◌+◌, ◌*◌, ◌-◌, ◌==◌, Bool, true, false, ◌&&◌, ◌||◌, List, [], ◌∷◌, length, drop, Option, Some, None, nat_le, codes, if◌then◌else◌}
use Rattle.std.specs.List.{list_all, before_first, position_or_len, prefix_len}
use Rattle.std.specs.Char.{is_ascii_digit}
use Rattle.drf_role.specs.Text.{Text, same_text}
use Rattle.drf_rows.specs.declared.limits.TheConstants.{LATEST_TIMESTAMP}
use Rattle.drf_ask.specs.declared.question.Fault.{Fault}
use Rattle.drf_ask.specs.declared.question.Fault.TheVariants.{UnknownQuestion, UnknownFramework, BadArgument, LineTooLong}
use Rattle.drf_ask.specs.declared.question.Kind.{Kind}
use Rattle.drf_ask.specs.declared.question.Kind.TheVariants.{Report, Explain, Offers, Tasks, State, Tables}

-- the line is a question
abbrev pub is_question : List ℕ → Bool
is_question [] = false
is_question (b ∷ line) = b == 63

-- ---- words, which are separated by blanks

-- a space, a tab or a carriage return
abbrev pub is_blank : ℕ → Bool
is_blank b = b == 32 || (b == 9 || b == 13)

abbrev pub without_blanks : Text → Text
without_blanks text = drop (prefix_len is_blank text) text

-- the part before the first blank
abbrev pub first_word : Text → Text
first_word text = before_first is_blank text

-- the part after that word and the blanks after it
abbrev pub behind_word : Text → Text
behind_word text = without_blanks (drop (position_or_len is_blank text) text)

-- the first word after `?`, the second word, which is empty if there is none, and everything after it
pub record Question : Type 0 where
  pub word : Text
  pub argument : Text
  pub more : Text

abbrev pub words_of : Text → Question
words_of text = record {
  word = first_word text;
  argument = first_word (behind_word text);
  more = behind_word (behind_word text);
}

unfoldable pub question_of : List ℕ → Question
question_of line = words_of (without_blanks (drop 1 line))

-- ---- the kinds of questions

abbrev pub word_of : Kind → Text
word_of Report = codes "report"
word_of Explain = codes "explain"
word_of Offers = codes "offers"
word_of Tasks = codes "tasks"
word_of State = codes "state"
word_of Tables = codes "tables"

abbrev pub kind_among : List Kind → Text → Option Kind
kind_among [] word = None
kind_among (kind ∷ kinds) word = if same_text word (word_of kind) then Some kind else kind_among kinds word

-- the word with which an answer begins: `?` if the question is unknown
abbrev pub word_at : Option Kind → Text
word_at None = codes "?"
word_at (Some kind) = word_of kind

-- the name with which an error is reported
abbrev pub fault_name : Fault → Text
fault_name UnknownQuestion = codes "UnknownQuestion"
fault_name UnknownFramework = codes "UnknownFramework"
fault_name BadArgument = codes "BadArgument"
fault_name LineTooLong = codes "LineTooLong"

-- the kind of question that a word asks
abbrev pub kind_of : Text → Option Kind
kind_of word = kind_among (Report ∷ Explain ∷ Offers ∷ Tasks ∷ State ∷ Tables ∷ []) word

-- whether a question of this kind can have an argument
abbrev pub takes_argument : Kind → Bool
takes_argument Explain = true
takes_argument Offers = true
takes_argument Tasks = true
takes_argument kind = false

-- there are no more words than the kind allows
abbrev pub has_right_words : Kind → Question → Bool
has_right_words kind question =
    (length question.more == 0) && (takes_argument kind || (length question.argument == 0))

-- the number that digits represent, after an earlier number
abbrev pub number_from : ℕ → Text → ℕ
number_from number [] = number
number_from number (digit ∷ digits) = number_from (number * 10 + (digit - 48)) digits

-- the timestamp that an argument gives in digits; without one it is 0, which means the current time of the clock
abbrev pub timestamp_of : Text → Option ℕ
timestamp_of argument =
    if list_all is_ascii_digit argument && nat_le (number_from 0 argument) LATEST_TIMESTAMP
    then Some (number_from 0 argument) else None
