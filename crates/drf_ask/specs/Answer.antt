-- The answers to questions: one line of compact JSON with its keys in byte order (RFC 8259), computed from the current
-- rows.
use Rattle.std.specs.Prelude.{ℕ, ◌==◌, Bool, ◌||◌, List, [], ◌∷◌, ◌++◌, length, map, filter, Option, Some, None, nat_lt, codes, if◌then◌else◌}
use Rattle.json.specs.Print.{quoted}
use Rattle.serde_json.specs.Data.{Data, number, unsigned, string, array, object, member, no_members}
use Rattle.serde_json.specs.View.{items_of}
use Rattle.drf_role.specs.Text.{Text, same_text}
use Rattle.drf_bundle.specs.Quantities.{without_zeros}
use Rattle.drf_core.specs.Machine.{Machine}
use Rattle.drf_explain.specs.Explained.{explained}
use Rattle.drf_explain.specs.ExplainedText.{finding_value}
use Rattle.drf_lines.specs.HeldRows.{offer_row_value, task_row_value}
use Rattle.drf_lines.specs.Meaning.{longest_line}
use Rattle.drf_lines.specs.ReplyLine.{line_of}
use Rattle.drf_lines.specs.ReportLine.{report_value}
use Rattle.drf_rows.specs.Held.{clients_of, cluster_total}
use Rattle.drf_rows.specs.LimitNumbers.{LimitNumbers}
use Rattle.drf_rows.specs.Members.{has_framework}
use Rattle.drf_rows.specs.Report.{report_of}
use Rattle.drf_rows.specs.declared.rows.OfferRow.{OfferRow}
use Rattle.drf_rows.specs.declared.rows.Rows.{Rows}
use Rattle.drf_rows.specs.declared.rows.TaskRow.{TaskRow}
use Rattle.drf_state.specs.State.{state_text}
use Rattle.drf_ask.specs.Question.{Question, question_of, kind_of, word_of, word_at, fault_name, has_right_words, timestamp_of}
use Rattle.drf_ask.specs.declared.question.Fault.TheVariants.{UnknownQuestion, UnknownFramework, BadArgument, LineTooLong}
use Rattle.drf_ask.specs.declared.question.Kind.{Kind}
use Rattle.drf_ask.specs.declared.question.Kind.TheVariants.{Report, Explain, Offers, Tasks, State, Tables}

-- ---- the two forms of an answer

-- an answer
abbrev pub reported : Text → Data → Data
reported word value = object (member (codes "asked") (string word) (member word value no_members))

-- the beginning of an answer, up to its value
abbrev pub opening : Text → List ℕ
opening word = 123 ∷ (quoted (codes "asked") ++ 58 ∷ (quoted word ++ 44 ∷ (quoted word ++ 58 ∷ [])))

-- the object that reports an error
abbrev pub not_reported : Text → Text → Data
not_reported word fault =
    object (member (codes "asked") (string word) (member (codes "fault") (string fault) no_members))

-- ---- offers and tasks

abbrev pub list_value : {A : Type 0} → (A → Data) → List A → Data
list_value value items = array (items_of (map value items))

-- the row is of the framework, or none is named
abbrev pub is_listed : {A : Type 0} → (Text → A → Bool) → Text → A → Bool
is_listed is_of framework row = (length framework == 0) || is_of framework row

-- the rows of the framework, or all if none is named
abbrev pub listed : {A : Type 0} → (Text → A → Bool) → Text → List A → List A
listed is_of framework rows = filter (is_listed is_of framework) rows

abbrev pub is_offer_of : Text → OfferRow → Bool
is_offer_of framework offer = same_text offer.framework framework

abbrev pub is_task_of : Text → TaskRow → Bool
is_task_of framework task = same_text task.framework framework

-- the framework is registered, or none is named
abbrev pub is_known : Rows → Text → Bool
is_known rows framework = (length framework == 0) || has_framework rows framework

abbrev pub offers_reported : Rows → Text → Data
offers_reported rows framework = reported (word_of Offers) (list_value offer_row_value (listed is_offer_of framework rows.offers))

abbrev pub tasks_reported : Rows → Text → Data
tasks_reported rows framework = reported (word_of Tasks) (list_value task_row_value (listed is_task_of framework rows.tasks))

abbrev pub if_known : Rows → Text → Text → Data → Data
if_known rows framework word answer =
    if is_known rows framework then answer else not_reported word (fault_name UnknownFramework)

-- ---- how full the tables are

-- the number of rows of a table, and its capacity
abbrev pub table_value : ℕ → ℕ → Data
table_value rows limit = object (
    member (codes "limit") (number (unsigned limit))
    (member (codes "rows") (number (unsigned rows))
    no_members))

abbrev pub tables_value : LimitNumbers → Rows → Data
tables_value limits rows = object (
    member (codes "agents") (table_value (length rows.agents) limits.agents)
    (member (codes "clients") (table_value (length (clients_of rows)) limits.clients)
    (member (codes "events") (table_value rows.events limits.events)
    (member (codes "filters") (table_value (length rows.filters) limits.filters)
    (member (codes "frameworks") (table_value (length rows.frameworks) limits.frameworks)
    (member (codes "limits") (table_value (length rows.limits) limits.limits)
    (member (codes "scalar_names") (table_value (length (without_zeros (cluster_total rows.agents))) limits.scalar_names)
    (member (codes "weights") (table_value (length rows.weights) limits.weights)
    no_members))))))))

-- ---- answers

abbrev pub explained_reported : Rows → Option ℕ → Data
explained_reported rows None = not_reported (word_of Explain) (fault_name BadArgument)
explained_reported rows (Some at) = reported (word_of Explain) (list_value finding_value (explained rows at))

-- the answer to a question of each kind; the argument is empty if there is none
abbrev pub answer_of_kind : Machine → Kind → Text → Data
answer_of_kind machine Report argument = reported (word_of Report) (report_value (report_of machine.rows))
answer_of_kind machine Explain argument = explained_reported machine.rows (timestamp_of argument)
answer_of_kind machine Offers argument = if_known machine.rows argument (word_of Offers) (offers_reported machine.rows argument)
answer_of_kind machine Tasks argument = if_known machine.rows argument (word_of Tasks) (tasks_reported machine.rows argument)
answer_of_kind machine State argument = reported (word_of State) (string (state_text machine.rows))
answer_of_kind machine Tables argument = reported (word_of Tables) (tables_value machine.limits machine.rows)

abbrev pub answer_of_words : Machine → Question → Option Kind → Data
answer_of_words machine question None = not_reported (word_at None) (fault_name UnknownQuestion)
answer_of_words machine question (Some kind) =
    if has_right_words kind question then answer_of_kind machine kind question.argument
    else not_reported (word_of kind) (fault_name BadArgument)

unfoldable pub answer_value : Machine → List ℕ → Data
answer_value machine line =
    if nat_lt longest_line (length line) then not_reported (word_at None) (fault_name LineTooLong)
    else answer_of_words machine (question_of line) (kind_of (question_of line).word)

-- the beginning of an answer: `?` if lines are echoed, because no event line begins with it
abbrev pub mark_of : Bool → List ℕ
mark_of echo = if echo then 63 ∷ [] else []

-- the line that answers a question
abbrev pub answer_line : Bool → Machine → List ℕ → List ℕ
answer_line echo machine line = mark_of echo ++ line_of (answer_value machine line)
