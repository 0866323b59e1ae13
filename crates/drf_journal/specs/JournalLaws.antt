-- Theorems about journals: verdicts, reply lines, and inputs that are cut in two.
use Rattle.std.specs.Prelude.{◌≡◌, ℕ, ◌+◌, Bool, true, is_err, List, [], ◌∷◌, ◌++◌, length, ◌↔◌}
use Rattle.drf_core.specs.Machine.{Machine}
use Rattle.drf_lines.specs.declared.fault.LineFault.{LineFault}
use Rattle.drf_lines.specs.Meaning.{meaning_of}
use Rattle.drf_lines.specs.ReplyLine.{reply_line, fault_line}
use Rattle.drf_rows.specs.Step.{live_rows}
use Rattle.drf_rows.specs.declared.reply.Reply.{Reply}
use Rattle.drf_journal.specs.declared.journal.Verdict.{Verdict}
use Rattle.drf_journal.specs.declared.journal.Verdict.TheVariants.{Good}
use Rattle.drf_journal.specs.Audited.{rows_after_lines, agents_text, cycle_text, reported_of_lines}
use Rattle.drf_journal.specs.Journal.{event_lines, reply_lines, IsVerdict}
use Rattle.drf_journal.specs.Lines.{ended_lines_of, open_line_of, lines_of, IsWithinLine}
use Rattle.drf_journal.specs.Output.{kept_of, output_of}
use Rattle.drf_journal.specs.Resumed.{resumed, IsCutBehindLine}
use Rattle.drf_journal.specs.State.{machine_after, machine_after_lines, answer_to}

-- a journal has at most one verdict: it is not both good and bad, and it has one number of event lines or one first
-- wrong line
abbrev pub HasOneVerdict : Type 0
HasOneVerdict =
    (machine : Machine) (journal : List ℕ) (one other : Verdict) → IsVerdict machine journal one → IsVerdict machine journal other
    → one ≡ other

-- ---- reply lines

-- the line of a reply is not an event
abbrev pub RepliesAreNoEvents : Type 0
RepliesAreNoEvents =
    (reply : Reply) (line : List ℕ) → reply_line reply ≡ line ++ 10 ∷ [] → is_err (meaning_of line) ≡ true

-- the line that reports an error of a line is not an event
abbrev pub FaultsAreNoEvents : Type 0
FaultsAreNoEvents =
    (fault : LineFault) (line : List ℕ) → fault_line fault ≡ line ++ 10 ∷ [] → is_err (meaning_of line) ≡ true

-- so the rows after the lines of a correct journal are those after its event lines
abbrev pub RepliesArePassedOver : Type 0
RepliesArePassedOver =
    (machine : Machine) (journal : List ℕ) (events : ℕ)
    → IsVerdict machine journal (Good events)
    → rows_after_lines machine.limits machine.rows (lines_of journal)
    ≡ rows_after_lines machine.limits machine.rows (event_lines (lines_of journal))

-- ---- an input that is cut after a line

-- the lines of the input are those of its parts
abbrev pub LinesInTwo : Type 0
LinesInTwo = (a b : List ℕ) → IsCutBehindLine a → lines_of (a ++ b) ≡ lines_of a ++ lines_of b

-- the output is that for the first part, followed by that for the second part from the allocator after the first
abbrev pub OutputInTwo : Type 0
OutputInTwo =
    (machine : Machine) (echo : Bool) (a b : List ℕ) → IsCutBehindLine a
    → output_of machine echo (lines_of (a ++ b))
    ≡ output_of machine echo (lines_of a) ++ output_of (resumed machine (lines_of a)) echo (lines_of b)

-- the allocator at the end is the one after the second part, from the allocator after the first
abbrev pub AllocatorInTwo : Type 0
AllocatorInTwo =
    (machine : Machine) (a b : List ℕ) → IsCutBehindLine a
    → resumed machine (lines_of (a ++ b)) ≡ resumed (resumed machine (lines_of a)) (lines_of b)

-- the same for an audit
abbrev pub AuditInTwo : Type 0
AuditInTwo =
    (machine : Machine) (a b : List ℕ) → IsCutBehindLine a
    → reported_of_lines agents_text machine (lines_of (a ++ b))
    ≡ reported_of_lines agents_text (resumed machine (lines_of a)) (lines_of b)

-- the same for an explanation of the cycle at the timestamp `at`
abbrev pub ExplanationInTwo : Type 0
ExplanationInTwo =
    (machine : Machine) (at : ℕ) (a b : List ℕ) → IsCutBehindLine a
    → reported_of_lines (cycle_text at) machine (lines_of (a ++ b))
    ≡ reported_of_lines (cycle_text at) (resumed machine (lines_of a)) (lines_of b)

-- an allocator that removes expired filters line by line reaches the same state
abbrev pub StepsLeaveLiveRows : Type 0
StepsLeaveLiveRows =
    (machine : Machine) (lines : List (List ℕ)) → machine.rows ≡ live_rows machine.rows
    → machine_after_lines machine lines ≡ resumed machine lines

-- ---- a journal that is cut after a pair

-- the bytes are this number of whole pairs of an event line and a reply line
pub record AreWholePairs (pairs : ℕ) (bytes : List ℕ) : Type 0 where
  pub whole : IsCutBehindLine bytes
  pub events : length (event_lines (lines_of bytes)) ≡ pairs
  pub replies : length (reply_lines (lines_of bytes)) ≡ pairs

-- a journal is right exactly if both parts are, the second from the allocator after the events of the first
abbrev pub JournalInTwo : Type 0
JournalInTwo =
    (machine : Machine) (a b : List ℕ) (pairs more : ℕ) → AreWholePairs pairs a
    → IsVerdict machine (a ++ b) (Good (pairs + more))
    ↔ (IsVerdict machine a (Good pairs) × IsVerdict (resumed machine (event_lines (lines_of a))) b (Good more))

-- ---- lines that arrive in chunks

-- a line feed ends the current line
abbrev pub LineFeedEndsLine : Type 0
LineFeedEndsLine =
    (read end : List ℕ) → IsWithinLine end
    → (ended_lines_of (read ++ (end ++ 10 ∷ [])) ≡ ended_lines_of read ++ (open_line_of read ++ end) ∷ [])
    × (open_line_of (read ++ (end ++ 10 ∷ [])) ≡ [])

-- bytes without a line feed extend the current line
abbrev pub LineGoesOn : Type 0
LineGoesOn =
    (read more : List ℕ) → IsWithinLine more
    → (ended_lines_of (read ++ more) ≡ ended_lines_of read) × (open_line_of (read ++ more) ≡ open_line_of read ++ more)

-- lines that have ended do not change, whatever follows
abbrev pub EndedLinesStay : Type 0
EndedLinesStay =
    (read more : List ℕ) → (lines : List (List ℕ)) × (ended_lines_of (read ++ more) ≡ ended_lines_of read ++ lines)

-- keeping the bytes of a line chunk by chunk gives the same as keeping those of the whole line
abbrev pub KeptGoesOn : Type 0
KeptGoesOn = (line more : List ℕ) → kept_of (kept_of line ++ more) ≡ kept_of (line ++ more)

-- the kept bytes mean what the line means
abbrev pub MeaningIsKept : Type 0
MeaningIsKept = (line : List ℕ) → meaning_of (kept_of line) ≡ meaning_of line

-- the kept bytes have the answer of the line
abbrev pub AnswerIsKept : Type 0
AnswerIsKept = (echo : Bool) (machine : Machine) (line : List ℕ) → answer_to echo machine (kept_of line) ≡ answer_to echo machine line

-- the output for some lines is that for the first, followed by that for the others from the allocator after it
abbrev pub OutputLineByLine : Type 0
OutputLineByLine =
    (machine : Machine) (echo : Bool) (line : List ℕ) (lines : List (List ℕ))
    → output_of machine echo (line ∷ lines)
    ≡ answer_to echo machine line ++ output_of (machine_after machine (meaning_of line)) echo lines
