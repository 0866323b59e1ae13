-- The output for lines: with `write`, each event is written in its normal form; for each other line a diagnosis is written.
use Rattle.std.specs.Prelude.{◌≡◌, ℕ, ◌+◌, Bool, List, [], ◌∷◌, ◌++◌, length, Result, Ok, Err, if◌then◌else◌}
use Rattle.std.specs.List.{flat_map}
use Rattle.drf_lines.specs.declared.fault.LineFault.{LineFault}
use Rattle.drf_lines.specs.EventLine.{event_line}
use Rattle.drf_lines.specs.Meaning.{meaning_of}
use Rattle.drf_rows.specs.declared.event.Event.{Event}
use Rattle.drf_lint.specs.declared.diagnosis.Diagnosis.{Diagnosis}
use Rattle.drf_lint.specs.declared.diagnosis.NoEvent.{NoEvent}
use Rattle.drf_lint.specs.declared.diagnosis.NoEvent.TheVariants.{Fault, Memory}
use Rattle.drf_lint.specs.Diagnosed.{AreWords, IsColumn, IsReporting}

-- what is reported about a line that is not an event
pub record IsDiagnosis (line : List ℕ) (said : Diagnosis) : Type 0 where
  pub fault : meaning_of line ≡ Err said.fault
  pub place : IsColumn (length line) said.column
  pub words : AreWords said.words.items

-- the line means this event, or this diagnosis is one of it, or memory ran out
abbrev pub IsDiagnosed : List ℕ → Result Event NoEvent → Type 0
IsDiagnosed line (Ok event) = meaning_of line ≡ Ok event
IsDiagnosed line (Err (Fault said)) = IsDiagnosis line said
IsDiagnosed line (Err Memory) = Unit {0}

-- what is written for a line with this meaning
abbrev pub form_of : Bool → Result Event LineFault → List ℕ
form_of write (Ok event) = if write then event_line event ++ 10 ∷ [] else []
form_of write (Err fault) = []

-- the normal forms of the events among some lines, in order, one a line
abbrev pub forms_of : Bool → List (List ℕ) → List ℕ
forms_of write lines = flat_map (λ line. form_of write (meaning_of line)) lines

-- 1 if a line with this meaning is not an event, otherwise 0
abbrev pub faults_of : Result Event LineFault → ℕ
faults_of (Ok event) = 0
faults_of (Err fault) = 1

-- how many of some lines are not events
abbrev pub fault_count : List (List ℕ) → ℕ
fault_count [] = 0
fault_count (line ∷ lines) = faults_of (meaning_of line) + fault_count lines

-- the diagnosis of the line with this number and meaning: nothing if it is an event
abbrev pub IsReportedOf : ℕ → List ℕ → Result Event LineFault → List ℕ → Type 0
IsReportedOf number line (Ok event) text = text ≡ []
IsReportedOf number line (Err fault) text = IsReporting number line fault text

-- the text is a text with one property, followed by a text with the other
pub record IsOfTwo (One Other : List ℕ → Type 0) (text : List ℕ) : Type 0 where
  pub one : List ℕ
  pub other : List ℕ
  pub first : One one
  pub goes_on : Other other
  pub text_is : text ≡ one ++ other

-- the diagnoses of some lines, in order; the first of these lines has this number
abbrev pub AreReported : ℕ → List (List ℕ) → List ℕ → Type 0
AreReported number [] text = text ≡ []
AreReported number (line ∷ lines) text = IsOfTwo (IsReportedOf number line (meaning_of line)) (AreReported (number + 1) lines) text

-- the complete output for the first lines of an input, and how many of them are not events
pub record AreJudged (write : Bool) (lines : List (List ℕ)) (written reported : List ℕ) (faults : ℕ) : Type 0 where
  pub forms : written ≡ forms_of write lines
  pub tellings : AreReported 1 lines reported
  pub count : faults ≡ fault_count lines
