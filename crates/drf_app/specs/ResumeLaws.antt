-- Theorems about runs that resume from a saved state, for all inputs.
use Rattle.std.specs.Prelude.{◌≡◌, ℕ, ◌+◌, ◌==◌, Bool, true, false, List, [], ◌∷◌, ◌++◌, length, Ok, if◌then◌else◌, ◌↔◌}
use Rattle.drf_core.specs.Machine.{Machine}
use Rattle.drf_saved_laws.specs.SavedLaws.{IsKeptByEpoch, IsNewEpoch}
use Rattle.drf_state.specs.State.{state_in}
use Rattle.drf_journal.specs.declared.journal.Verdict.TheVariants.{Good}
use Rattle.drf_journal.specs.Audited.{agents_text, cycle_text, reported_of_lines}
use Rattle.drf_journal.specs.Journal.{event_lines, reply_lines, IsVerdict}
use Rattle.drf_journal.specs.Lines.{lines_of, open_line_of}
use Rattle.drf_journal.specs.Output.{output_of}
use Rattle.drf_journal.specs.Resumed.{IsCutBehindLine, resumed}
use Rattle.drf_app.specs.Saving.{IsSavedAfter, saved_of}

-- an allocator with the rows in a text and the capacities of another allocator
pub record IsReadFrom (old : Machine) (text : List ℕ) (new : Machine) : Type 0 where
  pub limits : new.limits ≡ old.limits
  pub rows : state_in old.limits text ≡ Ok new.rows

-- ---- two inputs, one after the other

-- an input whose last line gets a line feed if it has none, so that another input can follow
abbrev pub with_last_feed : List ℕ → List ℕ
with_last_feed input = if length (open_line_of input) == 0 then input else input ++ 10 ∷ []

-- the lines of both are those of the first and then those of the second; if the first is empty or ends with a line feed, nothing is added
abbrev pub LinesAreJoined : Type 0
LinesAreJoined = (first second : List ℕ) → lines_of (with_last_feed first ++ second) ≡ lines_of first ++ lines_of second

abbrev pub WholeLinesStay : Type 0
WholeLinesStay = (input : List ℕ) → IsCutBehindLine input → with_last_feed input ≡ input

-- ---- resuming is exact

-- a property holds for all inputs, and for any allocator that is read from what another one saved after the first input
abbrev pub Resumes : (Machine → Machine → List ℕ → List ℕ → Type 0) → Type 0
Resumes holds =
    (machine start : Machine) (first second text : List ℕ)
    → IsSavedAfter machine false first text
    → IsReadFrom machine text start
    → holds machine start first second

-- Resuming is exact: an allocator that is read from what was saved after an input writes, for every later input, exactly the end of what the
-- first one writes for both.
abbrev pub ResumeIsExact : Type 0
ResumeIsExact = Resumes (λ machine start first second.
    (echo : Bool)
    → output_of machine echo (lines_of (with_last_feed first ++ second))
    ≡ output_of machine echo (lines_of first) ++ output_of start echo (lines_of second))

-- the allocator after both inputs is the one after the second
abbrev pub ResumedIsTheSame : Type 0
ResumedIsTheSame = Resumes (λ machine start first second.
    resumed machine (lines_of (with_last_feed first ++ second)) ≡ resumed start (lines_of second))

-- its audits and explanations are the same
abbrev pub AuditIsTheSame : Type 0
AuditIsTheSame = Resumes (λ machine start first second.
    reported_of_lines agents_text machine (lines_of (with_last_feed first ++ second)) ≡ reported_of_lines agents_text start (lines_of second))

abbrev pub ExplanationIsTheSame : Type 0
ExplanationIsTheSame = Resumes (λ machine start first second.
    (at : ℕ) → reported_of_lines (cycle_text at) machine (lines_of (with_last_feed first ++ second)) ≡ reported_of_lines (cycle_text at) start (lines_of second))

-- what is saved of it, with an epoch or without, is the same bytes
abbrev pub SavedIsTheSame : Type 0
SavedIsTheSame = Resumes (λ machine start first second.
    (new_epoch : Bool) (later : List ℕ)
    → IsSavedAfter machine new_epoch (with_last_feed first ++ second) later ↔ IsSavedAfter start new_epoch second later)

-- ---- journals

-- the lines are this number of event lines, each with a reply line; the last one can lack its line feed
pub record ArePairs (pairs : ℕ) (journal : List ℕ) : Type 0 where
  pub events : length (event_lines (lines_of journal)) ≡ pairs
  pub replies : length (reply_lines (lines_of journal)) ≡ pairs

-- Take a journal in two parts, of which the first has this number of pairs. The whole is good exactly if the first part is good, and the second
-- part is good from the state that is saved after the first.
abbrev pub JournalsAreGlued : Type 0
JournalsAreGlued = Resumes (λ machine start first second.
    (pairs more : ℕ)
    → ArePairs pairs first
    → IsVerdict machine (with_last_feed first ++ second) (Good (pairs + more))
    ↔ (IsVerdict machine first (Good pairs) × IsVerdict start second (Good more)))

-- a good journal has as many reply lines as event lines, which is the number that the verdict says
abbrev pub GoodJournalsArePairs : Type 0
GoodJournalsArePairs = (machine : Machine) (journal : List ℕ) (events : ℕ) → IsVerdict machine journal (Good events) → ArePairs events journal

-- ---- epochs

-- A run that resumes from a saved state, with an epoch or without, is the run from these rows with the same capacities. After an epoch it
-- is not the run that was saved, because offers, counts and numbers have changed.
abbrev pub GoesOnFromSaved : Type 0
GoesOnFromSaved =
    (machine start : Machine) (new_epoch : Bool) (first text : List ℕ)
    → IsSavedAfter machine new_epoch first text
    → IsReadFrom machine text start
    → start ≡ record { limits = machine.limits; rows = saved_of new_epoch (resumed machine (lines_of first)).rows }

-- an epoch keeps everything else
abbrev pub EpochKeepsWhatStands : Type 0
EpochKeepsWhatStands =
    (machine start : Machine) (first text : List ℕ)
    → IsSavedAfter machine true first text
    → IsReadFrom machine text start
    → IsKeptByEpoch (resumed machine (lines_of first)).rows start.rows × IsNewEpoch start.rows
