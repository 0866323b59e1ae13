-- The state of a run with questions between two reads.
use Rattle.std.specs.Prelude.{refl, ◌≡◌, ℕ, ◌+◌, Bool, List, [], ◌++◌, length, take, Option, if◌then◌else◌}
use Rattle.std.specs.Coded.{Coded, code_by, coded×, coded_ℕ, coded_bool, coded_list}
use Rattle.std.specs.Io.{StartsWith}
use Rattle.std.specs.Io.KnownBytes.{Appends}
use Rattle.drf_core.specs.Machine.{Machine, machine_code}
use Rattle.drf_journal.specs.declared.fault.RunFault.{RunFault}
use Rattle.drf_journal.specs.declared.fault.RunFault.TheVariants.{Read, Write, Memory}
use Rattle.drf_journal.specs.Device.{AppendsPrefixOf}
use Rattle.drf_journal.specs.Lines.{ended_lines_of, open_line_of, lines_of}
use Rattle.drf_journal.specs.Output.{kept_of}
use Rattle.drf_ask.specs.Asked.{after_asked, after_all_asked, asked_of, event_lines_of}
use Rattle.drf_ask.specs.Question.{is_question}

-- the allocator, whether lines are echoed, the kept bytes of the current line, and the number of answered event lines
pub record Asking : Type 0 where
  pub machine : Machine
  pub echo : Bool
  pub pending : List ℕ
  pub events : ℕ

-- an encoding by which proofs tell two of them apart
abbrev pub asking_code : Coded Asking
asking_code = code_by (Machine × (Bool × (List ℕ × ℕ)))
    (coded× machine_code (coded× coded_bool (coded× (coded_list coded_ℕ) coded_ℕ)))
    (λ a. (a.machine, (a.echo, (a.pending, a.events))))
    (λ p. record { machine = p.0; echo = p.1.0; pending = p.1.1.0; events = p.1.1.1 }) (λ _. refl)

-- a run of an allocator that has read nothing
abbrev pub not_asked : Machine → Bool → Asking
not_asked machine echo = record { machine = machine; echo = echo; pending = []; events = 0 }

-- the number of event lines that a line counts for
abbrev pub count_of : List ℕ → ℕ
count_of line = if is_question line then 0 else 1

-- the current line has ended and is answered
abbrev pub after_line : Asking → List ℕ → Asking
after_line asking line = record {
  machine = after_asked asking.machine line;
  echo = asking.echo;
  pending = [];
  events = asking.events + count_of line;
}

-- All lines that had ended in the bytes read have been answered and written.
pub record IsAskedTo (start : Machine) (echo : Bool) (read : List ℕ) (first now : Option (List ℕ)) (asking : Asking) : Type 0 where
  pub written : Appends first now (asked_of start echo (ended_lines_of read))
  pub machine : asking.machine ≡ after_all_asked start (ended_lines_of read)
  pub reported_too : asking.echo ≡ echo
  pub pending : asking.pending ≡ kept_of (open_line_of read)
  pub events : asking.events ≡ length (event_lines_of (ended_lines_of read))

-- a run processed the next bytes
abbrev pub HasGone : List ℕ → (old new : Asking) → (written_old written_new : Option (List ℕ)) → Type 0
HasGone piece old new written_old written_new =
    (start : Machine) (echo : Bool) (read : List ℕ) (first : Option (List ℕ))
    → IsAskedTo start echo read first written_old old → IsAskedTo start echo (read ++ piece) first written_new new

-- what was written of the text for a line: nothing if memory ran out, and a prefix if a write failed
unfoldable pub HasPart : RunFault → (written_old written_new : Option (List ℕ)) → List ℕ → Type 0
HasPart Read written_old written_new text = ⊥
HasPart Write written_old written_new text = AppendsPrefixOf written_old written_new text
HasPart Memory written_old written_new text = Appends written_old written_new []

-- What was written of the text for some lines: all of it if memory ran out, and a prefix if a write failed.
abbrev pub IsPrefixFor : RunFault → List ℕ → List ℕ → Type 0
IsPrefixFor Read text written = ⊥
IsPrefixFor Write text written = (count : ℕ) × (written ≡ take count text)
IsPrefixFor Memory text written = written ≡ text

-- A run stopped: the text for the first of all these lines was written, or a prefix of it. The text for the lines
-- before the last chunk was written as a whole.
pub record HasStoppedIn (fault : RunFault) (start : Machine) (echo : Bool) (before all : List (List ℕ)) (first now : Option (List ℕ))
    : Type 0 where
  pub answered : List (List ℕ)
  pub more : List (List ℕ)
  pub whole : all ≡ answered ++ more
  pub written : List ℕ
  pub appended : Appends first now written
  pub prefix : IsPrefixFor fault (asked_of start echo answered) written
  pub prompt : StartsWith written (asked_of start echo before)

-- a run stopped within the next bytes
abbrev pub HasStopped : RunFault → List ℕ → Asking → (written_old written_new : Option (List ℕ)) → Type 0
HasStopped fault piece old written_old written_new =
    (start : Machine) (echo : Bool) (read : List ℕ) (first : Option (List ℕ))
    → IsAskedTo start echo read first written_old old
    → HasStoppedIn fault start echo (ended_lines_of read) (ended_lines_of (read ++ piece)) first written_new

-- the lines at which a run can stop at the end of the input; if memory ran out, only lines that had ended were answered
abbrev pub lines_reached : RunFault → List ℕ → List (List ℕ)
lines_reached Read read = ended_lines_of read
lines_reached Write read = lines_of read
lines_reached Memory read = ended_lines_of read

-- all lines of the input were answered, including a last line without a line feed
pub record HasClosed (start : Machine) (echo : Bool) (read : List ℕ) (first now : Option (List ℕ)) (asking : Asking) : Type 0 where
  pub written : Appends first now (asked_of start echo (lines_of read))
  pub events : asking.events ≡ length (event_lines_of (lines_of read))

abbrev pub IsNotAsked : Asking → Type 0
IsNotAsked asking = asking ≡ not_asked asking.machine asking.echo
