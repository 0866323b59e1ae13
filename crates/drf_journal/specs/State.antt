-- The state of a run between two reads, and how a byte of the input changes it.
use Rattle.std.specs.Prelude.{refl, ◌≡◌, ℕ, ◌+◌, ◌<◌, Bool, ◌==◌, List, [], ◌∷◌, ◌++◌, length, take, fold, Result, Ok, Err, ◌⊎◌, if◌then◌else◌}
use Rattle.std.specs.Coded.{Coded, code_by, coded×, coded_ℕ, coded_bool, coded_list}
use Rattle.drf_core.specs.Machine.{Machine, machine_code, after}
use Rattle.drf_rows.specs.declared.event.Event.{Event}
use Rattle.drf_lines.specs.declared.fault.LineFault.{LineFault}
use Rattle.drf_lines.specs.Meaning.{meaning_of}
use Rattle.drf_journal.specs.Lines.{is_line_feed}
use Rattle.drf_journal.specs.Output.{kept_of, echo_of, reply_line_after}

-- the allocator, whether lines are echoed, the kept bytes of the current line, the text that has not been written yet,
-- and the number of answered lines
pub record State : Type 0 where
  pub machine : Machine
  pub echo : Bool
  pub pending : List ℕ
  pub unsent : List ℕ
  pub lines : ℕ

-- an encoding by which proofs tell two of them apart
abbrev pub state_code : Coded State
state_code = code_by (Machine × (Bool × (List ℕ × (List ℕ × ℕ))))
    (coded× machine_code (coded× coded_bool (coded× (coded_list coded_ℕ) (coded× (coded_list coded_ℕ) coded_ℕ))))
    (λ s. (s.machine, (s.echo, (s.pending, (s.unsent, s.lines)))))
    (λ p. record { machine = p.0; echo = p.1.0; pending = p.1.1.0; unsent = p.1.1.1.0; lines = p.1.1.1.1 }) (λ _. refl)

-- a run of this allocator that has read nothing
abbrev pub begun : Machine → Bool → State
begun machine echo = record { machine = machine; echo = echo; pending = []; unsent = []; lines = 0 }

-- nothing is pending, unsent or counted
abbrev pub IsBegun : State → Type 0
IsBegun state = state ≡ begun state.machine state.echo

-- the allocator after a line; only an event changes it
abbrev pub machine_after : Machine → Result Event LineFault → Machine
machine_after machine (Ok event) = after machine event
machine_after machine (Err fault) = machine

-- the allocator after some lines
abbrev pub machine_after_lines : Machine → List (List ℕ) → Machine
machine_after_lines machine [] = machine
machine_after_lines machine (line ∷ lines) = machine_after_lines (machine_after machine (meaning_of line)) lines

-- the text for a line
abbrev pub answer_to : Bool → Machine → List ℕ → List ℕ
answer_to echo machine line = echo_of echo line ++ reply_line_after machine.limits machine.rows (meaning_of line)

-- the current line has ended and is answered
unfoldable pub after_line : State → State
after_line state = record {
  machine = machine_after state.machine (meaning_of state.pending);
  echo = state.echo;
  pending = [];
  unsent = state.unsent ++ answer_to state.echo state.machine state.pending;
  lines = state.lines + 1;
}

abbrev pub after_byte : State → ℕ → State
after_byte state b =
    if is_line_feed b then after_line state else record state { pending = kept_of (state.pending ++ b ∷ []) }

-- the run after a chunk of the input
unfoldable pub after_piece : State → List ℕ → State
after_piece state piece = fold after_byte state piece

-- the run at the end of the input
unfoldable pub at_end : State → State
at_end state = if length state.pending == 0 then state else after_line state

-- the allocator did not change, or has taken that line
abbrev pub HasTakenAtMost : Machine → List ℕ → Machine → Type 0
HasTakenAtMost old line new = (new ≡ old) ⊎ (new ≡ machine_after old (meaning_of line))

-- before each of the first `count` bytes of a chunk, fewer than `most` bytes wait to be written
abbrev pub WaitsBelow : ℕ → State → List ℕ → ℕ → Type 0
WaitsBelow most old piece count = (k : ℕ) → k < count → length (after_piece old (take k piece)).unsent < most

-- the lines of a chunk up to some byte were answered, and the allocator has taken these lines or one more
pub record AnswersPrefixOf (old : State) (piece : List ℕ) (new : State) : Type 0 where
  pub answered_bytes : ℕ
  pub unsent : new.unsent ≡ (after_piece old (take answered_bytes piece)).unsent
  pub lines : new.lines ≡ (after_piece old (take answered_bytes piece)).lines
  pub taken_bytes : ℕ
  pub machine : new.machine ≡ (after_piece old (take taken_bytes piece)).machine
  pub ahead :
      ((after_piece old (take taken_bytes piece)).lines ≡ (after_piece old (take answered_bytes piece)).lines)
      ⊎ ((after_piece old (take taken_bytes piece)).lines ≡ (after_piece old (take answered_bytes piece)).lines + 1)
