-- Runs that are cut in two: the allocator after the first part, from which the second part resumes.
use Rattle.std.specs.Prelude.{◌≡◌, ℕ, List, [], ◌∷◌, ◌++◌, Option, Result, ◌⊎◌, IfOk}
use Rattle.std.specs.Io.KnownBytes.{Consumes, IsAtEnd}
use Rattle.drf_core.specs.Machine.{Machine, Engine, live}
use Rattle.drf_rows.specs.Step.{live_rows}
use Rattle.drf_journal.specs.declared.fault.RunFault.{RunFault}
use Rattle.drf_journal.specs.Audited.{rows_after_lines}
use Rattle.drf_journal.specs.Lines.{lines_of}

-- the allocator after some lines, as a saved state has it: without expired filters
abbrev pub resumed : Machine → List (List ℕ) → Machine
resumed machine lines =
    record { limits = machine.limits; rows = live_rows (rows_after_lines machine.limits machine.rows lines) }

-- bytes that are cut after a line: there are none, or the last is a line feed
abbrev pub IsCutBehindLine : List ℕ → Type 0
IsCutBehindLine bytes = (bytes ≡ []) ⊎ ((prefix : List ℕ) × (bytes ≡ prefix ++ 10 ∷ []))

-- all lines of a reader were taken, and the allocator after them was returned
pub record HasAdvanced (old : Machine) (unread_before unread_after : Option (List ℕ)) (result : Result Engine RunFault) : Type 0 where
  pub read : List ℕ
  pub consumed : Consumes unread_before unread_after read
  pub machine : IfOk result (λ core. live core ≡ resumed old (lines_of read))
  pub whole : IfOk result (λ core. IsAtEnd unread_after)
