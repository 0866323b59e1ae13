-- Audits of the agents, and explanations of the next cycle, after the events of an input.
use Rattle.std.specs.Prelude.{◌≡◌, ℕ, ◌<◌, List, [], ◌∷◌, length, take, Option, Result, Ok, Err, OnOk}
use Rattle.std.specs.List.{flat_map}
use Rattle.std.specs.Io.KnownBytes.{Appends, Consumes, IsAtEnd}
use Rattle.drf_audit.specs.Audit.{line_of}
use Rattle.drf_audit.specs.AuditText.{audit_text}
use Rattle.drf_core.specs.Machine.{Machine}
use Rattle.drf_explain.specs.Explained.{explained}
use Rattle.drf_explain.specs.ExplainedText.{explained_text}
use Rattle.drf_lines.specs.Meaning.{meaning_of}
use Rattle.drf_rows.specs.LimitNumbers.{LimitNumbers}
use Rattle.drf_rows.specs.declared.rows.Rows.{Rows}
use Rattle.drf_journal.specs.declared.fault.RunFault.{RunFault}
use Rattle.drf_journal.specs.declared.fault.RunFault.TheVariants.{Read, Write, Memory}
use Rattle.drf_journal.specs.Lines.{lines_of}
use Rattle.drf_journal.specs.Output.{rows_after_line}
use Rattle.drf_journal.specs.State.{machine_after_lines}

-- the rows after taking the events among some lines
abbrev pub rows_after_lines : LimitNumbers → Rows → List (List ℕ) → Rows
rows_after_lines limits rows [] = rows
rows_after_lines limits rows (line ∷ lines) =
    rows_after_lines limits (rows_after_line limits rows (meaning_of line)) lines

-- ---- a text computed from the rows after an input

-- the text for the lines of an input from this allocator, where `tell` computes it from rows
unfoldable pub reported_of_lines : (Rows → List ℕ) → Machine → List (List ℕ) → List ℕ
reported_of_lines tell machine lines = tell (rows_after_lines machine.limits machine.rows lines)

-- The bytes written for the bytes read: the whole text at `Ok`, and otherwise a prefix of it.
abbrev pub IsReportedOfRows : (Rows → List ℕ) → Machine → Result (Unit {0}) RunFault → List ℕ → List ℕ → Type 0
IsReportedOfRows tell machine (Ok done) read written = written ≡ reported_of_lines tell machine (lines_of read)
IsReportedOfRows tell machine (Err Read) read written = written ≡ []
IsReportedOfRows tell machine (Err Write) read written = (count : ℕ) × (written ≡ take count (reported_of_lines tell machine (lines_of read)))
IsReportedOfRows tell machine (Err Memory) read written = (count : ℕ) × (written ≡ take count (reported_of_lines tell machine (lines_of read)))

-- bytes were read and written, and nothing was written before the end of the input was reached
pub record HasReportedOfRows (tell : Rows → List ℕ) (machine : Machine)
    (unread_before unread_after written_before written_after : Option (List ℕ))
    (result : Result (Unit {0}) RunFault) : Type 0 where
  pub read : List ℕ
  pub written : List ℕ
  pub consumed : Consumes unread_before unread_after read
  pub appended : Appends written_before written_after written
  pub reported : IsReportedOfRows tell machine result read written
  pub whole : OnOk result (IsAtEnd unread_after)
  pub late : 0 < length written → IsAtEnd unread_after

-- ---- audits and explanations

-- the audit: a line for each agent, in order of registration
abbrev pub agents_text : Rows → List ℕ
agents_text rows = flat_map (λ agent. audit_text (line_of rows agent)) rows.agents

-- the explanation of a cycle at the timestamp `at`
abbrev pub cycle_text : ℕ → Rows → List ℕ
cycle_text at rows = explained_text (explained rows at)

-- an audit read bytes from a reader and wrote bytes to a writer
abbrev pub HasAudited : Machine → (unread_before unread_after written_before written_after : Option (List ℕ))
    → Result (Unit {0}) RunFault → Type 0
HasAudited = HasReportedOfRows agents_text

-- an explanation of the cycle at the timestamp `at` did so
abbrev pub HasExplained : ℕ → Machine → (unread_before unread_after written_before written_after : Option (List ℕ))
    → Result (Unit {0}) RunFault → Type 0
HasExplained at = HasReportedOfRows (cycle_text at)

-- the allocator has taken all lines of a reader
pub record HasTakenLines (old : Machine) (unread_before unread_after : Option (List ℕ)) (new : Machine)
    (result : Result (Unit {0}) RunFault) : Type 0 where
  pub read : List ℕ
  pub consumed : Consumes unread_before unread_after read
  pub machine : OnOk result (new ≡ machine_after_lines old (lines_of read))
  pub whole : OnOk result (IsAtEnd unread_after)
