-- What a command writes to standard error, and its exit status.
use Rattle.std.specs.Prelude.{◌≡◌, ◌⊎◌, ℕ, Bool, true, false, List, [], ◌∷◌, ◌++◌, Option, Result, Ok, Err, codes, decimal}
use Rattle.std.specs.Io.KnownBytes.{Appends}
use Rattle.drf_journal.specs.Device.{AppendsPrefixOf}
use Rattle.drf_journal.specs.declared.fault.RunFault.{RunFault}
use Rattle.drf_journal.specs.declared.fault.RunFault.TheVariants.{Read, Write, Memory}
use Rattle.drf_app.specs.FileNames.{reported_name}

-- the message about an error
abbrev pub fault_line : RunFault → List ℕ
fault_line Read = codes "drf: read fault" ++ 10 ∷ []
fault_line Write = codes "drf: write fault" ++ 10 ∷ []
fault_line Memory = codes "drf: out of memory" ++ 10 ∷ []

-- the message about an argument that is not UTF-8
abbrev pub no_text_line : List ℕ
no_text_line = codes "drf: a word of the command line is not UTF-8" ++ 10 ∷ []

-- a text was written to a device: all of it, or a prefix if the device failed
abbrev pub IsReported : List ℕ → Option (List ℕ) → Option (List ℕ) → Bool → Type 0
IsReported text old new false = Appends old new text
IsReported text old new true = AppendsPrefixOf old new text

-- the exit status: 0, or 1 after an error
abbrev pub status_of : {T : Type 0} → Result T RunFault → ℕ
status_of (Ok value) = 0
status_of (Err fault) = 1

-- the message that was written: none, or that about the error
abbrev pub IsReportedOf : {T : Type 0} → Result T RunFault → Option (List ℕ) → Option (List ℕ) → Bool → Type 0
IsReportedOf (Ok value) old new failed = (new ≡ old) × (failed ≡ false)
IsReportedOf (Err fault) old new failed = IsReported (fault_line fault) old new failed

-- ---- a file that cannot be read

-- the message about such a file
abbrev pub unread_line : List ℕ → List ℕ
unread_line file = (codes "drf: read fault: " ++ reported_name file) ++ 10 ∷ []

-- this message was written, or, if memory ran out for it, the one without the file's name
abbrev pub HasReportedUnread : List ℕ → ℕ → Option (List ℕ) → Option (List ℕ) → Bool → Type 0
HasReportedUnread file answer old new failed =
    ((answer ≡ 1) × IsReported (unread_line file) old new failed)
    ⊎ ((answer ≡ 1) × IsReported (fault_line Read) old new failed)

-- the message about why a file could not be read
abbrev pub HasReportedFile : List ℕ → RunFault → ℕ → Option (List ℕ) → Option (List ℕ) → Bool → Type 0
HasReportedFile file Read answer old new failed = HasReportedUnread file answer old new failed
HasReportedFile file Write answer old new failed = (answer ≡ 1) × IsReported (fault_line Write) old new failed
HasReportedFile file Memory answer old new failed = (answer ≡ 1) × IsReported (fault_line Memory) old new failed

-- ---- a wrong line of a file

-- the message about it: the file, the number of the line, and the number and the name of the error
abbrev pub refused_line : List ℕ → ℕ → ℕ → List ℕ → List ℕ
refused_line file line number name =
    ((codes "drf: " ++ reported_name file) ++ (codes " line " ++ decimal line)) ++ ((codes " refused " ++ decimal number) ++ (32 ∷ name ++ 10 ∷ []))

-- this message was written and the status is 3, or memory ran out for it, which was then reported
abbrev pub HasReportedLine : List ℕ → ℕ → Option (List ℕ) → Option (List ℕ) → Bool → Type 0
HasReportedLine line answer old new failed =
    ((answer ≡ 3) × IsReported line old new failed)
    ⊎ ((answer ≡ 1) × IsReported (fault_line Memory) old new failed)
