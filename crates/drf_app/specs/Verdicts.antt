-- What `drf check` writes, and its exit status.
use Rattle.std.specs.Prelude.{◌≡◌, ℕ, Bool, true, false, List, [], ◌∷◌, ◌++◌, Option, Result, Ok, Err, IfSome, codes, decimal}
use Rattle.std.specs.Io.KnownBytes.{Appends}
use Rattle.drf_core.specs.Machine.{Machine}
use Rattle.drf_journal.specs.Device.{AppendsPrefixOf}
use Rattle.drf_journal.specs.Journal.{IsVerdict}
use Rattle.drf_journal.specs.declared.fault.RunFault.{RunFault}
use Rattle.drf_journal.specs.declared.fault.RunFault.TheVariants.{Read, Write, Memory}
use Rattle.drf_journal.specs.declared.journal.Verdict.{Verdict}
use Rattle.drf_journal.specs.declared.journal.Verdict.TheVariants.{Good, Bad}

-- the line with a verdict
abbrev pub verdict_line : Verdict → List ℕ
verdict_line (Good events) = codes "good " ++ decimal events ++ 10 ∷ []
verdict_line (Bad line) = codes "bad line " ++ decimal line ++ 10 ∷ []

-- the exit status for a verdict
abbrev pub verdict_status : Verdict → ℕ
verdict_status (Good events) = 0
verdict_status (Bad line) = 3

-- the verdict was written
abbrev pub IsSaid : Verdict → Result (Unit {0}) RunFault → Option (List ℕ) → Option (List ℕ) → Bool → Type 0
IsSaid verdict (Ok done) old new failed = Appends old new (verdict_line verdict) × (failed ≡ false)
IsSaid verdict (Err Read) old new failed = ⊥
IsSaid verdict (Err Write) old new failed = AppendsPrefixOf old new (verdict_line verdict) × (failed ≡ true)
IsSaid verdict (Err Memory) old new failed = (new ≡ old) × (failed ≡ false)

-- it is the verdict on the journal, from this state
abbrev pub IsOf : Machine → Option (List ℕ) → Verdict → Type 0
IsOf machine unread verdict = IfSome unread (λ journal. IsVerdict machine journal verdict)

-- what was written of it: nothing if reading failed or memory ran out
abbrev pub IsJudged : Machine → Option (List ℕ) → Result Verdict RunFault → Option (List ℕ) → Option (List ℕ) → Type 0
IsJudged machine unread (Ok verdict) old new = IsOf machine unread verdict × Appends old new (verdict_line verdict)
IsJudged machine unread (Err Read) old new = new ≡ old
IsJudged machine unread (Err Write) old new = (verdict : Verdict) × IsOf machine unread verdict × AppendsPrefixOf old new (verdict_line verdict)
IsJudged machine unread (Err Memory) old new = new ≡ old

-- the exit status of a check
abbrev pub check_status : Result Verdict RunFault → ℕ
check_status (Ok verdict) = verdict_status verdict
check_status (Err fault) = 1
