-- The state of a book, as its contracts see it.
use Rattle.std.specs.Prelude.{◌≡◌, ℕ, ◌≤◌, List, [], ◌∷◌, ◌++◌, length, take, Option, Some, None, refl}
use Rattle.std.specs.Coded.{Coded, code_by, coded×, coded_ℕ}
use Rattle.drf_board.specs.Boards.{entries_code}
use Rattle.drf_board.specs.History.{IsLegal, rows_of}
use Rattle.drf_board.specs.declared.entry.Entry.{Entry}
use Rattle.drf_core.specs.Machine.{Engine}
use Rattle.drf_rows.specs.LimitNumbers.{LimitNumbers}
use Rattle.drf_rows.specs.Step.{live_rows}
use Rattle.drf_rows.specs.contracts.limits.Limits as limits
use Rattle.drf_rows.specs.declared.rows.Rows.{Rows}

-- its limits, its journal, and the number of entries for which it has room
pub record Journal : Type 0 where
  pub limits : LimitNumbers
  pub entries : List Entry
  pub room : ℕ

-- an encoding of such states, by which proofs distinguish them
abbrev pub journal_code : Coded Journal
journal_code = code_by (LimitNumbers × (List Entry × ℕ)) (coded× limits.the_row.coded (coded× entries_code coded_ℕ)) (λ j. (j.limits, (j.entries, j.room)))
    (λ p. record { limits = p.0; entries = p.1.0; room = p.1.1 }) (λ _. refl)

-- the same journal, possibly with more room
pub record IsSameJournal (old new : Journal) : Type 0 where
  pub limits : new.limits ≡ old.limits
  pub entries : new.entries ≡ old.entries
  pub room : old.room ≤ new.room

-- exactly this entry was added
pub record Adds (old new : Journal) (entry : Entry) : Type 0 where
  pub limits : new.limits ≡ old.limits
  pub entries : new.entries ≡ old.entries ++ entry ∷ []

-- a core with these limits, whose current state is that of these rows
pub record Begins (given : LimitNumbers) (start : Rows) (engine : Engine) : Type 0 where
  pub limits : engine.limits ≡ given
  pub rows : live_rows engine.rows ≡ live_rows start

-- a core with these limits, whose current state is the one after these entries, from the rows `start`
pub record IsRunOf (given : LimitNumbers) (start : Rows) (entries : List Entry) (engine : Engine) : Type 0 where
  pub limits : engine.limits ≡ given
  pub rows : live_rows engine.rows ≡ live_rows (rows_of given start entries)

-- the entry can be added to the entries, and the core is in the state after it
pub record IsNext (given : LimitNumbers) (start : Rows) (entries : List Entry) (engine : Engine) (entry : Entry) : Type 0 where
  pub legal : IsLegal given start (entries ++ entry ∷ [])
  pub run : IsRunOf given start (entries ++ entry ∷ []) engine

-- a core that has taken the first `taken` entries
pub record HasTaken (given : LimitNumbers) (start : Rows) (entries : List Entry) (engine : Engine) (taken : ℕ) : Type 0 where
  pub few : taken ≤ length entries
  pub run : IsRunOf given start (take taken entries) engine

-- the same, if there is such a core
abbrev pub HasTakenIfAny : LimitNumbers → Rows → List Entry → Option Engine → ℕ → Type 0
HasTakenIfAny given start entries None taken = Unit {0}
HasTakenIfAny given start entries (Some engine) taken = HasTaken given start entries engine taken

-- The invariant of a book that began with the rows `start`: its journal is legal, its core is in the state after the journal, and its second core,
-- if there is one, has taken the first `taken` entries.
pub record IsBook (start : Rows) (entries : List Entry) (core : Engine) (second : Option Engine) (taken : ℕ) : Type 0 where
  pub legal : IsLegal core.limits start entries
  pub run : IsRunOf core.limits start entries core
  pub second_run : HasTakenIfAny core.limits start entries second taken
