-- The state of a pass, as its contracts see it.
use Rattle.std.specs.Prelude.{◌≡◌, ℕ, ◌+◌, List, [], ◌∷◌, ◌++◌, length, refl}
use Rattle.std.specs.Coded.{Coded, code_by, coded×, coded_ℕ, coded_list}
use Rattle.drf_board.specs.History.{IsLegal}
use Rattle.drf_board.specs.declared.entry.Entry.{Entry}
use Rattle.drf_rows.specs.LimitNumbers.{LimitNumbers}
use Rattle.drf_rows.specs.declared.rows.Rows.{Rows}
use Rattle.drf_master.specs.contracts.pass.Receipt as receipt
use Rattle.drf_master.specs.declared.pass.Receipt.{Receipt}

-- a pass: the key of its master, its receipts in the order of its calls, and the number of receipts for which it has room
pub record Held : Type 0 where
  pub key : ℕ
  pub receipts : List Receipt
  pub room : ℕ

-- an encoding of such states, by which proofs distinguish them
abbrev pub held_code : Coded Held
held_code = code_by (ℕ × (List Receipt × ℕ)) (coded× coded_ℕ (coded× (coded_list receipt.the_row.coded) coded_ℕ)) (λ h. (h.key, (h.receipts, h.room)))
    (λ p. record { key = p.0; receipts = p.1.0; room = p.1.1 }) (λ _. refl)

-- the same pass, possibly with other room
pub record IsSamePass (old new : Held) : Type 0 where
  pub key : new.key ≡ old.key
  pub receipts : new.receipts ≡ old.receipts

-- exactly this receipt was added
pub record Keeps (old new : Held) (place : ℕ) (entry : Entry) : Type 0 where
  pub key : new.key ≡ old.key
  pub receipts : new.receipts ≡ old.receipts ++ record { place = place; entry = entry } ∷ []

-- a pass of the master with this key, without receipts
pub record IsNewPass (given : ℕ) (new : Held) : Type 0 where
  pub key : new.key ≡ given
  pub receipts : new.receipts ≡ []

-- the list that a call returns is legal, and ends with the entry at its place
pub record IsReported (limits : LimitNumbers) (start : Rows) (told : List Entry) (place : ℕ) (entry : Entry) : Type 0 where
  pub legal : IsLegal limits start told
  pub count : length told ≡ place + 1
  pub before : List Entry
  pub ends : told ≡ before ++ entry ∷ []
