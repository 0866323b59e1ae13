-- When a master can be closed.
use Rattle.std.specs.Prelude.{◌≡◌, ℕ, List, All}
use Rattle.drf_board.specs.History.{IsLegal}
use Rattle.drf_board.specs.declared.entry.Entry.{Entry}
use Rattle.drf_rows.specs.LimitNumbers.{LimitNumbers}
use Rattle.drf_rows.specs.declared.rows.Rows.{Rows}
use Rattle.drf_master.specs.Journal.{Journal}
use Rattle.drf_master.specs.Matching.{IsShuffle, IsFault, receipts_of}
use Rattle.drf_master.specs.Receipts.{Held}
use Rattle.drf_master.specs.declared.matching.CloseFault.{CloseFault}
use Rattle.drf_master.specs.declared.matching.CloseFault.TheVariants.{Stranger, Missing, Mismatch, Memory}

-- all passes have the key of the master
abbrev pub AreOf : ℕ → List Held → Type 0
AreOf key passes = All (λ h. h.key ≡ key) passes

-- the passes are the master's, and its journal is legal and a shuffle of their receipts
pub record IsClosed (given : LimitNumbers) (start : Rows) (book : Journal) (key : ℕ) (passes : List Held) : Type 0 where
  pub limits : book.limits ≡ given
  pub legal : IsLegal given start book.entries
  pub own : AreOf key passes
  pub shuffle : IsShuffle book.entries (receipts_of passes)

-- the first error that holds of a journal and passes, except that `Memory` can come before a mismatch
abbrev pub IsCloseFault : List Entry → ℕ → List Held → CloseFault → Type 0
IsCloseFault journal key passes Stranger = ¬ AreOf key passes
IsCloseFault journal key passes Missing = AreOf key passes × IsFault journal (receipts_of passes) Missing
IsCloseFault journal key passes (Mismatch place) = AreOf key passes × IsFault journal (receipts_of passes) (Mismatch place)
IsCloseFault journal key passes Memory = AreOf key passes × IsFault journal (receipts_of passes) Memory
