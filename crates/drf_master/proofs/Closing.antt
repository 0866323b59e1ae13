-- Lemmas about closing a master.
use Rattle.std.proofs.Common.{◌≡◌, ℕ, List, subst}
use Rattle.drf_board.specs.History.{IsLegal}
use Rattle.drf_board.specs.declared.entry.Entry.{Entry}
use Rattle.drf_rows.specs.LimitNumbers.{LimitNumbers}
use Rattle.drf_rows.specs.declared.rows.Rows.{Rows}
use Rattle.drf_master.specs.Closing.{AreOf, IsClosed, IsCloseFault}
use Rattle.drf_master.specs.Journal.{Journal}
use Rattle.drf_master.specs.Matching.{IsFault, IsShuffle, receipts_of}
use Rattle.drf_master.specs.Receipts.{Held}
use Rattle.drf_master.specs.declared.matching.CloseFault.{CloseFault}
use Rattle.drf_master.specs.declared.matching.CloseFault.TheVariants.{Stranger, Missing, Mismatch, Memory}

pub fault-own : (journal : List Entry) (key : ℕ) (passes : List Held) → AreOf key passes → (fault : CloseFault)
    → IsFault journal (receipts_of passes) fault → IsCloseFault journal key passes fault
fault-own journal key passes own Stranger is = absurd is
fault-own journal key passes own Missing is = (own, is)
fault-own journal key passes own (Mismatch place) is = (own, is)
fault-own journal key passes own Memory is = (own, is)

pub closed : (given : LimitNumbers) (start : Rows) (book : Journal) (key : ℕ) (passes held : List Held) → held ≡ passes → book.limits ≡ given
    → IsLegal book.limits start book.entries → AreOf key held → IsShuffle book.entries (receipts_of held) → IsClosed given start book key passes
closed given start book key passes held same limits legal own shuffle = record {
  limits = limits;
  legal = subst (λ (l : LimitNumbers). IsLegal l start book.entries) limits legal;
  own = subst (λ (ps : List Held). AreOf key ps) same own;
  shuffle = subst (λ (ps : List Held). IsShuffle book.entries (receipts_of ps)) same shuffle;
}
