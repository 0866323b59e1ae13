use Rattle.std.proofs.Common.{◌≡◌, length}
use Rattle.std.specs.Prelude.{All}
use Rattle.drf_master.specs.Receipts.{IsNewPass}
use Rattle.drf_master.proofs.master.passes_of.Given as goal

abbrev pub invariant-loop-place : goal.invariant-loop-place
invariant-loop-place l = (length l.passes.items ≡ l.place) × All (IsNewPass l.fn.key) l.passes.items
