use Rattle.std.proofs.Common.{◌≡◌, length}
use Rattle.std.specs.Prelude.{All}
use Rattle.drf_board.proofs.board.readers_of.Given as goal

abbrev pub invariant-loop-seat : goal.invariant-loop-seat
invariant-loop-seat g l = (length l.viewers.items ≡ l.seat) × All (λ v. v ≡ l.fn.prefix) l.viewers.items
