use Rattle.std.proofs.Common.{◌≡◌, ◌<◌, ℕ, false}
use Rattle.drf_core.specs.cycle.Drafting.{is_open_at}
use Rattle.drf_core.proofs.cycle.has_open.Given as goal

abbrev pub invariant-loop-place : goal.invariant-loop-place
invariant-loop-place l = (i : ℕ) → i < l.place → is_open_at l.tables.rows i ≡ false
