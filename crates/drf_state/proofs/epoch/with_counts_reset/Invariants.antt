use Rattle.std.proofs.Common.{◌≡◌, map, take}
use Rattle.drf_saved.specs.Epoch.{with_counts_reset}
use Rattle.drf_state.proofs.epoch.with_counts_reset.Given as goal

abbrev pub invariant-loop-framework : goal.invariant-loop-framework
invariant-loop-framework l = l.rows.items ≡ map with_counts_reset (take l.framework-index l.frameworks)
