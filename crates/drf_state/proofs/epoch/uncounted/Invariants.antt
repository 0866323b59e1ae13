use Rattle.std.proofs.Common.{◌≡◌, map, take}
use Rattle.drf_saved.specs.Epoch.{uncounted}
use Rattle.drf_state.proofs.epoch.uncounted.Given as goal

abbrev pub invariant-loop-client : goal.invariant-loop-client
invariant-loop-client l = l.rows.items ≡ map uncounted (take l.client-index l.clients)
