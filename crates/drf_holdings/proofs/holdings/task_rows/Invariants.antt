use Rattle.std.proofs.Common.{◌≡◌, map}
use Rattle.drf_rows.specs.Offers.{task_of}
use Rattle.drf_holdings.proofs.holdings.task_rows.Given as goal

abbrev pub invariant-loop-name : goal.invariant-loop-name
invariant-loop-name l = l.rows.items ≡ map (task_of l.offer) l.yielded
