use Rattle.std.proofs.Common.{◌≡◌, ◌++◌}
use Rattle.drf_rows.specs.Offers.{AreNew}
use Rattle.drf_holdings.proofs.tasks.TaskTable.append.Given as goal

abbrev pub invariant-loop-row : goal.invariant-loop-row
invariant-loop-row l = (l.self ≡ l.fn.self ++ l.yielded) × AreNew l.self l.row-iterator.rest.items
