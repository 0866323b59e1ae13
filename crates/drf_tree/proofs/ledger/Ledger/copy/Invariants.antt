use Rattle.std.proofs.Common.{◌≡◌, take}
use Rattle.drf_hash.specs.Slots.{filled}
use Rattle.drf_tree.proofs.Names.{ledger_content}
use Rattle.drf_tree.proofs.ledger.Rows.{with_clients}
use Rattle.drf_tree.specs.Ledger.{rows_in}
use Rattle.drf_tree.proofs.ledger.Ledger.copy.Given as goal

abbrev pub invariant-loop-slot : goal.invariant-loop-slot
invariant-loop-slot l = ledger_content l.copy ≡ with_clients l.self (filled (take l.slot-index (rows_in l.self)))
