-- The content of a ledger.
use Rattle.std.specs.Prelude.{List, Option, map}
use Rattle.drf_hash.specs.Slots.{filled}
use Rattle.drf_sorter.specs.Content.{Content, Ranked}
use Rattle.drf_tree.specs.Booked.{seen_slot}
use Rattle.drf_tree.specs.declared.ledger.Ledger.{Ledger}

-- the slots of the ledger, some of them free
abbrev pub rows_in : Ledger → List (Option Ranked)
rows_in ledger = map seen_slot ledger.slots.items

abbrev pub ledger_content : Ledger → Content
ledger_content ledger = record { clients = filled (rows_in ledger); total = ledger.total; weights = ledger.weights.rows.items }
