-- Clients in the slots of the ledger, as contracts see them.
use Rattle.std.specs.Prelude.{Option}
use Rattle.std.specs.Option.{option_map}
use Rattle.drf_role.specs.Path.{Path}
use Rattle.drf_sorter.specs.Content.{Ranked}
use Rattle.drf_sorter.specs.Plain.{ranked}
use Rattle.drf_tree.specs.declared.booked.Booked.{Booked}

-- the path of a client, by which it is found
abbrev pub path_of : Ranked → Path
path_of c = c.path

abbrev pub client_of : Booked → Ranked
client_of b = ranked b.client

-- the client in a slot, if there is one
abbrev pub seen_slot : Option Booked → Option Ranked
seen_slot slot = option_map client_of slot
