-- An epoch: a reset with which a cluster continues after its history has become full.
use Rattle.std.specs.Prelude.{[], map}
use Rattle.drf_rows.specs.declared.rows.ClientRow.{ClientRow}
use Rattle.drf_rows.specs.declared.rows.FrameworkRow.{FrameworkRow}
use Rattle.drf_rows.specs.declared.rows.Rows.{Rows}

-- the client, as if no offer had been made to it
abbrev pub uncounted : ClientRow → ClientRow
uncounted c = record c { count = 0 }

abbrev pub with_counts_reset : FrameworkRow → FrameworkRow
with_counts_reset f = record f { clients = map uncounted f.clients }

-- Offers are rescinded, and counts, offer numbers and the number of accepted events are reset. Everything else stays as it was.
abbrev pub epoch : Rows → Rows
epoch rows = record rows {
  frameworks = map with_counts_reset rows.frameworks;
  offers = [];
  next_offer = 1;
  events = 0;
}
