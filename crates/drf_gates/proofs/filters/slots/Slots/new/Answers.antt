use Rattle.std.proofs.Common.{List, Option, length, ap, subst, sym}
use Rattle.drf_rows.specs.declared.rows.FilterRow.{FilterRow}
use Rattle.drf_gates.specs.filters.Index.{IsIndexed}
use Rattle.drf_hash.specs.Slots.{filled}
use Rattle.drf_gates.specs.declared.filters.index.Key.TheVariants.{Client, ClientAndAgent}
use Rattle.drf_gates.proofs.filters.slots.Slots.new.Goals as goal

pub returns-clause-slots : goal.returns-clause-slots
returns-clause-slots c = record {
  pairs = subst (λ (rows : List (Option FilterRow)). IsIndexed ClientAndAgent rows c.new-pairs.result) (sym c.new-rows.ensures.items) (c.new-pairs.ensures ClientAndAgent);
  clients = subst (λ (rows : List (Option FilterRow)). IsIndexed Client rows c.new-clients.result) (sym c.new-rows.ensures.items) (c.new-clients.ensures Client);
  live = sym (ap (λ (rows : List (Option FilterRow)). length (filled rows)) c.new-rows.ensures.items);
}
