use Rattle.std.proofs.Common.{List, Option, Some, length, ap, ◌∙◌, arith}
use Rattle.std.proofs.lemmas.List.{length-map}
use Rattle.drf_hash.proofs.FreeSlotLaws.{filled-all}
use Rattle.drf_hash.specs.Slots.{filled}
use Rattle.drf_tree.proofs.Names.{Ranked}
use Rattle.drf_tree.proofs.ledger.Rows.{closed_rows, registry_closed, with_clients}
use Rattle.drf_tree.specs.Booked.{seen_slot}
use Rattle.drf_tree.specs.Ledger.{rows_in}
use Rattle.drf_tree.proofs.ledger.Ledger.close.Goals as goal

pub invariant_of-self : goal.invariant_of-self
invariant_of-self c =
    let l = c.args.self.now in
    let closed = c.close_free_slots.ensures in
    record {
      registry = registry_closed c.close_free_slots.result l.slots.items _ l.places.entries _ l.live closed.slots closed.places closed.slots_stay closed.places_stay
          l.registry;
    }

pub returns-in_ok-close_free_slots-clause-few : goal.returns-in_ok-close_free_slots-clause-few
returns-in_ok-close_free_slots-clause-few c =
    let l = c.args.self.now in
    let new = c.close_free_slots.new.slots.items in
    let rows = ap length (closed_rows l.slots.items new c.in_ok-close_free_slots.ensures.slots) in
    let left = length-map (filled (rows_in l)) Some in
    omega (arith, rows, left, length-map new seen_slot, l.registry.live)

pub returns-in_ok-close_free_slots-clause-same : goal.returns-in_ok-close_free_slots-clause-same
returns-in_ok-close_free_slots-clause-same c =
    let l = c.args.self.now in
    ap (with_clients l)
    (ap (λ (rows : List (Option Ranked)). filled rows) (closed_rows l.slots.items _ c.in_ok-close_free_slots.ensures.slots) ∙ filled-all (filled (rows_in l)))
