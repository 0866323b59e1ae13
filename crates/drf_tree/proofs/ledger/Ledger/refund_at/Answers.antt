use Rattle.std.proofs.Common.{◌≡◌, Some, refl, sym, ap, ◌∙◌, arith}
use Rattle.drf_hash.specs.Slots.{slot_of}
use Rattle.drf_sorter.specs.Content.{Holds, refunded}
use Rattle.drf_tree.proofs.Names.{same_path}
use Rattle.drf_tree.proofs.ledger.Rows.{clients_change, each_here, here_below, registry_stays, row_missed, with_clients}
use Rattle.drf_tree.specs.Booked.{path_of}
use Rattle.drf_tree.specs.Ledger.{rows_in}
use Rattle.drf_tree.proofs.ledger.Ledger.refund_at.Goals.{In-Some}
use Rattle.drf_tree.proofs.ledger.Ledger.refund_at.Goals as goal

at_row : (c : In-Some) → slot_of same_path path_of c.args.path.now (rows_in c.args.self.now) ≡ Some c.in-Some.at
at_row c = sym c.requires.row ∙ c.in-Some.is

pub index_mut-requires : goal.index_mut-requires
index_mut-requires c =
    let l = c.args.self.now in
    omega (arith, here_below _ l.slots.items _ (at_row (goal.at.index_mut-requires c).In-Some), l.slots.ok.0)

pub refund-requires : goal.refund-requires
refund-requires c =
    each_here _ c.args.self.now.slots.items _ (at_row (goal.at.refund-requires c).In-Some) (Holds c.args.quantities.now) _ c.index_mut.ensures.value
    c.requires.held

pub invariant_of-self : goal.invariant_of-self
invariant_of-self c =
    let l = c.args.self.now in
    record {
      registry = registry_stays _ l.slots.items _ (at_row (goal.at.invariant_of-self c).In-Some) l.places.entries l.live l.registry
          (refunded c.args.quantities.now) _ _ c.index_mut.ensures.value c.refund.ensures (λ d. refl);
    }

pub returns-in-Some : goal.returns-in-Some
returns-in-Some c =
    let l = c.args.self.now in
    ap (with_clients l) (clients_change _ l.slots.items _ (at_row (goal.at.returns-in-Some c).In-Some) l.places.entries l.live l.registry
    (refunded c.args.quantities.now) _ _ c.index_mut.ensures.value c.refund.ensures)

pub returns-in_default : goal.returns-in_default
returns-in_default c = absurd (row_missed c.args.path.now c.args.self.now c.requires.known (sym c.requires.row ∙ c.in_default.is))
