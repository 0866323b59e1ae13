use Rattle.std.proofs.Common.{◌≡◌, ◌+◌, ◌<◌, ◌^◌, Some, refl, sym, ap, ◌∙◌, arith}
use Rattle.drf_hash.specs.Slots.{slot_of}
use Rattle.drf_sorter.specs.Content.{charged}
use Rattle.drf_tree.proofs.Names.{amount_of, Text, same_path}
use Rattle.drf_tree.proofs.ledger.Rows.{clients_change, here_below, if_here, part_here, registry_stays_if, row_missed, with_clients}
use Rattle.drf_tree.specs.Booked.{path_of}
use Rattle.drf_tree.specs.Ledger.{rows_in}
use Rattle.drf_tree.proofs.ledger.Ledger.charge_at.Goals.{In-Some}
use Rattle.drf_tree.proofs.ledger.Ledger.charge_at.Goals as goal

at_row : (c : In-Some) → slot_of same_path path_of c.args.path.now (rows_in c.args.self.now) ≡ Some c.in-Some.at
at_row c = sym c.requires.row ∙ c.in-Some.is

pub index_mut-requires : goal.index_mut-requires
index_mut-requires c =
    let l = c.args.self.now in
    omega (arith, here_below _ l.slots.items _ (at_row (goal.at.index_mut-requires c).In-Some), l.slots.ok.0)

pub charge-requires-clause-held : goal.charge-requires-clause-held
charge-requires-clause-held c =
    let l = c.args.self.now in
    let at = at_row (goal.at.charge-requires-clause-held c).In-Some in
    let change = charged c.args.quantities.now c.args.offers in
    if_here _ l.slots.items _ at (λ r. (label : Text) → r.held label + amount_of c.args.quantities.now label < 2 ^ 64) _ c.index_mut.ensures.value
    (λ label.
    let part = part_here _ l.slots.items _ at l.places.entries l.live l.registry change (λ r. r.held label) in
    omega (arith, part, c.requires.sound.held label, c.requires.sound.total label))

pub charge-requires-clause-count : goal.charge-requires-clause-count
charge-requires-clause-count c =
    let l = c.args.self.now in
    let at = at_row (goal.at.charge-requires-clause-count c).In-Some in
    let change = charged c.args.quantities.now c.args.offers in
    let part = part_here _ l.slots.items _ at l.places.entries l.live l.registry change (λ r. r.count) in
    if_here _ l.slots.items _ at (λ r. r.count + c.args.offers < 2 ^ 64) _ c.index_mut.ensures.value (omega (arith, part, c.requires.sound.count))

pub invariant_of-self : goal.invariant_of-self
invariant_of-self c =
    let l = c.args.self.now in
    record {
      registry = registry_stays_if _ l.slots.items _ (at_row (goal.at.invariant_of-self c).In-Some) c.charge.result l.places.entries l.live l.registry
          (charged c.args.quantities.now c.args.offers) (λ d. refl) _ _ c.index_mut.ensures.value c.charge.ensures.ok c.charge.ensures.err;
    }

pub returns-in_ok-charge-clause-ok : goal.returns-in_ok-charge-clause-ok
returns-in_ok-charge-clause-ok c =
    let l = c.args.self.now in
    ap (with_clients l) (clients_change _ l.slots.items _ (at_row (goal.at.returns-in_ok-charge-clause-ok c).In-Some) l.places.entries l.live l.registry
    (charged c.args.quantities.now c.args.offers) _ _ c.index_mut.ensures.value c.in_ok-charge.ensures.ok)

pub returns-in_default-clause-ok : goal.returns-in_default-clause-ok
returns-in_default-clause-ok c = absurd (row_missed c.args.path.now c.args.self.now c.requires.known (sym c.requires.row ∙ c.in_default.is))
