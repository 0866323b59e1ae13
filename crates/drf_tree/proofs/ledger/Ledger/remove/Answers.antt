use Rattle.std.proofs.Common.{◌≡◌, ◌-◌, None, Some, sym, ap, ◌∙◌, subst, arith, List, Option}
use Rattle.std.proofs.lemmas.List.{map-set}
use Rattle.drf_hash.specs.Slots.{filled, slot_of, IsRegistry}
use Rattle.drf_hash.proofs.SlotLaws.{filled-free_slot, live_one, registry-free_slot}
use Rattle.drf_tree.proofs.Names.{same_path, path_decides, Ranked}
use Rattle.drf_tree.proofs.ledger.Rows.{here, here_below, row_missed, with_clients}
use Rattle.drf_tree.specs.Booked.{path_of, seen_slot}
use Rattle.drf_tree.specs.Ledger.{rows_in}
use Rattle.drf_tree.proofs.ledger.Ledger.remove.Goals.{In-Some}
use Rattle.drf_tree.proofs.ledger.Ledger.remove.Goals as goal

pub returns-in_default : goal.returns-in_default
returns-in_default c =
    let l = c.args.self.now in
    absurd (row_missed c.args.path.now l c.requires (sym (l.registry.found c.args.path.now) ∙ sym c.swap_remove.ensures.value ∙ c.in_default.is))

at_row : (c : In-Some) → slot_of same_path path_of c.args.path.now (rows_in c.args.self.now) ≡ Some c.in-Some.place
at_row c = sym (c.args.self.now.registry.found c.args.path.now) ∙ sym c.swap_remove.ensures.value ∙ c.in-Some.is

pub index-requires : goal.index-requires
index-requires c =
    let l = c.args.self.now in
    omega (arith, here_below _ l.slots.items _ (at_row (goal.at.index-requires c).In-Some), l.slots.ok.0)

pub index_mut-requires : goal.index_mut-requires
index_mut-requires c =
    let l = c.args.self.now in
    omega (arith, here_below _ l.slots.items _ (at_row (goal.at.index_mut-requires c).In-Some), l.slots.ok.0)

pub overflow_sub-self : goal.overflow_sub-self
overflow_sub-self c =
    let l = c.args.self.now in
    let is = here c.args.path.now l.slots.items c.in-Some.place (at_row (goal.at.overflow_sub-self c).In-Some) in
    omega (arith, live_one same_path path_decides path_of (rows_in l) l.places.entries l.live c.in-Some.place is.entry l.registry is.there)

pub invariant_of-self-2 : goal.invariant_of-self-2
invariant_of-self-2 c =
    let l = c.args.self.now in
    let at = at_row (goal.at.invariant_of-self-2 c).In-Some in
    let is = here c.args.path.now l.slots.items c.in-Some.place at in
    let some = live_one same_path path_decides path_of (rows_in l) l.places.entries l.live c.in-Some.place is.entry l.registry is.there in
    record {
      registry =
          subst (λ (rows : List (Option Ranked)). IsRegistry same_path path_of rows c.swap_remove.new.self.entries (l.live - 1))
          (sym (map-set seen_slot l.slots.items c.in-Some.place None))
          (registry-free_slot same_path path_decides path_of (rows_in l) l.places.entries c.swap_remove.new.self.entries l.live (l.live - 1) c.args.path.now c.in-Some.place
          l.registry at (omega (arith, some)) c.swap_remove.ensures.updates.0);
    }

pub returns : goal.returns
returns c =
    let l = c.args.self.now in
    ap (with_clients l)
    (ap (λ (rows : List (Option Ranked)). filled rows) (map-set seen_slot l.slots.items c.in-Some.place None)
    ∙ filled-free_slot same_path path_decides path_of c.args.path.now (rows_in l) c.in-Some.place l.registry.apart (at_row (goal.at.returns c).In-Some))
