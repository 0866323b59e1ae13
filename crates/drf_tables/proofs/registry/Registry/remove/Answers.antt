use Rattle.std.proofs.Common.{◌≡◌, ◌≤◌, None, sym, ap, ◌∙◌, arith}
use Rattle.std.specs.Map.{remove_entry}
use Rattle.std.specs.Cmp.Lexicographic.{bytes_decides}
use Rattle.drf_hash.proofs.SlotLaws.{filled-free_slot, live_one, registry-free_slot}
use Rattle.drf_tables.proofs.tables.Names.{filled, same_text, Registered, name_of, slot_of}
use Rattle.drf_tables.proofs.registry.Entries.{removed-none, removed_entry}
use Rattle.drf_tables.proofs.registry.Slots.{IsFound, found_in, names_apart, slot_none}
use Rattle.drf_tables.proofs.registry.Registry.remove.Given as given
use Rattle.drf_tables.proofs.registry.Registry.remove.Goals.{In-Some}
use Rattle.drf_tables.proofs.registry.Registry.remove.Goals as goal

pub returns-in_default : goal.returns-in_default
returns-in_default g c =
    let name = c.args.name.now in
    let none : slot_of same_text name_of name c.self.inside.slots.items ≡ None = sym (c.self.invariant.found name) ∙ sym c.swap_remove.ensures.value ∙ c.in_default.is in
    sym (removed-none name (filled c.self.inside.slots.items) (slot_none name c.self.inside.slots.items none)) ∙ ap (λ (r : Registered g.row.T.Denot). remove_entry (same_text name) r.entries) c.self.view_is

here_at : (g : given.Over) (c : In-Some g) → IsFound c.args.name.now c.self.inside.slots.items c.in-Some.place
here_at g c = found_in _ _ _ (sym (c.self.invariant.found c.args.name.now) ∙ sym c.swap_remove.ensures.value ∙ c.in-Some.is)

one_at : (g : given.Over) (c : In-Some g) → 1 ≤ c.self.inside.live
one_at g c =
    let t = c.self.inside in
    live_one same_text bytes_decides name_of t.slots.items t.places.entries t.live c.in-Some.place _ c.self.invariant (here_at g c).here.there

pub index_mut-requires : goal.index_mut-requires
index_mut-requires g c = omega (arith, (here_at g (goal.at.index_mut-requires g c).In-Some).here.below, c.self.inside.slots.ok.0)

pub overflow_sub-self : goal.overflow_sub-self
overflow_sub-self g c = omega (arith, one_at g (goal.at.overflow_sub-self g c).In-Some)

pub invariant_of-self-2 : goal.invariant_of-self-2
invariant_of-self-2 g c =
    let t = c.self.inside in
    let b = (goal.at.invariant_of-self-2 g c).In-Some in
    registry-free_slot same_text bytes_decides name_of t.slots.items t.places.entries c.swap_remove.new.self.entries t.live _ c.args.name.now c.in-Some.place
    c.self.invariant (here_at g b).found (omega (arith, one_at g b)) c.swap_remove.ensures.updates.0

pub returns : goal.returns
returns g c =
    let name = c.args.name.now in
    let slots = c.self.inside.slots.items in
    let apart = c.self.invariant.apart in
    filled-free_slot same_text bytes_decides name_of name slots c.in-Some.place apart (here_at g (goal.at.returns g c).In-Some).found
    ∙ sym (removed_entry name (filled slots) (names_apart _ apart))
    ∙ ap (λ (r : Registered g.row.T.Denot). remove_entry (same_text name) r.entries) c.self.view_is
