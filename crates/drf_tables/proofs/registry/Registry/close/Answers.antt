use Rattle.std.proofs.Common.{Some, length, ap, sym, ◌∙◌, arith}
use Rattle.std.proofs.lemmas.List.{length-map}
use Rattle.drf_hash.proofs.FreeSlotLaws.{filled-all, registry-closed}
use Rattle.drf_hash.proofs.SlotLaws.{filled-short}
use Rattle.drf_tables.proofs.tables.Names.{filled, same_text, name_of, Registered}
use Rattle.drf_tables.proofs.registry.Slots.{Slots}
use Rattle.drf_tables.proofs.registry.Registry.close.Goals as goal

pub invariant_of-self : goal.invariant_of-self
invariant_of-self g c =
    let t = c.self.inside in
    let closed = c.in_ok-close_free_slots.ensures in
    rw (closed.slots, closed.places) (registry-closed same_text name_of t.slots.items t.places.entries t.live c.self.invariant)

pub returns-in_ok-close_free_slots-clause-closed : goal.returns-in_ok-close_free_slots-clause-closed
returns-in_ok-close_free_slots-clause-closed g c =
    let left = filled c.self.inside.slots.items in
    let closed = c.in_ok-close_free_slots.ensures.slots in
    ap length closed ∙ length-map left Some
    ∙ sym (ap (λ (ss : Slots g.row.T.Denot). length (filled ss)) closed ∙ ap length (filled-all left))

pub returns-in_ok-close_free_slots-clause-same : goal.returns-in_ok-close_free_slots-clause-same
returns-in_ok-close_free_slots-clause-same g c =
    ap (λ (ss : Slots g.row.T.Denot). filled ss) c.in_ok-close_free_slots.ensures.slots
    ∙ filled-all (filled c.self.inside.slots.items)
    ∙ ap (λ (r : Registered g.row.T.Denot). r.entries) c.self.view_is

-- if there are no free slots
pub returns-else-self-len-clause-closed : goal.returns-else-self-len-clause-closed
returns-else-self-len-clause-closed g c =
    let s = c.self.inside.slots in
    let full = c.if-self-len.false in
    let all = ap (λ (r : Registered g.row.T.Denot). r.slots) c.self.view_is in
    let entries = ap (λ (r : Registered g.row.T.Denot). length r.entries) c.self.view_is in
    omega (arith, c.self.invariant.live, filled-short s.items, s.ok.0, full, all, entries)
