use Rattle.std.proofs.Common.{◌≡◌, ◌<◌, ℕ, Option, None, Some, get_or, length, set, take, slice_get, sym, ap, ◌∙◌, arith}
use Rattle.std.specs.Option.{option_map}
use Rattle.drf_tables.proofs.tables.Names.{set_value_at, filled, Registered, with_free_at, Agent}
use Rattle.drf_hash.proofs.SlotLaws.{read_is}
use Rattle.drf_tables.proofs.registry.Changes.{registry_with}
use Rattle.drf_tables.proofs.registry.Slots.{Entry, Slots, filled_at, filled_set, slot-below, written_free}
use Rattle.drf_tables.proofs.registry.members.Registry+Agent.set_free_at.Goals.{After-ranked-slot}
use Rattle.drf_tables.proofs.registry.members.Registry+Agent.set_free_at.Goals as goal

there_at : (c : After-ranked-slot) → get_or c.self.inside.slots.items c.ranked-slot.result None ≡ Some c.ranked-slot.ensures.entry
there_at c = ap (λ (ss : Slots Agent). get_or ss c.ranked-slot.result None) (sym c.deref.ensures.value) ∙ c.ranked-slot.ensures.there

below_at : (c : After-ranked-slot) → c.ranked-slot.result < length c.self.inside.slots.items
below_at c = slot-below c.self.inside.slots.items _ _ (there_at c)

pub index_mut-requires : goal.index_mut-requires
index_mut-requires c = omega (arith, below_at (goal.at.index_mut-requires c).After-ranked-slot, c.self.inside.slots.ok.0)

put_at : (c : After-ranked-slot) (x slot : Option (Entry Agent)) → x ≡ get_or c.self.inside.slots.items c.ranked-slot.result x
    → slot ≡ option_map (λ (e : Entry Agent). (e.0, record e.1 { free = Some c.args.free })) x
    → let e : Entry Agent = c.ranked-slot.ensures.entry in ◌≡◌ {A = Option (Entry Agent)} slot (Some (e.0, record e.1 { free = Some c.args.free }))
put_at c x slot read put =
    put
    ∙ ap (option_map (λ (e : Entry Agent). (e.0, record e.1 { free = Some c.args.free })))
    (read_is c.self.inside.slots.items c.ranked-slot.result x c.ranked-slot.ensures.entry (below_at c) read (there_at c))

pub invariant_of-self : goal.invariant_of-self
invariant_of-self c =
    let t = c.self.inside in
    let b = (goal.at.invariant_of-self c).After-ranked-slot in
    let e : Entry Agent = c.ranked-slot.ensures.entry in
    registry_with t.slots.items t.places.entries t.live c.ranked-slot.result e (record e.1 { free = Some c.args.free }) c.put_free.new.slot c.self.invariant
    (there_at b) (put_at b _ _ c.index_mut.ensures.value c.put_free.ensures)

pub returns : goal.returns
returns c =
    let slots = c.self.inside.slots.items in
    let b = (goal.at.returns c).After-ranked-slot in
    let e : Entry Agent = c.ranked-slot.ensures.entry in
    let slot = c.ranked-slot.result in
    let w : Agent = record e.1 { free = Some c.args.free } in
    let before : length (filled (take slot slots)) ≡ c.args.place =
    ap (λ (ss : Slots Agent). length (filled (take slot ss))) (sym c.deref.ensures.value) ∙ c.ranked-slot.ensures.before in
    let at : slice_get (filled slots) c.args.place ≡ Some e =
    ap (λ (n : ℕ). slice_get (filled slots) n) (sym before) ∙ filled_at slots slot e (there_at b) in
    ap (λ (s : Option (Entry Agent)). filled (set slots slot s)) (put_at b _ _ c.index_mut.ensures.value c.put_free.ensures)
    ∙ filled_set slots slot e w (there_at b)
    ∙ ap (λ (n : ℕ). set_value_at (filled slots) n w) before
    ∙ written_free (filled slots) c.args.place e c.args.free at
    ∙ ap (λ (r : Registered Agent). with_free_at r.entries c.args.place c.args.free) c.self.view_is
