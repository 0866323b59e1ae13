use Rattle.std.proofs.Common.{◌≡◌, Option, None, Some, true, get_or, length, map, set, take, sym, ap, ◌∙◌, subst, arith}
use Rattle.std.specs.List.{AllByRecursion}
use Rattle.std.specs.Option.{option_copied, option_map}
use Rattle.drf_role.specs.TextLaws.{test_from_same}
use Rattle.drf_tables.proofs.tables.Names.{each_at, filled, Text, same_text, CanExchangeAt, changed, with_exchanged, Registered, Agent}
use Rattle.drf_tables.proofs.registry.Changes.{IsRewritten, rewritten, unchanged_slots}
use Rattle.drf_tables.proofs.registry.Slots.{Entry, IsFound, filled_at, found_in, named_at, no_free_slot, read_slot}
use Rattle.drf_tables.proofs.reservations.Registry+Agent.exchange.Goals.{In-Some, In-Some-index}
use Rattle.drf_tables.proofs.reservations.Registry+Agent.exchange.Goals as goal

pub returns-in_default-clause-ok : goal.returns-in_default-clause-ok
returns-in_default-clause-ok c =
    let name = c.args.name.now in
    let change = with_exchanged c.args.old.now c.args.new.now in
    subst (λ (r : Registered Agent). r.entries ≡ map (changed name change) r.entries) c.self.view_is (unchanged_slots name change c.self.inside.slots.items
    (sym (c.self.invariant.found name) ∙ sym c.get.ensures.value ∙ ap option_copied c.in_default.is))

here_at : (c : In-Some) → IsFound c.args.name.now c.self.inside.slots.items c.in-Some.place.now
here_at c = found_in _ _ _ (sym (c.self.invariant.found c.args.name.now) ∙ sym c.get.ensures.value ∙ ap option_copied c.in-Some.is)

pub index-requires : goal.index-requires
index-requires c = omega (arith, (here_at (goal.at.index-requires c).In-Some).here.below, c.self.inside.slots.ok.0)

pub returns-in_default-index-clause-ok : goal.returns-in_default-index-clause-ok
returns-in_default-index-clause-ok c =
    let here = (here_at (goal.at.returns-in_default-index-clause-ok c).In-Some).here in
    absurd (no_free_slot c.self.inside.slots.items c.in-Some.place.now c.index.result.now here.entry here.below c.index.ensures here.there c.in_default-index.is)

there_at : (c : In-Some-index) → IsFound c.args.name.now c.self.inside.slots.items c.in-Some.place.now
    → get_or c.self.inside.slots.items c.in-Some.place.now None ≡ Some c.in-Some-index.entry
there_at c here = read_slot c.self.inside.slots.items _ c.index.result.now c.in-Some-index.entry here.here.below c.index.ensures c.in-Some-index.is

pub exchanged_agent-requires : goal.exchanged_agent-requires
exchanged_agent-requires c =
    let at = goal.at.exchanged_agent-requires c in
    let slots = c.self.inside.slots.items in
    let name : Text = c.args.name.now in
    let here = here_at at.In-Some in
    let e : Entry Agent = c.in-Some-index.entry in
    let there = there_at at.In-Some-index here in
    let named : same_text e.0 name ≡ true = test_from_same e.0 name (named_at name slots c.in-Some.place.now e here there) in
    let can : Entry Agent → Type 0 = λ e. same_text e.0 name ≡ true → CanExchangeAt c.args.old.now c.args.new.now e.1 in
    each_at can (filled slots) (length (filled (take c.in-Some.place.now slots))) e
    (subst (λ (r : Registered Agent). AllByRecursion can r.entries) (sym c.self.view_is) c.requires) (filled_at slots _ e there) named

pub index_mut-requires : goal.index_mut-requires
index_mut-requires c = omega (arith, (here_at (goal.at.index_mut-requires c).In-Some).here.below, c.self.inside.slots.ok.0)

written_at : (c : In-Some-index) → IsFound c.args.name.now c.self.inside.slots.items c.in-Some.place.now → (w : Agent) (x slot : Option (Entry Agent))
    → x ≡ get_or c.self.inside.slots.items c.in-Some.place.now x → slot ≡ option_map (λ (e : Entry Agent). (e.0, w)) x
    → let t = c.self.inside in
    IsRewritten c.args.name.now t.slots.items (set t.slots.items c.in-Some.place.now slot) t.places.entries t.live c.in-Some-index.entry.1 w
written_at c here w x slot = rewritten _ _ _ _ _ c.in-Some-index.entry (λ _. w) x slot c.self.invariant here (there_at c here)

pub invariant_of-self : goal.invariant_of-self
invariant_of-self c =
    let at = goal.at.invariant_of-self c in
    (written_at at.In-Some-index (here_at at.In-Some) c.in_ok-agent.agent _ _ c.index_mut.ensures.value c.put.ensures).registry

pub returns-clause-ok : goal.returns-clause-ok
returns-clause-ok c =
    let at = goal.at.returns-clause-ok c in
    let change = with_exchanged c.args.old.now c.args.new.now in
    (written_at at.In-Some-index (here_at at.In-Some) c.in_ok-agent.agent _ _ c.index_mut.ensures.value c.put.ensures).entries change (sym c.in_ok-agent.ensures)
    ∙ ap (λ (r : Registered Agent). map (changed c.args.name.now change) r.entries) c.self.view_is
