use Rattle.std.proofs.Common.{◌≡◌, Bool, Option, true, false, get_or, map, set, inl, inr, sym, ap, ◌∙◌, subst, arith}
use Rattle.std.specs.Option.{option_copied, option_map}
use Rattle.drf_tables.proofs.tables.Names.{changed, with_other, Registered, Agent}
use Rattle.drf_tables.proofs.registry.Changes.{IsRewritten, rewritten, unchanged_slots}
use Rattle.drf_tables.proofs.registry.Slots.{Entry, IsFound, found_in, no_free_slot, read_slot}
use Rattle.drf_tables.proofs.reservations.Registry+Agent.set_total.Goals.{In-Some, In-Some-index}
use Rattle.drf_tables.proofs.reservations.Registry+Agent.set_total.Goals as goal

pub returns-in_default : goal.returns-in_default
returns-in_default c =
    let name = c.args.name.now in
    let change = with_other false c.args.total in
    record {
      kept = false;
      same = subst (λ (r : Registered Agent). r.entries ≡ map (changed name change) r.entries) c.self.view_is (unchanged_slots name change c.self.inside.slots.items
          (sym (c.self.invariant.found name) ∙ sym c.get.ensures.value ∙ ap option_copied c.in_default.is));
    }

here_at : (c : In-Some) → IsFound c.args.name.now c.self.inside.slots.items c.in-Some.place.now
here_at c = found_in _ _ _ (sym (c.self.invariant.found c.args.name.now) ∙ sym c.get.ensures.value ∙ ap option_copied c.in-Some.is)

pub index-requires : goal.index-requires
index-requires c = omega (arith, (here_at (goal.at.index-requires c).In-Some).here.below, c.self.inside.slots.ok.0)

pub returns-in_default-index : goal.returns-in_default-index
returns-in_default-index c =
    let here = (here_at (goal.at.returns-in_default-index c).In-Some).here in
    absurd (no_free_slot c.self.inside.slots.items c.in-Some.place.now c.index.result.now here.entry here.below c.index.ensures here.there c.in_default-index.is)

pub index_mut-requires : goal.index_mut-requires
index_mut-requires c = omega (arith, (here_at (goal.at.index_mut-requires c).In-Some).here.below, c.self.inside.slots.ok.0)

written_at : (c : In-Some-index) → IsFound c.args.name.now c.self.inside.slots.items c.in-Some.place.now → (w : Agent) (x slot : Option (Entry Agent))
    → x ≡ get_or c.self.inside.slots.items c.in-Some.place.now x → slot ≡ option_map (λ (e : Entry Agent). (e.0, w)) x
    → let t = c.self.inside in
    IsRewritten c.args.name.now t.slots.items (set t.slots.items c.in-Some.place.now slot) t.places.entries t.live c.in-Some-index.entry.1 w
written_at c here w x slot =
    rewritten _ _ _ _ _ c.in-Some-index.entry (λ _. w) x slot c.self.invariant here
    (read_slot c.self.inside.slots.items _ c.index.result.now c.in-Some-index.entry here.here.below c.index.ensures c.in-Some-index.is)

pub invariant_of-self : goal.invariant_of-self
invariant_of-self c =
    let at = goal.at.invariant_of-self c in
    (written_at at.In-Some-index (here_at at.In-Some) c.other_agent-agent.result _ _ c.index_mut.ensures.value c.put.ensures).registry

pub returns : goal.returns
returns c =
    let at = goal.at.returns c in
    let all = written_at at.In-Some-index (here_at at.In-Some) c.other_agent-agent.result _ _ c.index_mut.ensures.value c.put.ensures in
    let change : Bool → Agent → Agent = λ kept. with_other kept c.args.total in
    let view = λ (kept : Bool). ap (λ (r : Registered Agent). map (changed c.args.name.now (change kept)) r.entries) c.self.view_is in
    elim c.other_agent-agent.ensures [
      | inl is ↦ record { kept = true; same = all.entries (change true) (sym is) ∙ view true }
      | inr is ↦ record { kept = false; same = all.entries (change false) (sym is) ∙ view false }
    ]
