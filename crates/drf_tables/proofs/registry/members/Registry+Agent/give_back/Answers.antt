use Rattle.std.proofs.Common.{◌≡◌, List, Option, None, Some, true, false, get_or, length, map, set, take, inl, inr, sym, ap, ◌∙◌, subst, arith}
use Rattle.std.specs.Option.{option_copied, option_map}
use Rattle.drf_role.specs.TextLaws.{test_from_same}
use Rattle.drf_tables.proofs.tables.Names.{Resource, each_at, filled, Text, same_text, changed, Registered, Agent}
use Rattle.drf_tables.specs.registry.Changing.{freed, CanGiveBack, CanTakeBack}
use Rattle.drf_tables.proofs.registry.Changes.{IsRewritten, rewritten, unchanged_slots}
use Rattle.drf_tables.proofs.registry.Slots.{Entry, IsFound, filled_at, found_in, named_at, no_free_slot, read_slot}
use Rattle.drf_tables.proofs.registry.members.Registry+Agent.give_back.Goals.{In-Some, In-Some-index}
use Rattle.drf_tables.proofs.registry.members.Registry+Agent.give_back.Goals as goal

pub returns-in_default : goal.returns-in_default
returns-in_default c =
    let name = c.args.name.now in
    let change = freed false c.args.part.now in
    record {
      kept = false;
      same = subst (λ (r : Registered Agent). r.entries ≡ map (changed name change) r.entries) c.self.view_is (unchanged_slots name change c.self.inside.slots.items
          (sym (c.self.invariant.found name) ∙ sym c.get.ensures.value ∙ ap option_copied c.in_default.is));
    }

here_at : (c : In-Some) → IsFound c.args.name.now c.self.inside.slots.items c.in-Some.place.now
here_at c = found_in _ _ _ (sym (c.self.invariant.found c.args.name.now) ∙ sym c.get.ensures.value ∙ ap option_copied c.in-Some.is)

pub index-requires : goal.index-requires
index-requires c = omega (arith, (here_at (goal.at.index-requires c).In-Some).here.below, c.self.inside.slots.ok.0)

pub returns-in_default-index : goal.returns-in_default-index
returns-in_default-index c =
    let here = (here_at (goal.at.returns-in_default-index c).In-Some).here in
    absurd (no_free_slot c.self.inside.slots.items c.in-Some.place.now c.index.result.now here.entry here.below c.index.ensures here.there c.in_default-index.is)

there_at : (c : In-Some-index) → IsFound c.args.name.now c.self.inside.slots.items c.in-Some.place.now
    → get_or c.self.inside.slots.items c.in-Some.place.now None ≡ Some c.in-Some-index.entry
there_at c at = read_slot c.self.inside.slots.items _ c.index.result.now c.in-Some-index.entry at.here.below c.index.ensures c.in-Some-index.is

pub freed-free-requires : goal.freed-free-requires
freed-free-requires c =
    let at = goal.at.freed-free-requires c in
    let slots = c.self.inside.slots.items in
    let name : Text = c.args.name.now in
    let here = here_at at.In-Some in
    let e : Entry Agent = c.in-Some-index.entry in
    let there = there_at at.In-Some-index here in
    let named : same_text e.0 name ≡ true = test_from_same e.0 name (named_at name slots c.in-Some.place.now e here there) in
    let part : List Resource = c.args.part.now in
    each_at (λ (e : Entry Agent). same_text e.0 name ≡ true → CanTakeBack part e.1.free) (filled slots) (length (filled (take c.in-Some.place.now slots))) e
    (subst (λ (r : Registered Agent). CanGiveBack name part r.entries) (sym c.self.view_is) c.requires) (filled_at slots _ e there) named

pub index_mut-requires : goal.index_mut-requires
index_mut-requires c = omega (arith, (here_at (goal.at.index_mut-requires c).In-Some).here.below, c.self.inside.slots.ok.0)

written_at : (c : In-Some-index) → IsFound c.args.name.now c.self.inside.slots.items c.in-Some.place.now → (free : Option (List Resource))
    (x slot : Option (Entry Agent)) → x ≡ get_or c.self.inside.slots.items c.in-Some.place.now x
    → slot ≡ option_map (λ (e : Entry Agent). (e.0, record e.1 { free = free })) x
    → let t = c.self.inside in let old = c.in-Some-index.entry.1 in
    IsRewritten c.args.name.now t.slots.items (set t.slots.items c.in-Some.place.now slot) t.places.entries t.live old (record old { free = free })
written_at c here free x slot = rewritten _ _ _ _ _ c.in-Some-index.entry (λ a. record a { free = free }) x slot c.self.invariant here (there_at c here)

pub invariant_of-self : goal.invariant_of-self
invariant_of-self c =
    let at = goal.at.invariant_of-self c in
    (written_at at.In-Some-index (here_at at.In-Some) c.freed-free.result _ _ c.index_mut.ensures.value c.put_free.ensures).registry

pub returns : goal.returns
returns c =
    let at = goal.at.returns c in
    let all = written_at at.In-Some-index (here_at at.In-Some) c.freed-free.result _ _ c.index_mut.ensures.value c.put_free.ensures in
    let old : Agent = c.in-Some-index.entry.1 in
    let part : List Resource = c.args.part.now in
    let view = ap (λ (r : Registered Agent). r.entries) c.self.view_is in
    elim c.freed-free.ensures [
      | inl is ↦ record {
        kept = true;
        same = all.entries (freed true part) (λ i. record old { free = sym is i }) ∙ ap (map (changed c.args.name.now (freed true part))) view;
      }
      | inr is ↦ record {
        kept = false;
        same = all.entries (freed false part) (λ i. record old { free = sym is i }) ∙ ap (map (changed c.args.name.now (freed false part))) view;
      }
    ]
