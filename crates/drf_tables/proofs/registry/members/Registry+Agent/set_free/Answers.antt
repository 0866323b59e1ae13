use Rattle.std.proofs.Common.{◌≡◌, Option, Some, get_or, map, set, sym, ap, ◌∙◌, subst, arith}
use Rattle.std.specs.Map.{lookup}
use Rattle.std.specs.Option.{option_copied, option_map}
use Rattle.drf_tables.proofs.tables.Names.{filled, same_text, changed, Registered, Agent}
use Rattle.drf_tables.proofs.registry.Changes.{IsRewritten, rewritten, unchanged_slots}
use Rattle.drf_tables.proofs.registry.Slots.{Entry, IsFound, found_in, value_found}
use Rattle.drf_tables.proofs.registry.members.Registry+Agent.set_free.Goals.{In-Some}
use Rattle.drf_tables.proofs.registry.members.Registry+Agent.set_free.Goals as goal

pub returns-in_default : goal.returns-in_default
returns-in_default c = λ change a known is.
    let name = c.args.name.now in
    subst (λ (r : Registered Agent). r.entries ≡ map (changed name change) r.entries) c.self.view_is (unchanged_slots name change c.self.inside.slots.items
    (sym (c.self.invariant.found name) ∙ sym c.get.ensures.value ∙ ap option_copied c.in_default.is))

here_at : (c : In-Some) → IsFound c.args.name.now c.self.inside.slots.items c.in-Some.place.now
here_at c = found_in _ _ _ (sym (c.self.invariant.found c.args.name.now) ∙ sym c.get.ensures.value ∙ ap option_copied c.in-Some.is)

pub index_mut-requires : goal.index_mut-requires
index_mut-requires c = omega (arith, (here_at (goal.at.index_mut-requires c).In-Some).here.below, c.self.inside.slots.ok.0)

written_at : (c : In-Some) (x slot : Option (Entry Agent)) → x ≡ get_or c.self.inside.slots.items c.in-Some.place.now x
    → slot ≡ option_map (λ (e : Entry Agent). (e.0, record e.1 { free = c.args.free })) x
    → let t = c.self.inside in let old = (here_at c).here.entry.1 in
    IsRewritten c.args.name.now t.slots.items (set t.slots.items c.in-Some.place.now slot) t.places.entries t.live old (record old { free = c.args.free })
written_at c x slot = rewritten _ _ _ _ _ _ (λ a. record a { free = c.args.free }) x slot c.self.invariant (here_at c) (here_at c).here.there

pub invariant_of-self : goal.invariant_of-self
invariant_of-self c = (written_at (goal.at.invariant_of-self c).In-Some _ _ c.index_mut.ensures.value c.put_free.ensures).registry

pub returns : goal.returns
returns c = λ change a known is.
    let b = (goal.at.returns c).In-Some in
    let here = (here_at b).here in
    let e : Entry Agent = here.entry in
    let at : lookup (same_text c.args.name.now) (filled c.self.inside.slots.items) ≡ Some a =
    ap (λ (r : Registered Agent). lookup (same_text c.args.name.now) r.entries) c.self.view_is ∙ known in
    let its = value_found c.args.name.now c.self.inside.slots.items _ e c.self.invariant.apart (here_at b) here.there in
    let same : e.1 ≡ a = cc in
    (written_at b _ _ c.index_mut.ensures.value c.put_free.ensures).entries change (ap change same ∙ is ∙ (λ i. record (sym same i) { free = c.args.free }))
    ∙ ap (λ (r : Registered Agent). map (changed c.args.name.now change) r.entries) c.self.view_is
