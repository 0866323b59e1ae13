use Rattle.std.proofs.Common.{◌≡◌, Option, refl, sym, ap, ◌∙◌, get_or, length, map, set, subst, take, arith}
use Rattle.std.specs.Global.{Vec}
use Rattle.std.specs.Option.{option_copied, option_map}
use Rattle.drf_tables.proofs.tables.Names.{Client, counted, count_offer, holding_of_offer, each_at, CanCount, CanCountAll, ClientRow, Registered, filled, framework_row, framework_rows, with_each}
use Rattle.drf_tables.proofs.registry.Changes.{IsRewritten, rewritten, unchanged_slots}
use Rattle.drf_tables.proofs.registry.Entries.{row_at, rows-with_each}
use Rattle.drf_tables.proofs.registry.Slots.{Entry, IsFound, filled_at, found_in, read_slot}
use Rattle.drf_tables.proofs.cycle.count_offer.Goals.{In-Some}
use Rattle.drf_tables.proofs.cycle.count_offer.Goals as goal

here_at : (c : In-Some) → IsFound c.args.offer.now.framework c.frameworks.inside.slots.items c.in-Some.place.now
here_at c = found_in _ _ _ (sym (c.frameworks.invariant.found c.args.offer.now.framework) ∙ sym c.get.ensures.value ∙ ap option_copied c.in-Some.is)

pub index_mut-requires : goal.index_mut-requires
index_mut-requires c = omega (arith, (here_at (goal.at.index_mut-requires c).In-Some).here.below, c.frameworks.inside.slots.ok.0)

pub count_in-requires : goal.count_in-requires
count_in-requires c = λ e is.
    let slots = c.frameworks.inside.slots.items in
    let place = c.in-Some.place.now in
    let there = read_slot slots place _ e (here_at (goal.at.count_in-requires c).In-Some).here.below c.index_mut.ensures.value is in
    each_at (λ f. CanCount 1 f.clients) (framework_rows (filled slots)) (length (filled (take place slots))) (framework_row e)
    (subst (λ (r : Registered (Vec ClientRow)). CanCountAll 1 (framework_rows r.entries)) (sym c.frameworks.view_is) c.requires)
    (row_at (filled slots) _ e (filled_at slots place e there))

written_at : (c : In-Some) (x slot : Option (Entry (Vec ClientRow))) → x ≡ get_or c.frameworks.inside.slots.items c.in-Some.place.now x
    → let change = with_each (counted (holding_of_offer c.args.offer.now).client) in
    slot ≡ option_map (λ (e : Entry (Vec ClientRow)). (e.0, change e.1)) x
    → let t = c.frameworks.inside in let old = (here_at c).here.entry.1 in
    IsRewritten c.args.offer.now.framework t.slots.items (set t.slots.items c.in-Some.place.now slot) t.places.entries t.live old (change old)
written_at c x slot = rewritten _ _ _ _ _ _ (with_each (counted (holding_of_offer c.args.offer.now).client)) x slot c.frameworks.invariant (here_at c) (here_at c).here.there

pub invariant_of-frameworks : goal.invariant_of-frameworks
invariant_of-frameworks c = (written_at (goal.at.invariant_of-frameworks c).In-Some _ _ c.index_mut.ensures.value c.count_in.ensures).registry

pub returns-in-Some : goal.returns-in-Some
returns-in-Some c =
    let client : Client = (holding_of_offer c.args.offer.now).client in
    ap framework_rows ((written_at (goal.at.returns-in-Some c).In-Some _ _ c.index_mut.ensures.value c.count_in.ensures).entries (with_each (counted client)) refl)
    ∙ rows-with_each client.framework (counted client) _
    ∙ ap (λ (r : Registered (Vec ClientRow)). map (count_offer client) (framework_rows r.entries)) c.frameworks.view_is

pub returns-in_default : goal.returns-in_default
returns-in_default c =
    let client : Client = (holding_of_offer c.args.offer.now).client in
    ap (λ (r : Registered (Vec ClientRow)). framework_rows r.entries) (sym c.frameworks.view_is)
    ∙ ap framework_rows (unchanged_slots client.framework (with_each (counted client)) c.frameworks.inside.slots.items
    (sym (c.frameworks.invariant.found client.framework) ∙ sym c.get.ensures.value ∙ ap option_copied c.in_default.is))
    ∙ rows-with_each client.framework (counted client) _
    ∙ ap (λ (r : Registered (Vec ClientRow)). map (count_offer client) (framework_rows r.entries)) c.frameworks.view_is
