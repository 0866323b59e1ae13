use Rattle.std.proofs.Common.{◌≡◌, Option, refl, sym, ap, ◌∙◌, get_or, map, set, arith}
use Rattle.std.specs.Global.{Vec}
use Rattle.std.specs.Option.{option_copied, option_map}
use Rattle.drf_tables.proofs.tables.Names.{ClientRow, Registered, changed}
use Rattle.drf_tables.proofs.registry.Changes.{IsRewritten, rewritten, unchanged_slots}
use Rattle.drf_tables.proofs.registry.Slots.{Entry, IsFound, found_in}
use Rattle.drf_tables.proofs.registry.members.put_clients.Goals.{In-Some}
use Rattle.drf_tables.proofs.registry.members.put_clients.Goals as goal

here_at : (c : In-Some) → IsFound c.args.framework.now c.frameworks.inside.slots.items c.in-Some.place.now
here_at c = found_in _ _ _ (sym (c.frameworks.invariant.found c.args.framework.now) ∙ sym c.get.ensures.value ∙ ap option_copied c.in-Some.is)

pub index_mut-requires : goal.index_mut-requires
index_mut-requires c = omega (arith, (here_at (goal.at.index_mut-requires c).In-Some).here.below, c.frameworks.inside.slots.ok.0)

written_at : (c : In-Some) (change : Vec ClientRow → Vec ClientRow) (x slot : Option (Entry (Vec ClientRow)))
    → x ≡ get_or c.frameworks.inside.slots.items c.in-Some.place.now x → slot ≡ option_map (λ (e : Entry (Vec ClientRow)). (e.0, change e.1)) x
    → let t = c.frameworks.inside in let old = (here_at c).here.entry.1 in
    IsRewritten c.args.framework.now t.slots.items (set t.slots.items c.in-Some.place.now slot) t.places.entries t.live old (change old)
written_at c change x slot = rewritten _ _ _ _ _ _ change x slot c.frameworks.invariant (here_at c) (here_at c).here.there

pub invariant_of-frameworks : goal.invariant_of-frameworks
invariant_of-frameworks c =
    (written_at (goal.at.invariant_of-frameworks c).In-Some (λ _. c.args.clients) _ _ c.index_mut.ensures.value c.put_clients_in.ensures).registry

pub returns-in-Some : goal.returns-in-Some
returns-in-Some c =
    let change : Vec ClientRow → Vec ClientRow = λ _. c.args.clients in
    (written_at (goal.at.returns-in-Some c).In-Some change _ _ c.index_mut.ensures.value c.put_clients_in.ensures).entries change refl
    ∙ ap (λ (r : Registered (Vec ClientRow)). map (changed c.args.framework.now change) r.entries) c.frameworks.view_is

pub returns-in_default : goal.returns-in_default
returns-in_default c =
    let change : Vec ClientRow → Vec ClientRow = λ _. c.args.clients in
    ap (λ (r : Registered (Vec ClientRow)). r.entries) (sym c.frameworks.view_is)
    ∙ unchanged_slots c.args.framework.now change c.frameworks.inside.slots.items
    (sym (c.frameworks.invariant.found c.args.framework.now) ∙ sym c.get.ensures.value ∙ ap option_copied c.in_default.is)
    ∙ ap (λ (r : Registered (Vec ClientRow)). map (changed c.args.framework.now change) r.entries) c.frameworks.view_is
