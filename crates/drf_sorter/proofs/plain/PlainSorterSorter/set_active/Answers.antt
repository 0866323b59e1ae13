use Rattle.std.proofs.Common.{refl, ap}
use Rattle.drf_sorter.specs.declared.client.Client.{Client}
use Rattle.drf_sorter.specs.Content.{activated}
use Rattle.drf_sorter.proofs.ChangeLemmas.{place-found, known-found, changed_one, with_clients}
use Rattle.drf_sorter.proofs.plain.PlainSorterSorter.set_active.Goals as goal

pub returns-in-Some-clause-content : goal.returns-in-Some-clause-content
returns-in-Some-clause-content c =
    let sorter = c.args.self.now in
    let clients = sorter.clients.items in
    let x = c.index_mut.result.now in
    let y : Client = record x { active = c.args.active } in
    let found = place-found clients c.args.path.now c.in-Some.at x c.in-Some.ensures c.index_mut.ensures.value in
    ap (with_clients sorter)
    (changed_one c.args.path.now (activated c.args.active) clients c.in-Some.at x y sorter.distinct found refl)

pub returns-in_default-clause-content : goal.returns-in_default-clause-content
returns-in_default-clause-content c =
    absurd (known-found c.args.self.now.clients.items c.args.path.now c.requires c.in_default.ensures)
