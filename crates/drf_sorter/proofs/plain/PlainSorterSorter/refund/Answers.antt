use Rattle.std.proofs.Common.{ap}
use Rattle.drf_sorter.specs.Content.{Holds, refunded}
use Rattle.drf_sorter.proofs.ChangeLemmas.{place-found, at_found, known-found, changed_one, with_clients}
use Rattle.drf_sorter.proofs.plain.PlainSorterSorter.refund.Goals as goal

pub refund-requires : goal.refund-requires
refund-requires c =
    let clients = c.args.self.now.clients.items in
    let x = c.index_mut.result.now in
    let found = place-found clients c.args.path.now c.in-Some.at x c.in-Some.ensures c.index_mut.ensures.value in
    at_found (Holds c.args.quantities.now) clients c.args.path.now c.in-Some.at x found c.requires.held

pub returns-in-Some-clause-content : goal.returns-in-Some-clause-content
returns-in-Some-clause-content c =
    let sorter = c.args.self.now in
    let clients = sorter.clients.items in
    let x = c.index_mut.result.now in
    let found = place-found clients c.args.path.now c.in-Some.at x c.in-Some.ensures c.index_mut.ensures.value in
    ap (with_clients sorter)
    (changed_one c.args.path.now (refunded c.args.quantities.now) clients c.in-Some.at x c.refund.new.self sorter.distinct found
    c.refund.ensures.client)

pub returns-in_default-clause-content : goal.returns-in_default-clause-content
returns-in_default-clause-content c =
    absurd (known-found c.args.self.now.clients.items c.args.path.now c.requires.known c.in_default.ensures)
