use Rattle.std.proofs.Common.{ap, arith}
use Rattle.drf_sorter.specs.Content.{charged}
use Rattle.drf_sorter.proofs.ChangeLemmas.{place-found, changed_in_sum, known-found, changed_one, with_clients}
use Rattle.drf_sorter.proofs.plain.PlainSorterSorter.charge.Goals as goal

pub charge-requires-clause-held : goal.charge-requires-clause-held
charge-requires-clause-held c label =
    let clients = c.args.self.now.clients.items in
    let x = c.index_mut.result.now in
    let found = place-found clients c.args.path.now c.in-Some.at x c.in-Some.ensures c.index_mut.ensures.value in
    let part =
    changed_in_sum c.args.path.now (charged c.args.quantities.now c.args.offers) (λ r. r.held label) clients c.in-Some.at x found in
    omega (arith, part, c.requires.sound.held label, c.requires.sound.total label)

pub charge-requires-clause-count : goal.charge-requires-clause-count
charge-requires-clause-count c =
    let clients = c.args.self.now.clients.items in
    let x = c.index_mut.result.now in
    let found = place-found clients c.args.path.now c.in-Some.at x c.in-Some.ensures c.index_mut.ensures.value in
    let part =
    changed_in_sum c.args.path.now (charged c.args.quantities.now c.args.offers) (λ r. r.count) clients c.in-Some.at x found in
    omega (arith, part, c.requires.sound.count)

pub returns-in_ok-charge-clause-ok : goal.returns-in_ok-charge-clause-ok
returns-in_ok-charge-clause-ok c =
    let sorter = c.args.self.now in
    let clients = sorter.clients.items in
    let x = c.index_mut.result.now in
    let found = place-found clients c.args.path.now c.in-Some.at x c.in-Some.ensures c.index_mut.ensures.value in
    ap (with_clients sorter)
    (changed_one c.args.path.now (charged c.args.quantities.now c.args.offers) clients c.in-Some.at x c.charge.new.self sorter.distinct found
    c.in_ok-charge.ensures.ok)

pub returns-in_default-clause-ok : goal.returns-in_default-clause-ok
returns-in_default-clause-ok c =
    absurd (known-found c.args.self.now.clients.items c.args.path.now c.requires.known c.in_default.ensures)
