use Rattle.std.proofs.Common.{not, map, ap, sym, ◌∙◌}
use Rattle.drf_role.specs.Path.{same_path}
use Rattle.drf_sorter.specs.declared.client.Client.{Client}
use Rattle.drf_sorter.specs.Plain.{ranked}
use Rattle.drf_sorter.proofs.ChangeLemmas.{known-found, removed_one, listed_removed, with_clients}
use Rattle.drf_sorter.proofs.OrderLemmas.{distinct_filter}
use Rattle.drf_sorter.proofs.PlainLemmas.{filter-map}
use Rattle.drf_sorter.proofs.plain.PlainSorterSorter.remove.Goals as goal

pub invariant_of-self-clause-listed : goal.invariant_of-self-clause-listed
invariant_of-self-clause-listed c =
    let sorter = c.args.self.now in
    c.shift_remove_index.ensures.keys
    ∙ listed_removed sorter.clients.items sorter.paths.keys c.in-Some.at sorter.listed
    ∙ sym (ap (map (λ (x : Client). x.path)) c.remove.ensures.items)

pub invariant_of-self-clause-distinct : goal.invariant_of-self-clause-distinct
invariant_of-self-clause-distinct c =
    let sorter = c.args.self.now in
    let clients = sorter.clients.items in
    let path = c.args.path.now in
    let others = λ (x : Client). not (same_path x.path path) in
    let kept = removed_one clients path c.in-Some.at c.remove.result sorter.distinct c.in-Some.ensures c.remove.ensures.value in
    rw (c.remove.ensures.items ∙ kept) (distinct_filter (λ (x : Client). x.path) others clients sorter.distinct)

pub returns-in-Some-clause-content : goal.returns-in-Some-clause-content
returns-in-Some-clause-content c =
    let sorter = c.args.self.now in
    let clients = sorter.clients.items in
    let path = c.args.path.now in
    let kept = removed_one clients path c.in-Some.at c.remove.result sorter.distinct c.in-Some.ensures c.remove.ensures.value in
    ap (with_clients sorter)
    (ap (map ranked) (c.remove.ensures.items ∙ kept) ∙ sym (filter-map (λ r. not (same_path r.path path)) ranked clients))

pub returns-in_default-clause-content : goal.returns-in_default-clause-content
returns-in_default-clause-content c =
    absurd (known-found c.args.self.now.clients.items c.args.path.now c.requires c.in_default.ensures)
