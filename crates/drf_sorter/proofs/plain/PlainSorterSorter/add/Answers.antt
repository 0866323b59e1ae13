use Rattle.std.proofs.Common.{◌++◌, ◌∷◌, [], List, true, map, ap, subst, sym, ◌∙◌}
use Rattle.std.specs.List.{IsDistinct}
use Rattle.drf_role.specs.Path.{same_path}
use Rattle.drf_sorter.specs.declared.client.Client.{Client}
use Rattle.drf_sorter.proofs.ChangeLemmas.{distinct_added, listed_added}
use Rattle.drf_sorter.proofs.plain.PlainSorterSorter.add.Goals as goal

pub invariant_of-self-2-clause-listed : goal.invariant_of-self-2-clause-listed
invariant_of-self-2-clause-listed c =
    let sorter = c.args.self.now in
    let x : Client = record { path = c.args.path; active = true; held = c.empty-held.result; count = 0 } in
    let items = c.push_reserved.ensures.items ∙ ap (λ (cs : List Client). cs ++ x ∷ []) c.in_ok-reserve.ensures.items in
    c.in_ok-insert.ensures.keys
    ∙ listed_added sorter.clients.items sorter.paths.keys x c.in_ok-key.key sorter.listed c.in_ok-key.ensures c.requires
    ∙ sym (ap (map (λ (x : Client). x.path)) items)

pub invariant_of-self-2-clause-distinct : goal.invariant_of-self-2-clause-distinct
invariant_of-self-2-clause-distinct c =
    let sorter = c.args.self.now in
    let x : Client = record { path = c.args.path; active = true; held = c.empty-held.result; count = 0 } in
    let items = c.push_reserved.ensures.items ∙ ap (λ (cs : List Client). cs ++ x ∷ []) c.in_ok-reserve.ensures.items in
    subst (λ (cs : List Client). IsDistinct same_path (map (λ (x : Client). x.path) cs)) (sym items)
    (distinct_added sorter.clients.items x sorter.distinct c.requires)
