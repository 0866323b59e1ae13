use Rattle.std.proofs.Common.{◌∙◌, ap, sym, subst, Bool, List}
use Rattle.std.specs.List.{list_any}
use Rattle.std.proofs.lemmas.List.{take_all}
use Rattle.std.proofs.lemmas.List.Folds.{list_any_at}
use Rattle.drf_role.specs.Path.{begins_with, same_path}
use Rattle.drf_role.specs.PathLaws.{same_path_itself}
use Rattle.drf_sorter.specs.declared.client.Client.{Client}
use Rattle.drf_sorter.specs.Lines.{AreLinesOf}
use Rattle.drf_sorter.specs.Plain.{plain_content}
use Rattle.drf_sorter.proofs.ChangeLemmas.{any_ranked}
use Rattle.drf_sorter.proofs.PlainLemmas.{has_node-is}
use Rattle.drf_sorter.proofs.plain.PlainSorterSorter.lines.Goals as goal

pub put_lines-requires-clause-client : goal.put_lines-requires-clause-client
put_lines-requires-clause-client c =
    let client = c.client-item.result in
    let own : Client → Bool = λ (x : Client). same_path x.path client.path in
    any_ranked (λ x. same_path x.path client.path) c.args.self.now.clients.items
    ∙ ap (list_any own) (sym c.deref-client-items.ensures.value)
    ∙ list_any_at own c.deref-client-items.result.now c.loop-client.client-index client c.loop-client-test.true
    (ap own (sym c.client-item.is) ∙ same_path_itself client.path)

pub returns : goal.returns
returns c =
    let s = c.args.self.now in
    subst (AreLinesOf (plain_content s)) (sym c.into_vec.ensures.lines) (record {
      each = c.loop-client.invariant.each;
      every = λ node some has.
          c.loop-client.invariant.every node some
          (ap (λ (cs : List Client). list_any (λ (x : Client). begins_with x.path node) cs)
          (take_all c.loop-client.client-index s.clients.items (rw c.deref-client-items.ensures.value at c.loop-client-test.false))
          ∙ has_node-is s node ∙ has);
      in_order = c.into_vec.ensures.in_order;
    })
