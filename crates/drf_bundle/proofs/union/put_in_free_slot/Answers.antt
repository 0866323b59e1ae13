use Rattle.std.proofs.Common.{List, sym, ap, ◌∙◌}
use Rattle.std.specs.List.{insert}
use Rattle.drf_bundle.specs.declared.resource.Resource.{Resource}
use Rattle.drf_bundle.proofs.SearchLemmas.{merged_in_free_slot}
use Rattle.drf_bundle.proofs.union.put_in_free_slot.Goals as goal

pub returns-clause-ok : goal.returns-clause-ok
returns-clause-ok c =
    let rs = c.args.resources.now.items in
    let r = c.args.resource in (
      c.in_ok-insert.ensures.items ∙ ap (λ (l : List Resource). insert l c.args.at r) c.in_ok-reserve.ensures.items ∙ sym (merged_in_free_slot rs r c.args.at c.requires.free_slot),
      c.in_ok-add_scalar.ensures.ok,
    )
