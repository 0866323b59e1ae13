use Rattle.std.proofs.Common.{rules}
use Rattle.std.specs.Cmp.Lexicographic.{slice_cmp}
use Rattle.std.specs.Ordering.{nat_cmp}
use Rattle.std.proofs.lemmas.Fn.{always_returns_same}
use Rattle.drf_bundle.specs.declared.resource.Resource.{Resource}
use Rattle.drf_bundle.proofs.FirstLemmas.{name_searched}
use Rattle.drf_bundle.proofs.union.free_slot_of_name.Goals as goal

pub returns : goal.returns
returns c =
    let name = c.args.label.now in
    let facts = c.binary_search_by.ensures in
    let by_name = facts.position (λ (r : Resource). slice_cmp nat_cmp r.label name) (always_returns_same _ _ _ (λ a r g called. (search rules, search rules))) in
    rw c.err.ensures.value (name_searched c.args.resources.now name c.requires c.binary_search_by.result facts.bound by_name)
