use Rattle.std.proofs.Common.{rules}
use Rattle.std.proofs.lemmas.Fn.{always_returns_same}
use Rattle.drf_bundle.specs.Bundle.{Key, key_of, key_cmp, reservation}
use Rattle.drf_bundle.specs.declared.resource.Resource.{Resource}
use Rattle.drf_bundle.proofs.SearchLemmas.{searched}
use Rattle.drf_bundle.proofs.parts.place.Goals as goal

pub returns : goal.returns
returns c =
    let key : Key = (c.args.label.now, reservation c.args.role.now) in
    let facts = c.binary_search_by.ensures in
    let by_key = facts.position (λ (r : Resource). key_cmp (key_of r) key) (always_returns_same _ _ _ (λ a r g called. (search rules, search rules))) in
    searched c.args.resources.now key c.requires c.binary_search_by.result facts.bound by_key
