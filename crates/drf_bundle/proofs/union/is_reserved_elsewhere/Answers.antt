use Rattle.std.proofs.Common.{◌&&◌, Bool, ap, ◌∙◌, not, rules, tests}
use Rattle.std.specs.List.{list_any}
use Rattle.std.proofs.lemmas.Iterator.{YieldsList-from_slice}
use Rattle.std.proofs.lemmas.Iterator.Search.{any_from_yields_List}
use Rattle.drf_role.specs.Text.{same_text}
use Rattle.drf_bundle.specs.Value.{share_members}
use Rattle.drf_bundle.specs.Bundle.{key_of, same_key}
use Rattle.drf_bundle.specs.declared.resource.Resource.{Resource}
use Rattle.drf_bundle.proofs.NameLemmas.{any-filter}
use Rattle.drf_bundle.proofs.union.is_reserved_elsewhere.Goals as goal

pub returns : goal.returns
returns c =
    let r = c.args.resource.now in
    let test : Resource → Bool = λ s. not (same_key (key_of s) (key_of r)) && share_members s.value r.value in
    any_from_yields_List test _ _ c.any.result c.any.ensures.ran (YieldsList-from_slice c.named.result.now c.iter.ensures.rest) (λ x b q k. search (rules, tests))
    ∙ ap (list_any test) c.named.ensures ∙ any-filter (λ (s : Resource). same_text s.label r.label) test c.args.resources.now
