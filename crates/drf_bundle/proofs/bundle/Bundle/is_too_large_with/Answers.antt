use Rattle.std.proofs.Common.{◌∙◌, ap, rules, tests}
use Rattle.std.specs.List.{list_any}
use Rattle.std.proofs.lemmas.Iterator.{YieldsList-from_slice}
use Rattle.std.proofs.lemmas.Iterator.Search.{any_from_yields_List}
use Rattle.drf_bundle.specs.Bundle.{exceeds}
use Rattle.drf_bundle.specs.declared.resource.Resource.{Resource}
use Rattle.drf_bundle.proofs.bundle.Bundle.is_too_large_with.Goals as goal

pub returns : goal.returns
returns c =
    any_from_yields_List (λ (r : Resource). exceeds c.args.self.now c.args.other.now r.label) _ _ c.any.result c.any.ensures.ran (YieldsList-from_slice c.entries.result.now c.iter.ensures.rest) (λ x b q k. search (rules, tests))
    ∙ ap (list_any (λ (r : Resource). exceeds c.args.self.now c.args.other.now r.label)) c.entries.ensures.value
