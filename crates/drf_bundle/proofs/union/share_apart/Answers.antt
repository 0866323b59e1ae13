use Rattle.std.proofs.Common.{◌≡◌, ◌&&◌, Bool, true, false, not, sym, ap, ◌∙◌}
use Rattle.std.specs.Ordering.{is_ne}
use Rattle.drf_bundle.specs.Value.{share_members}
use Rattle.drf_bundle.specs.Bundle.{key_of, same_key}
use Rattle.drf_bundle.proofs.SearchLemmas.{ne_is}
use Rattle.drf_bundle.proofs.union.share_apart.Goals as goal

pub returns-then-is_ne : goal.returns-then-is_ne
returns-then-is_ne c =
    let other = c.args.other.now in
    let resource = c.args.resource.now in
    let apart : true ≡ not (same_key (key_of other) (key_of resource)) = sym c.if-is_ne.true ∙ c.is_ne.ensures ∙ ap is_ne c.cmp_key.ensures ∙ ne_is (key_of other) (key_of resource) in
    c.clashes_with.ensures ∙ ap (λ (b : Bool). b && share_members other.value resource.value) apart

pub returns-else-is_ne : goal.returns-else-is_ne
returns-else-is_ne c =
    let other = c.args.other.now in
    let resource = c.args.resource.now in
    let same : false ≡ not (same_key (key_of other) (key_of resource)) = sym c.if-is_ne.false ∙ c.is_ne.ensures ∙ ap is_ne c.cmp_key.ensures ∙ ne_is (key_of other) (key_of resource) in
    c.if-is_ne.false ∙ ap (λ (b : Bool). b && share_members other.value resource.value) same
