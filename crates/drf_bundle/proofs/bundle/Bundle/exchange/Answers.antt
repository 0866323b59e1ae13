use Rattle.std.proofs.Common.{◌≡◌, ◌∙◌, List}
use Rattle.drf_bundle.specs.Bundle.{rest}
use Rattle.drf_bundle.specs.laws.FitLaws.{free_from_refusal, fits_from_free, join_of_free}
use Rattle.drf_bundle.proofs.theorems.RestLaws.{bundle-rest}
use Rattle.drf_bundle.specs.declared.resource.Resource.{Resource}
use Rattle.drf_bundle.proofs.bundle.Bundle.exchange.Goals as goal

pub merged-requires-clause-fits : goal.merged-requires-clause-fits
merged-requires-clause-fits c =
    let left : List Resource = rest c.args.self.now c.args.old.now in
    let is_left : c.in_ok-left.left ≡ left = c.in_ok-left.ensures ∙ (λ i. rest (c.entries.ensures.value i) (c.entries-2.ensures.value i)) in
    rw (c.entries-3.ensures.value ∙ is_left, c.entries-4.ensures.value)
    (fits_from_free left c.args.new.now (bundle-rest c.args.self.now c.args.old.now c.entries.ensures.bundle) c.entries-4.ensures.bundle (free_from_refusal left c.args.new.now c.requires))

pub merged-requires-clause-bundle : goal.merged-requires-clause-bundle
merged-requires-clause-bundle c =
    let left : List Resource = rest c.args.self.now c.args.old.now in
    let is_left : c.in_ok-left.left ≡ left = c.in_ok-left.ensures ∙ (λ i. rest (c.entries.ensures.value i) (c.entries-2.ensures.value i)) in
    rw (c.entries-3.ensures.value ∙ is_left, c.entries-4.ensures.value)
    (join_of_free left c.args.new.now (bundle-rest c.args.self.now c.args.old.now c.entries.ensures.bundle) c.entries-4.ensures.bundle (free_from_refusal left c.args.new.now c.requires)).bundle
