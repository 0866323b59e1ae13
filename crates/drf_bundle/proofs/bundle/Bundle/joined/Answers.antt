use Rattle.std.proofs.Common.{◌≡◌, List, [], Some, sym, ap, ◌∙◌, subst}
use Rattle.std.proofs.lemmas.Result.{IfOk-weaker}
use Rattle.drf_bundle.specs.Bundle.{join}
use Rattle.drf_bundle.specs.laws.BundleLaws.{neutral}
use Rattle.drf_bundle.specs.laws.FitLaws.{free_from_refusal, fits_from_free, join_of_free}
use Rattle.drf_bundle.specs.declared.resource.Resource.{Resource}
use Rattle.drf_bundle.proofs.bundle.Bundle.joined.Goals as goal

pub merged-requires-clause-fits : goal.merged-requires-clause-fits
merged-requires-clause-fits c =
    let a = c.args.self.now in
    let b = c.args.other.now in
    rw (c.entries.ensures.value, c.entries-2.ensures.value)
    (fits_from_free a b c.entries.ensures.bundle c.entries-2.ensures.bundle (free_from_refusal a b c.requires))

pub merged-requires-clause-bundle : goal.merged-requires-clause-bundle
merged-requires-clause-bundle c =
    let a = c.args.self.now in
    let b = c.args.other.now in
    rw (c.entries.ensures.value, c.entries-2.ensures.value)
    (join_of_free a b c.entries.ensures.bundle c.entries-2.ensures.bundle (free_from_refusal a b c.requires)).bundle

pub returns-then-is_empty-2 : goal.returns-then-is_empty-2
returns-then-is_empty-2 c =
    let a = c.args.self.now in
    let none : c.args.other.now ≡ [] = c.is_empty-2.ensures.is_empty.0 c.if-is_empty-2.true in
    IfOk-weaker c.copy-then-is_empty-2.result (λ both. both ≡ a) (λ both. join a c.args.other.now ≡ Some both)
    (λ both same. subst (λ (b : List Resource). join a b ≡ Some both) (sym none)
    (neutral a c.is_empty.ensures.given ∙ ap Some (sym same))) c.copy-then-is_empty-2.ensures.same
