use Rattle.std.proofs.Common.{◌≡◌, true, false, refl, sym, ap, ◌∙◌, take_all, List}
use Rattle.std.proofs.lemmas.Bool.{false≢true}
use Rattle.std.proofs.lemmas.List.Recursion.{and_at}
use Rattle.drf_bundle.specs.Bundle.{covers, covers_one}
use Rattle.drf_bundle.proofs.theorems.BundleLaws.{covers_exact}
use Rattle.drf_bundle.specs.declared.resource.Resource.{Resource}
use Rattle.drf_bundle.proofs.bundle.BundleAlgebra.covers.Goals as goal

pub returns-then-not-covers_one-clause-covers : goal.returns-then-not-covers_one-clause-covers
returns-then-not-covers_one-clause-covers c =
    let whole = c.args.self.now in
    let items = c.entries-resource-items.result.now in
    let same = c.entries-resource-items.ensures.value in
    let is_part = c.entries-resource-items.ensures.bundle in
    let none : covers_one whole c.resource-item.result ≡ false = ap (λ (rs : List Resource). covers_one rs c.resource-item.result) (sym c.entries-whole.ensures.value) ∙ sym c.covers_one.ensures ∙ c.if-not-covers_one.true in (
      λ e. absurd (false≢true e),
      λ some.
          let all = (covers_exact whole c.args.part.now c.entries-whole.ensures.bundle is_part).1 some in
          let one = and_at (covers whole) (covers_one whole) refl (λ _ _. refl) items c.loop-i.i c.resource-item.result c.loop-i-test.true (ap (covers whole) same ∙ all) in
          absurd (false≢true (sym none ∙ ap (covers_one whole) c.resource-item.is ∙ one)),
    )

pub returns-clause-covers : goal.returns-clause-covers
returns-clause-covers c =
    let whole = c.args.self.now in
    let is_part = c.entries-resource-items.ensures.bundle in
    let all : covers whole c.args.part.now ≡ true =
    ap (covers whole) (sym (take_all _ _ c.loop-i-test.false ∙ c.entries-resource-items.ensures.value)) ∙ c.loop-i.invariant in
    (λ e. (covers_exact whole c.args.part.now c.entries-whole.ensures.bundle is_part).0 all, λ some. refl)
