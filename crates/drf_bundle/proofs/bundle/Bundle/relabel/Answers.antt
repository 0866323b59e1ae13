use Rattle.std.proofs.Common.{ap, ◌∙◌, take_all, List}
use Rattle.drf_bundle.specs.Bundle.{relabel}
use Rattle.drf_bundle.proofs.theorems.PartLaws.{bundle-relabel}
use Rattle.drf_bundle.specs.declared.resource.Resource.{Resource}
use Rattle.drf_bundle.proofs.bundle.Bundle.relabel.Goals as goal

pub new-requires : goal.new-requires
new-requires c =
    let role = c.args.role.now in
    let all = c.loop-resource.invariant ∙ ap (λ (rs : List Resource). relabel role rs) (take_all _ _ c.loop-resource-test.false ∙ c.entries-resource-items.ensures.value) in
    rw all (bundle-relabel role c.recall.ensures.right c.recall.ensures.parts c.args.self.now c.requires c.entries-resource-items.ensures.bundle)
