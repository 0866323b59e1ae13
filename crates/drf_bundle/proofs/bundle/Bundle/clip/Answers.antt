use Rattle.std.proofs.Common.{◌≡◌, IfOk, map, sym, ap, ◌∙◌, subst, take_all, List}
use Rattle.drf_bundle.specs.Bundle.{clip, clipped}
use Rattle.drf_bundle.proofs.theorems.PartLaws.{bundle-clip, clip-all}
use Rattle.drf_bundle.specs.declared.resource.Resource.{Resource}
use Rattle.drf_bundle.proofs.bundle.Bundle.clip.Goals as goal

pub new-requires : goal.new-requires
new-requires c =
    let all = c.loop-resource.invariant ∙ ap (λ (rs : List Resource). clip c.args.limits.now rs) (take_all _ _ c.loop-resource-test.false ∙ c.entries-resources.ensures.value) in
    rw all (bundle-clip c.args.limits.now c.args.self.now c.entries-resources.ensures.bundle)

-- nothing is cut
pub returns-then-stay_whole : goal.returns-then-stay_whole
returns-then-stay_whole c =
    let resources = c.entries-resources in
    let same : map (clipped c.args.limits.now) c.args.self.now ≡ c.args.self.now
    = subst (λ (rs : List Resource). map (clipped c.args.limits.now) rs ≡ rs) resources.ensures.value (c.stay_whole.ensures c.if-stay_whole.true) in
    subst (λ (rs : List Resource). IfOk c.copy.result (λ part. part ≡ rs)) (sym (clip-all c.args.limits.now c.args.self.now resources.ensures.bundle same)) c.copy.ensures.same
