use Rattle.std.proofs.Common.{◌≡◌, true, IfOk, sym, ap, ◌∙◌, subst, take_all, List}
use Rattle.std.specs.List.{list_all}
use Rattle.drf_bundle.specs.Bundle.{is_for, part_for}
use Rattle.drf_bundle.proofs.theorems.PartLaws.{bundle-part_for, part_for-all}
use Rattle.drf_bundle.specs.declared.resource.Resource.{Resource}
use Rattle.drf_bundle.proofs.bundle.Bundle.part_for.Goals as goal

pub new-requires : goal.new-requires
new-requires c =
    let all = c.loop-resource.invariant ∙ ap (λ (rs : List Resource). part_for c.args.role.now rs) (take_all _ _ c.loop-resource-test.false ∙ c.entries-resources.ensures.value) in
    rw all (bundle-part_for c.args.role.now c.args.self.now c.entries-resources.ensures.bundle)

pub returns-then-are_for : goal.returns-then-are_for
returns-then-are_for c =
    let resources = c.entries-resources in
    let all : list_all (is_for c.args.role.now) c.args.self.now ≡ true
    = ap (list_all (is_for c.args.role.now)) (sym resources.ensures.value) ∙ sym c.are_for.ensures ∙ c.if-are_for.true in
    subst (λ (rs : List Resource). IfOk c.copy.result (λ part. part ≡ rs)) (sym (part_for-all c.args.role.now c.args.self.now all)) c.copy.ensures.same
