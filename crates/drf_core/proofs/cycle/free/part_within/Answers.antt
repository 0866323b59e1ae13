use Rattle.std.proofs.Common.{◌≡◌, List, length, [], Some, None, sym, subst, ◌∙◌}
use Rattle.std.specs.Option.{option_copied}
use Rattle.std.proofs.lemmas.Bool.{eqb-true}
use Rattle.std.proofs.lemmas.Result.{IfOk-weaker}
use Rattle.drf_bundle.specs.Bundle.{clip}
use Rattle.drf_bundle.specs.declared.resource.Resource.{Resource}
use Rattle.drf_core.specs.cycle.Entitling.{IsEntitlement}
use Rattle.drf_core.proofs.drafting.Granted.{entitled-whole, entitled-cut, no_entries, room-unlimited}
use Rattle.drf_core.proofs.cycle.free.part_within.Goals as goal

pub returns-in_default : goal.returns-in_default
returns-in_default c =
    subst (λ o. IsEntitlement (option_copied o) c.args.free.now c.args.role.now c.in_ok-part.part) (sym c.in_default.is)
    (entitled-whole None c.args.free.now c.args.role.now c.in_ok-part.part c.recall.ensures (room-unlimited c.args.role.now) c.in_ok-part.ensures)

pub returns-then-is_empty : goal.returns-then-is_empty
returns-then-is_empty c =
    let none : c.in_ok-headroom.headroom ≡ [] = sym c.entries.ensures.value ∙ no_entries c.entries.result.now (eqb-true (length c.entries.result.now) 0 (sym c.is_empty.ensures ∙ c.if-is_empty.true)) in
    subst (λ o. IsEntitlement (option_copied o) c.args.free.now c.args.role.now c.in_ok-part.part) (sym c.in-Some.is)
    (entitled-whole (Some c.in-Some.quota.now) c.args.free.now c.args.role.now c.in_ok-part.part c.recall.ensures
    (λ rows counted. sym (c.in_ok-headroom.ensures.of_rows rows counted) ∙ none) c.in_ok-part.ensures)

pub returns : goal.returns
returns c =
    IfOk-weaker c.clip.result (λ (bundle : List Resource). bundle ≡ clip c.in_ok-headroom.headroom c.in_ok-part.part)
    (IsEntitlement (option_copied c.args.quota) c.args.free.now c.args.role.now)
    (λ bundle cut. subst (λ o. IsEntitlement (option_copied o) c.args.free.now c.args.role.now bundle) (sym c.in-Some.is)
    (entitled-cut c.in-Some.quota.now c.args.free.now c.args.role.now c.in_ok-headroom.headroom c.in_ok-part.part bundle
    c.in_ok-headroom.ensures.of_rows c.in_ok-part.ensures cut))
    c.clip.ensures
