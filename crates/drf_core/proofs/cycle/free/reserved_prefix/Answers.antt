use Rattle.std.proofs.Common.{sym, ap, ◌∙◌, arith}
use Rattle.std.specs.List.{list_any}
use Rattle.std.proofs.lemmas.List.{drop_all}
use Rattle.drf_core.specs.cycle.Entitling.{is_reserved_for, is_reserved_near}
use Rattle.drf_core.proofs.drafting.Near.{any_next, far_more}
use Rattle.drf_core.proofs.cycle.free.reserved_prefix.Goals as goal

pub loop-resource-init : goal.loop-resource-init
loop-resource-init c = record {
  within = omega arith;
  none = ap (list_any (is_reserved_for c.args.role.now)) (sym c.entries-resource-items.ensures.value);
  near = λ n more. ap (list_any (is_reserved_near c.args.role.now n)) (sym c.entries-resource-items.ensures.value);
}

pub loop-resource-preserved : goal.loop-resource-preserved
loop-resource-preserved c =
    let role = c.args.role.now in
    let rs = c.entries-resource-items.result.now in
    let i = c.loop-resource.resource-index in
    let r = c.resource-item.result in
    record {
      within = c.in_ok-prefix.ensures.within c.loop-resource.invariant.within;
      none = c.loop-resource.invariant.none
          ∙ any_next (is_reserved_for role) rs i r c.loop-resource-test.true c.resource-item.is c.in_ok-prefix.ensures.none;
      near = λ n more. c.loop-resource.invariant.near n (omega (arith, c.in_ok-prefix.ensures.no_less, more))
          ∙ any_next (is_reserved_near role n) rs i r c.loop-resource-test.true c.resource-item.is
          (far_more role c.in_ok-prefix.prefix n r more c.in_ok-prefix.ensures.near);
    }

pub returns-clause-within : goal.returns-clause-within
returns-clause-within c = c.loop-resource.invariant.within

pub returns-clause-none : goal.returns-clause-none
returns-clause-none c =
    c.loop-resource.invariant.none ∙ ap (list_any (is_reserved_for c.args.role.now)) (drop_all _ _ c.loop-resource-test.false)

pub returns-clause-near : goal.returns-clause-near
returns-clause-near c =
    c.loop-resource.invariant.near c.loop-resource.prefix (omega arith)
    ∙ ap (list_any (is_reserved_near c.args.role.now c.loop-resource.prefix)) (drop_all _ _ c.loop-resource-test.false)
