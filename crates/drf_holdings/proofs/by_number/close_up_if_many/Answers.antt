use Rattle.std.proofs.Common.{is_some, ap, subst, sym, ◌∙◌, rules}
use Rattle.std.proofs.lemmas.Fn.{filter_same}
use Rattle.drf_holdings.specs.ByNumber.{things_in, KeepsOrder}
use Rattle.drf_holdings.proofs.Slots.{is_filled, things-filled, order_some}
use Rattle.drf_holdings.proofs.by_number.close_up_if_many.Goals as goal

pub returns-then-saturating_add-len-clause-things : goal.returns-then-saturating_add-len-clause-things
returns-then-saturating_add-len-clause-things g c =
    let left = filter_same _ (λ s. is_some s.thing) _ (λ x b f k. search rules) _ _ c.retain.ensures.filtered in
    ap (λ ss. things_in ss) left ∙ things-filled c.args.slots.now.items

pub returns-then-saturating_add-len-clause-order : goal.returns-then-saturating_add-len-clause-order
returns-then-saturating_add-len-clause-order g c =
    let left = filter_same _ (λ s. is_some s.thing) _ (λ x b f k. search rules) _ _ c.retain.ensures.filtered in
    subst (λ ss. KeepsOrder c.args.slots.now.items ss) (sym left) (order_some is_filled c.args.slots.now.items)
