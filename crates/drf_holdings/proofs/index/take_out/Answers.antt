use Rattle.std.proofs.Common.{◌≡◌, ℕ, Option, OnSome, remove, refl, subst, ◌∙◌}
use Rattle.drf_holdings.proofs.RisingLists.{first_out, found_out, missing_out}
use Rattle.drf_holdings.proofs.index.take_out.Goals as goal

pub returns-then-is_first : goal.returns-then-is_first
returns-then-is_first c rising =
    let first = c.if-is_first.ensures refl in
    c.pop_front.ensures.rest ∙ first_out c.args.numbers.now.items first.0 c.args.number first.1 rising

pub returns-in-Ok : goal.returns-in-Ok
returns-in-Ok c =
    let old = c.args.numbers.now.items in
    let left = c.remove.new.self.items in
    found_out old left c.args.number c.in-Ok.place c.in-Ok.ensures.position
    (subst (λ (r : Option ℕ). OnSome r (left ≡ remove old c.in-Ok.place)) (c.remove.ensures.succeeds 0 c.in-Ok.ensures.bound) c.remove.ensures.items)

pub returns-in_default : goal.returns-in_default
returns-in_default c = missing_out c.args.numbers.now.items c.args.number c.in_default.field-0 c.in_default.ensures.position
