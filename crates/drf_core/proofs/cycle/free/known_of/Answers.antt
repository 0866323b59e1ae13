use Rattle.std.proofs.Common.{◌≡◌, ◌+◌, Bool, true, false, Some, None, sym, subst, ◌∙◌, arith, cond}
use Rattle.std.specs.Option.{option_copied}
use Rattle.drf_role.specs.Path.{Path}
use Rattle.drf_core.specs.cycle.Entitling.{IsBarred, IsOffered}
use Rattle.drf_core.proofs.drafting.Granted.{offered-is}
use Rattle.drf_core.proofs.drafting.Barred.{barred-role}
use Rattle.drf_core.proofs.cycle.free.known_of.Goals.{After-is_worth_an_offer}
use Rattle.drf_core.proofs.cycle.free.known_of.Goals as goal

-- the amounts alone decide
pub returns-in-Some-clause-right : goal.returns-in-Some-clause-right
returns-in-Some-clause-right c =
    subst (λ (r : Path). IsBarred (option_copied c.args.quota) c.args.free.now r c.in-Some.prefix) (sym c.in_ok-named.ensures) c.in-Some.ensures

-- the computed part decides
offered_at : (c : After-is_worth_an_offer) (worth : Bool) → c.is_worth_an_offer.result ≡ worth
    → IsOffered (option_copied c.args.quota) c.args.free.now c.args.role.now (cond worth (Some c.in_ok-part.part) None)
offered_at c worth reported =
    offered-is (option_copied c.args.quota) c.args.free.now c.args.role.now c.in_ok-part.part worth c.in_ok-part.ensures (sym reported ∙ c.is_worth_an_offer.ensures.value)

pub returns-then-is_worth_an_offer-clause-right : goal.returns-then-is_worth_an_offer-clause-right
returns-then-is_worth_an_offer-clause-right c =
    subst (λ (r : Path). IsOffered (option_copied c.args.quota) c.args.free.now r (Some c.in_ok-part.part)) (sym c.in_ok-named.ensures)
    (offered_at (goal.at.returns-then-is_worth_an_offer-clause-right c).After-is_worth_an_offer true c.if-is_worth_an_offer.true)

pub returns-clause-right : goal.returns-clause-right
returns-clause-right c =
    subst (λ (r : Path). IsBarred (option_copied c.args.quota) c.args.free.now r (c.len-prefix.result + 1)) (sym c.in_ok-named.ensures)
    (barred-role (option_copied c.args.quota) c.args.free.now c.args.role.now (c.len-prefix.result + 1) c.recall.ensures.right (omega (arith, c.len-prefix.ensures.len))
    (offered_at (goal.at.returns-clause-right c).After-is_worth_an_offer false c.if-is_worth_an_offer.false))
