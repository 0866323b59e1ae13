use Rattle.std.proofs.Common.{◌≡◌, Option, true, false, Some, None, List, refl, ap, sym, subst, ◌∙◌}
use Rattle.std.specs.Option.{MatchOption, option_copied}
use Rattle.drf_role.specs.Path.{role_part, framework_part}
use Rattle.drf_bundle.specs.Bundle.{rest}
use Rattle.drf_bundle.specs.declared.resource.Resource.{Resource}
use Rattle.drf_rows.specs.Filters.{is_held_back}
use Rattle.drf_core.specs.cycle.Entitling.{IsOffered, known_part, known_role}
use Rattle.drf_core.proofs.drafting.Granted.{granted-is, granted-none, known_each, no_part, offered-known}
use Rattle.drf_core.proofs.cycle.free.grant_part.Goals.{In_ok-entitle, After-is_held_back}
use Rattle.drf_core.proofs.cycle.free.grant_part.Goals as goal

-- what the role can have
offered_at : (c : In_ok-entitle) (part : Option (List Resource)) → known_part c.entitle.new.free.known ≡ part
    → IsOffered (option_copied c.args.quota) c.args.free.now.bundle (role_part c.args.client.now) part
offered_at c part is =
    rw (sym c.role.ensures, sym is, sym c.entitle.ensures.bundle)
    (offered-known (option_copied c.args.quota) c.entitle.new.free.bundle c.entitle.new.free.known c.role.result.now c.in_ok-entitle.ensures.known.right c.in_ok-entitle.ensures.role)

held_at : (c : After-is_held_back)
    → c.is_held_back.result
    ≡ is_held_back c.args.tables.now.rows.filters c.args.tables.now.rows.clock (record { role = role_part c.args.client.now; framework = framework_part c.args.client.now }) c.args.agent.now c.in-Part.part
held_at c =
    c.is_held_back.ensures
    ∙ (λ i. is_held_back c.args.tables.now.rows.filters c.args.tables.now.rows.clock (record { role = c.role-2.ensures i; framework = c.framework.ensures i }) c.args.agent.now c.in-Part.part)

-- nothing that is enough for an offer
pub returns-in_default-clause-granted : goal.returns-in_default-clause-granted
returns-in_default-clause-granted c = λ rows a of is_free name filters clock counted joined.
    granted-none c.args.client.now (option_copied c.args.quota) c.args.free.now.bundle
    (offered_at (goal.at.returns-in_default-clause-granted c).In_ok-entitle None (no_part c.entitle.new.free.known c.in_default.not-Part)) rows a of is_free counted joined

-- a filter covers it
pub returns-then-is_held_back-clause-granted : goal.returns-then-is_held_back-clause-granted
returns-then-is_held_back-clause-granted c =
    let b = (goal.at.returns-then-is_held_back-clause-granted c).In_ok-entitle in
    let held = held_at (goal.at.returns-then-is_held_back-clause-granted c).After-is_held_back in
    let part : List Resource = c.in-Part.part in
    granted-is c.args.client.now (option_copied c.args.quota) c.args.free.now.bundle
    c.args.tables.now.rows.filters c.args.tables.now.rows.clock c.args.agent.now part true None
    (offered_at b (Some part) (ap known_part c.in-Part.is)) (sym c.if-is_held_back.true ∙ held) refl

pub returns-clause-granted : goal.returns-clause-granted
returns-clause-granted c =
    let b = (goal.at.returns-clause-granted c).In_ok-entitle in
    let held = held_at (goal.at.returns-clause-granted c).After-is_held_back in
    let part : List Resource = c.in-Part.part in
    granted-is c.args.client.now (option_copied c.args.quota) c.args.free.now.bundle
    c.args.tables.now.rows.filters c.args.tables.now.rows.clock c.args.agent.now part false c.take_part.result
    (offered_at b (Some part) (ap known_part c.in-Part.is)) (sym c.if-is_held_back.false ∙ held) (c.take_part.ensures.part ∙ ap known_part c.in-Part.is)

-- the whole part is granted
left_at : (granted : Option (List Resource)) (part old new : List Resource) → granted ≡ Some part → new ≡ rest old part
    → MatchOption granted (new ≡ old) (λ bundle. new ≡ rest old bundle)
left_at granted part old new is left = subst (λ o. MatchOption o (new ≡ old) (λ bundle. new ≡ rest old bundle)) (sym is) left

pub returns-clause-left : goal.returns-clause-left
returns-clause-left c =
    left_at c.take_part.result c.in-Part.part c.args.free.now.bundle _ (c.take_part.ensures.part ∙ ap known_part c.in-Part.is)
    (c.in_ok-free.ensures ∙ ap (λ f. rest f c.in-Part.part) c.entitle.ensures.bundle)

pub returns-clause-known : goal.returns-clause-known
returns-clause-known c =
    known_each _ _ _
    (λ later. record { worth = c.is_worth_an_offer-free.ensures.value; unreserved = λ reported. cc; everyone = tt; right = rw c.take_part.ensures.nothing tt })

pub returns-clause-role : goal.returns-clause-role
returns-clause-role c = λ role reported. let none : None ≡ Some role = sym (ap known_role c.take_part.ensures.nothing) ∙ reported in absurd cc
