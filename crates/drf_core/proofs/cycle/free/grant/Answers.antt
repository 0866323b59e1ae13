use Rattle.std.proofs.Common.{◌≡◌, Some, None, List, refl, sym, ap, ◌∙◌}
use Rattle.std.specs.Option.{option_copied}
use Rattle.drf_role.specs.Path.{role_part, framework_part}
use Rattle.drf_bundle.specs.declared.resource.Resource.{Resource}
use Rattle.drf_rows.specs.Filters.{is_held_back}
use Rattle.drf_core.specs.cycle.Entitling.{known_role}
use Rattle.drf_core.proofs.drafting.Granted.{granted-is, known_each}
use Rattle.drf_core.proofs.cycle.free.grant.Goals as goal

-- the fast path: all free resources can be granted
pub returns-then-is_for_all-clause-granted : goal.returns-then-is_for_all-clause-granted
returns-then-is_for_all-clause-granted c =
    let rows = c.args.tables.now.rows in
    let whole : List Resource = c.args.free.now.bundle in
    granted-is c.args.client.now (option_copied c.args.quota) whole rows.filters rows.clock c.args.agent.now whole
    (is_held_back rows.filters rows.clock (record { role = role_part c.args.client.now; framework = framework_part c.args.client.now }) c.args.agent.now whole)
    c.take_all.result (c.is_for_all.ensures c.if-is_for_all.true (role_part c.args.client.now)) refl c.take_all.ensures.taken

pub returns-then-is_for_all-clause-known : goal.returns-then-is_for_all-clause-known
returns-then-is_for_all-clause-known c =
    known_each c.take_all.result (option_copied c.args.quota) c.take_all.new.free
    (λ later. c.take_all.ensures.known (option_copied c.args.quota) later c.requires)

pub returns-then-is_for_all-clause-role : goal.returns-then-is_for_all-clause-role
returns-then-is_for_all-clause-role c = λ role reported. let none : None ≡ Some role = sym (ap known_role c.take_all.ensures.nothing) ∙ reported in absurd cc
