use Rattle.std.proofs.Common.{ap, sym, ◌∙◌}
use Rattle.std.specs.List.{list_any}
use Rattle.drf_laws.proofs.theorems.Roles.{is_role, distinct-known, distinct-new}
use Rattle.drf_core.proofs.events.frameworks.distinct_roles.Goals as goal

pub loop-role-preserved-then-contains : goal.loop-role-preserved-then-contains
loop-role-preserved-then-contains c =
    distinct-known c.loop-role.yielded c.loop-role.kept.items c.in-Some.role c.loop-role.invariant
    (ap (list_any (is_role c.in-Some.role)) (sym c.deref.ensures.value) ∙ sym c.contains.ensures.value ∙ c.if-contains.true)

pub loop-role-preserved : goal.loop-role-preserved
loop-role-preserved c =
    c.in_ok-push.ensures.items
    ∙ distinct-new c.loop-role.yielded c.loop-role.kept.items c.in-Some.role c.loop-role.invariant
    (ap (list_any (is_role c.in-Some.role)) (sym c.deref.ensures.value) ∙ sym c.contains.ensures.value ∙ c.if-contains.false)
