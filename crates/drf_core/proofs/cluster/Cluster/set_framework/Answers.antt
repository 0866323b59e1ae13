use Rattle.std.proofs.Common.{◌≡◌, sym, ap, subst, ◌∙◌}
use Rattle.drf_role.specs.Text.{same_text}
use Rattle.drf_rows.specs.declared.rows.FrameworkRow.{FrameworkRow}
use Rattle.drf_rows.specs.declared.rows.Rows.{Rows}
use Rattle.drf_sorter.proofs.theorems.SpendLaws.{spends-at_ok, spends-both, spends-on_ok, spends-within}
use Rattle.drf_sorter.specs.Content.{Content}
use Rattle.drf_content.specs.ContentLaws.{FollowsRoles}
use Rattle.drf_content.specs.Registering.{AreKnown, AreNew, paths_joined, paths_left, with_all}
use Rattle.drf_content.proofs.theorems.RolesSet.{roles_are_followed}
use Rattle.drf_core.proofs.effects.Ended.{one_found}
use Rattle.drf_core.proofs.effects.RolesSet.{spends_of, effect-roles, few-set, known-set, nodes_of-roles, sorted-roles, unused-set}
use Rattle.drf_core.proofs.cluster.Cluster.set_framework.Goals as goal

pub clients-requires : goal.clients-requires
clients-requires g c =
    known-set c.args.limits.now c.self.inside.tables.rows c.args.framework.now c.args.roles.now (rw (← c.self.view_is) at c.requires.welcome)

pub add_clients-requires : goal.add_clients-requires
add_clients-requires g c =
    let name = c.args.framework.now in
    let roles = c.args.roles.now in
    let rows : Rows = c.self.inside.tables.rows in
    let content : Content = g.S.Sorter.content c.self.inside.sorter in
    let kept = rw (← c.self.view_is) at c.requires.kept in
    let f = one_found (λ (f : FrameworkRow). same_text f.name name) rows.frameworks (known-set c.args.limits.now rows name roles (rw (← c.self.view_is) at c.requires.welcome)) in
    let follows : FollowsRoles rows content name roles f.one.clients = roles_are_followed rows content name roles f.one c.self.invariant kept.consistent f.found in
    let joined : c.deref.result.now ≡ paths_joined name roles f.one.clients =
    c.deref.ensures.value ∙ c.in_ok-change.ensures.joined ∙ ap (paths_joined name roles) (c.clients.ensures f.one f.found) in
    subst (AreNew content) (sym joined) follows.new

pub remove_clients-requires : goal.remove_clients-requires
remove_clients-requires g c =
    let name = c.args.framework.now in
    let roles = c.args.roles.now in
    let rows : Rows = c.self.inside.tables.rows in
    let content : Content = g.S.Sorter.content c.self.inside.sorter in
    let kept = rw (← c.self.view_is) at c.requires.kept in
    let f = one_found (λ (f : FrameworkRow). same_text f.name name) rows.frameworks (known-set c.args.limits.now rows name roles (rw (← c.self.view_is) at c.requires.welcome)) in
    let follows : FollowsRoles rows content name roles f.one.clients = roles_are_followed rows content name roles f.one c.self.invariant kept.consistent f.found in
    let joined : c.deref.result.now ≡ paths_joined name roles f.one.clients =
    c.deref.ensures.value ∙ c.in_ok-change.ensures.joined ∙ ap (paths_joined name roles) (c.clients.ensures f.one f.found) in
    let left : c.deref-2.result.now ≡ paths_left name roles f.one.clients =
    c.deref-2.ensures.value ∙ c.in_ok-change.ensures.left ∙ ap (paths_left name roles) (c.clients.ensures f.one f.found) in
    let middle : g.S.Sorter.content c.add_clients.new.sorter ≡ with_all content (paths_joined name roles f.one.clients) =
    c.in_ok-add_clients.ensures.ok ∙ ap (with_all content) joined in
    subst (AreKnown (g.S.Sorter.content c.add_clients.new.sorter)) (sym left)
    (subst (λ (k : Content). AreKnown k (paths_left name roles f.one.clients)) (sym middle) follows.known)

pub set_framework-requires-clause-known : goal.set_framework-requires-clause-known
set_framework-requires-clause-known g c =
    known-set c.args.limits.now c.self.inside.tables.rows c.args.framework.now c.args.roles.now (rw (← c.self.view_is) at c.requires.welcome)

pub set_framework-requires-clause-unused : goal.set_framework-requires-clause-unused
set_framework-requires-clause-unused g c =
    unused-set c.args.limits.now c.self.inside.tables.rows c.args.framework.now c.args.roles.now (rw (← c.self.view_is) at c.requires.welcome)

pub set_framework-requires-clause-few : goal.set_framework-requires-clause-few
set_framework-requires-clause-few g c =
    few-set c.args.limits.now c.self.inside.tables.rows c.args.framework.now c.args.roles.now (rw (← c.self.view_is) at c.requires.welcome)
    (rw (← c.self.view_is) at c.requires.kept)

pub invariant_of-self-2 : goal.invariant_of-self-2
invariant_of-self-2 g c =
    let name = c.args.framework.now in
    let roles = c.args.roles.now in
    let rows : Rows = c.self.inside.tables.rows in
    let content : Content = g.S.Sorter.content c.self.inside.sorter in
    let kept = rw (← c.self.view_is) at c.requires.kept in
    let f = one_found (λ (f : FrameworkRow). same_text f.name name) rows.frameworks (known-set c.args.limits.now rows name roles (rw (← c.self.view_is) at c.requires.welcome)) in
    sorted-roles rows c.set_framework.new.self.rows name roles f.one.clients content (g.S.Sorter.content c.add_clients.new.sorter)
    (g.S.Sorter.content c.remove_clients.new.sorter) c.deref.result.now c.deref-2.result.now
    (roles_are_followed rows content name roles f.one c.self.invariant kept.consistent f.found)
    (c.deref.ensures.value ∙ c.in_ok-change.ensures.joined ∙ ap (paths_joined name roles) (c.clients.ensures f.one f.found))
    (c.deref-2.ensures.value ∙ c.in_ok-change.ensures.left ∙ ap (paths_left name roles) (c.clients.ensures f.one f.found))
    c.in_ok-add_clients.ensures.ok c.remove_clients.ensures.content c.set_framework.ensures.rows

pub returns-clause-ok : goal.returns-clause-ok
returns-clause-ok g c =
    rw (← c.self.view_is) (effect-roles c.self.inside.tables.rows c.set_framework.new.self.rows c.args.framework.now c.args.roles.now c.set_framework.ensures.rows)

pub returns-clause-spends : goal.returns-clause-spends
returns-clause-spends g c =
    let name = c.args.framework.now in
    let roles = c.args.roles.now in
    let rows : Rows = c.self.inside.tables.rows in
    let kept = rw (← c.self.view_is) at c.requires.kept in
    let f = one_found (λ (f : FrameworkRow). same_text f.name name) rows.frameworks (known-set c.args.limits.now rows name roles (rw (← c.self.view_is) at c.requires.welcome)) in
    let nodes = nodes_of-roles rows name roles f.one c.deref.result.now c.deref-2.result.now kept.consistent f.found
    (c.deref.ensures.value ∙ c.in_ok-change.ensures.joined ∙ ap (paths_joined name roles) (c.clients.ensures f.one f.found))
    (c.deref-2.ensures.value ∙ c.in_ok-change.ensures.left ∙ ap (paths_left name roles) (c.clients.ensures f.one f.found)) in
    rw (← c.self.view_is) (spends-on_ok _ (spends-within (spends-both (spends-at_ok c.in_ok-add_clients.ensures.spends) (spends_of c.remove_clients.ensures.spends)) nodes))
