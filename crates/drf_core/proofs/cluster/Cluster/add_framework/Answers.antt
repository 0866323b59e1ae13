use Rattle.std.proofs.Common.{◌≡◌, ◌<◌, ◌++◌, ◌∷◌, [], ℕ, List, length, refl, ap, sym, subst, ◌∙◌, arith}
use Rattle.std.specs.Prelude.{map, sum_by}
use Rattle.std.specs.List.{AllByRecursion}
use Rattle.std.proofs.lemmas.List.Sums.{sum_by-append, sum_by-cons}
use Rattle.drf_role.specs.Path.{Path}
use Rattle.drf_rows.specs.Members.{distinct, has_framework, new_client}
use Rattle.drf_rows.specs.Step.{effect}
use Rattle.drf_rows.specs.declared.event.Event.TheVariants.{AddFramework}
use Rattle.drf_rows.specs.Consistent.{are_distinct_roles, offers_counted}
use Rattle.drf_rows.specs.declared.rows.ClientRow.{ClientRow}
use Rattle.drf_rows.specs.declared.rows.FrameworkRow.{FrameworkRow}
use Rattle.drf_rows.specs.declared.rows.Rows.{Rows}
use Rattle.drf_sorter.specs.Content.{Content}
use Rattle.drf_sorter.proofs.theorems.SpendLaws.{spends-at_ok, spends-on_ok, spends-within}
use Rattle.drf_content.specs.Registering.{AreNew, client_paths, with_all}
use Rattle.drf_laws.proofs.theorems.Roles.{distinct_apart, roles_of_new, uncounted_new}
use Rattle.drf_sorter.proofs.theorems.SameLaws.{IsSame-sym}
use Rattle.drf_content.specs.Content.{content_of}
use Rattle.drf_content.proofs.theorems.Registered.{AreNew-registering}
use Rattle.drf_content.proofs.theorems.Same.{AreNew-same}
use Rattle.drf_laws.proofs.theorems.Welcome.{welcome_framework}
use Rattle.drf_core.proofs.effects.Registered.{sorted-framework, effect-framework}
use Rattle.drf_core.proofs.stepping.Work.{nodes_of-new}
use Rattle.drf_core.proofs.cluster.Cluster.add_framework.Goals as goal

pub add_clients-requires : goal.add_clients-requires
add_clients-requires g c =
    let rows : Rows = c.self.inside.tables.rows in
    let kept = rw (← c.self.view_is) at c.requires.kept in
    let welcome = welcome_framework c.args.limits.now rows c.args.framework c.args.roles (rw (← c.self.view_is) at c.requires.welcome) in
    let made = c.as_slice.ensures ∙ c.in_ok-clients.ensures ∙ ap (map new_client) c.in_ok-roles.ensures in
    let paths : client_paths c.args.framework (map new_client (distinct c.args.roles)) ≡ c.deref.result.now
    = ap (client_paths c.args.framework) (sym made) ∙ sym c.in_ok-paths.ensures ∙ sym c.deref.ensures.value in
    let content : Content = g.S.Sorter.content c.self.inside.sorter in
    subst (AreNew content) paths
    (AreNew-same (content_of rows) content (client_paths c.args.framework (map new_client (distinct c.args.roles)))
    (IsSame-sym content (content_of rows) c.self.invariant)
    (AreNew-registering rows c.args.framework kept.consistent welcome.new c.args.roles))

pub add_framework-requires-clause-new : goal.add_framework-requires-clause-new
add_framework-requires-clause-new g c =
    (λ i. has_framework (c.reserve_framework.ensures.same i) (c.in_ok-named.ensures.named i))
    ∙ (welcome_framework c.args.limits.now c.self.inside.tables.rows c.args.framework c.args.roles (rw (← c.self.view_is) at c.requires.welcome)).new

pub add_framework-requires-clause-roles : goal.add_framework-requires-clause-roles
add_framework-requires-clause-roles g c =
    ap are_distinct_roles (ap (map (λ (x : ClientRow). x.role)) (c.in_ok-clients.ensures ∙ ap (map new_client) c.in_ok-roles.ensures) ∙ roles_of_new (distinct c.args.roles))
    ∙ distinct_apart c.args.roles

-- the counts of its clients are 0
nothing_made : (cs : List ClientRow) → AllByRecursion (λ c. c.count ≡ 0) cs → sum_by (λ c. c.count) cs ≡ 0
nothing_made [] all = refl
nothing_made (c ∷ cs) all = omega (arith, sum_by-cons (λ (c : ClientRow). c.count) c cs, all.0, nothing_made cs all.1)

counted_still : (rows : Rows) (f : FrameworkRow) → AllByRecursion (λ c. c.count ≡ 0) f.clients → offers_counted rows.frameworks < rows.next_offer
    → offers_counted (rows.frameworks ++ f ∷ []) < rows.next_offer
counted_still rows f none few =
    let counts : FrameworkRow → ℕ = λ f. sum_by (λ (c : ClientRow). c.count) f.clients in
    omega (arith, sum_by-append counts rows.frameworks (f ∷ []), sum_by-cons counts f [], nothing_made f.clients none, few)

pub add_framework-requires-clause-counted : goal.add_framework-requires-clause-counted
add_framework-requires-clause-counted g c =
    let f : FrameworkRow = record { name = c.in_ok-named.named; clients = c.in_ok-clients.clients } in
    let kept = rw (← c.self.view_is) at c.requires.kept in
    subst (λ (r : Rows). offers_counted (r.frameworks ++ f ∷ []) < r.next_offer) (sym c.reserve_framework.ensures.same)
    (counted_still c.self.inside.tables.rows f
    (subst (AllByRecursion (λ (x : ClientRow). x.count ≡ 0)) (sym c.in_ok-clients.ensures) (uncounted_new c.in_ok-roles.roles.items)) kept.consistent.counted)

pub invariant_of-self-2 : goal.invariant_of-self-2
invariant_of-self-2 g c =
    let rows : Rows = c.self.inside.tables.rows in
    let kept = rw (← c.self.view_is) at c.requires.kept in
    let welcome = welcome_framework c.args.limits.now rows c.args.framework c.args.roles (rw (← c.self.view_is) at c.requires.welcome) in
    let content = g.S.Sorter.content c.self.inside.sorter in
    let made = c.in_ok-clients.ensures ∙ ap (map new_client) c.in_ok-roles.ensures in
    let same : c.add_framework.new.self.rows ≡ effect rows (AddFramework c.args.framework c.args.roles) =
    effect-framework rows c.add_framework.new.self.rows c.args.framework c.args.roles c.in_ok-clients.clients made
    (c.add_framework.ensures.rows ∙ (λ i. record (c.reserve_framework.ensures.same i) { frameworks = (c.reserve_framework.ensures.same i).frameworks ++ record { name = c.in_ok-named.ensures.named i; clients = c.in_ok-clients.clients } ∷ [] })) in
    sorted-framework rows c.add_framework.new.self.rows c.args.framework c.args.roles content (g.S.Sorter.content c.add_clients.new.sorter)
    c.self.invariant kept.consistent welcome.new same
    (c.in_ok-add_clients.ensures.ok
    ∙ ap (with_all content) (c.deref.ensures.value ∙ c.in_ok-paths.ensures ∙ ap (client_paths c.args.framework) (c.as_slice.ensures ∙ made)))

pub returns-clause-ok : goal.returns-clause-ok
returns-clause-ok g c =
    rw (← c.self.view_is) (effect-framework c.self.inside.tables.rows c.add_framework.new.self.rows c.args.framework c.args.roles c.in_ok-clients.clients
    (c.in_ok-clients.ensures ∙ ap (map new_client) c.in_ok-roles.ensures)
    (c.add_framework.ensures.rows ∙ (λ i. record (c.reserve_framework.ensures.same i) { frameworks = (c.reserve_framework.ensures.same i).frameworks ++ record { name = c.in_ok-named.ensures.named i; clients = c.in_ok-clients.clients } ∷ [] })))

pub returns-clause-spends : goal.returns-clause-spends
returns-clause-spends g c =
    let paths : c.deref.result.now ≡ client_paths c.args.framework (map new_client (distinct c.args.roles)) =
    c.deref.ensures.value ∙ c.in_ok-paths.ensures ∙ ap (client_paths c.args.framework) (c.as_slice.ensures ∙ c.in_ok-clients.ensures ∙ ap (map new_client) c.in_ok-roles.ensures) in
    rw (← c.self.view_is) (spends-on_ok _ (spends-within (spends-at_ok c.in_ok-add_clients.ensures.spends)
    (omega (arith, ap (λ (ps : List Path). sum_by length ps) paths, nodes_of-new c.args.framework (distinct c.args.roles)))))
