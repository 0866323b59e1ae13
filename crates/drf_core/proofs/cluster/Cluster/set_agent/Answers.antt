use Rattle.std.proofs.Common.{◌≡◌, ◌∙◌, arith, not}
use Rattle.std.specs.Prelude.{filter}
use Rattle.drf_role.specs.Text.{same_text}
use Rattle.drf_bundle.specs.Quantities.{plus}
use Rattle.drf_bundle.specs.Bundle.{quantities_of}
use Rattle.drf_rows.specs.Held.{cluster_total}
use Rattle.drf_rows.specs.Report as report
use Rattle.drf_rows.specs.declared.rows.Rows.{Rows}
use Rattle.drf_laws.proofs.theorems.Kept.{few_agents_kept}
use Rattle.drf_sorter.proofs.theorems.SpendLaws.{defers-on_ok, defers-stale}
use Rattle.drf_core.proofs.effects.Moved.{small-set_agent, total-set_agent, sorted-total, effect-total}
use Rattle.drf_core.proofs.stepping.Work.{has_nodes}
use Rattle.drf_laws.proofs.theorems.Kept.{small_others}
use Rattle.drf_core.proofs.cluster.Cluster.set_agent.Goals as goal

pub plus-requires : goal.plus-requires
plus-requires g c = λ label.
    let rows : Rows = c.self.inside.tables.rows in
    let kept = rw (← c.self.view_is) at c.requires.kept in
    let small = small-set_agent c.args.limits.now rows c.args.agent.now c.args.total (rw (← c.self.view_is) at c.requires.welcome) label in
    let few = few_agents_kept c.args.limits.now rows kept in
    let others = small_others rows c.args.agent.now label kept.consistent few in
    rw (c.in_ok-others.ensures, c.quantities.ensures.value) (omega (arith, small, others))

pub set_total-requires-clause-right : goal.set_total-requires-clause-right
set_total-requires-clause-right g c =
    total-set_agent c.args.limits.now c.self.inside.tables.rows c.args.agent.now c.args.total (rw (← c.self.view_is) at c.requires.welcome) c.quantities.ensures.bundle

pub set_total-requires-clause-sum : goal.set_total-requires-clause-sum
set_total-requires-clause-sum g c =
    c.in_ok-sum.ensures ∙ (λ i. plus (c.in_ok-others.ensures i) (c.quantities.ensures.value i))

pub invariant_of-self : goal.invariant_of-self
invariant_of-self g c =
    let rows : Rows = c.self.inside.tables.rows in
    let kept = rw (← c.self.view_is) at c.requires.kept in
    let sum : c.in_ok-sum.sum ≡ plus (cluster_total (filter (λ a. not (same_text a.name c.args.agent.now)) rows.agents)) (quantities_of c.args.total) =
    c.in_ok-sum.ensures ∙ (λ i. plus (c.in_ok-others.ensures i) (c.quantities.ensures.value i)) in
    sorted-total rows c.set_total.new.self.rows c.args.agent.now c.args.total c.in_ok-copy.copy
    (g.S.Sorter.content c.self.inside.sorter) (g.S.Sorter.content c.set_total-2.new.self)
    c.self.invariant kept.consistent
    (total-set_agent c.args.limits.now rows c.args.agent.now c.args.total (rw (← c.self.view_is) at c.requires.welcome) c.quantities.ensures.bundle)
    c.set_total.ensures (c.in_ok-copy.ensures ∙ sum) c.set_total-2.ensures.content

pub returns-clause-ok : goal.returns-clause-ok
returns-clause-ok g c =
    rw (← c.self.view_is) (effect-total c.self.inside.tables.rows c.set_total.new.self.rows c.args.agent.now c.args.total c.set_total.ensures)

pub returns-clause-spends : goal.returns-clause-spends
returns-clause-spends g c =
    let rows : Rows = c.self.inside.tables.rows in
    let stale = c.set_total-2.ensures.stale (report.nodes_of rows)
    (has_nodes rows (g.S.Sorter.content c.self.inside.sorter) c.self.invariant) in
    rw (← c.self.view_is) (defers-on_ok _ (defers-stale _ c.set_total-2.ensures.made stale))
