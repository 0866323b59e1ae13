use Rattle.std.proofs.Common.{◌≡◌, ap, ◌∙◌, arith}
use Rattle.drf_bundle.specs.Quantities.{plus}
use Rattle.drf_bundle.specs.Bundle.{quantities_of}
use Rattle.drf_rows.specs.Held.{cluster_total}
use Rattle.drf_rows.specs.Report as report
use Rattle.drf_rows.specs.declared.rows.Rows.{Rows}
use Rattle.drf_laws.proofs.theorems.Welcome.{welcome_agent, small_amounts}
use Rattle.drf_laws.proofs.theorems.Kept.{sound_total, few_agents}
use Rattle.drf_sorter.proofs.theorems.SpendLaws.{defers-on_ok, defers-stale}
use Rattle.drf_core.proofs.effects.Registered.{sorted-agent, effect-agent}
use Rattle.drf_core.proofs.stepping.Work.{has_nodes}
use Rattle.drf_core.proofs.cluster.Cluster.add_agent.Goals as goal

pub plus-requires : goal.plus-requires
plus-requires g c = λ label.
    let rows : Rows = c.self.inside.tables.rows in
    let kept = rw (← c.self.view_is) at c.requires.kept in
    let welcome = welcome_agent c.args.limits.now rows c.args.agent c.args.total (rw (← c.self.view_is) at c.requires.welcome) in
    let small = small_amounts (quantities_of c.args.total) 1099511627775 label welcome.small in
    let total = sound_total c.args.limits.now rows kept label in
    rw (c.total.ensures, c.quantities.ensures.value) (omega (arith, small, total))

pub add_agent-requires-clause-new : goal.add_agent-requires-clause-new
add_agent-requires-clause-new g c =
    (welcome_agent c.args.limits.now c.self.inside.tables.rows c.args.agent c.args.total (rw (← c.self.view_is) at c.requires.welcome)).new

pub add_agent-requires-clause-small : goal.add_agent-requires-clause-small
add_agent-requires-clause-small g c = λ label.
    small_amounts (quantities_of c.args.total) 1099511627775 label (welcome_agent c.args.limits.now c.args.self.now.rows c.args.agent c.args.total c.requires.welcome).small

pub add_agent-requires-clause-few : goal.add_agent-requires-clause-few
add_agent-requires-clause-few g c =
    few_agents c.args.limits.now c.self.inside.tables.rows c.args.agent c.args.total (rw (← c.self.view_is) at c.requires.kept).few
    (rw (← c.self.view_is) at c.requires.welcome)

pub invariant_of-self-2 : goal.invariant_of-self-2
invariant_of-self-2 g c =
    let rows : Rows = c.self.inside.tables.rows in
    let sum : c.in_ok-sum.sum ≡ plus (cluster_total rows.agents) (quantities_of c.args.total) =
    c.in_ok-sum.ensures ∙ (λ i. plus (c.total.ensures i) (c.quantities.ensures.value i)) in
    sorted-agent rows c.add_agent.new.self.rows c.args.agent c.args.total (g.S.Sorter.content c.self.inside.sorter) (g.S.Sorter.content c.set_total.new.self)
    c.self.invariant c.in_ok-add_agent.ensures.ok
    (c.set_total.ensures.content ∙ ap (λ t. record (g.S.Sorter.content c.self.inside.sorter) { total = t }) sum)

pub returns-clause-ok : goal.returns-clause-ok
returns-clause-ok g c =
    rw (← c.self.view_is) (effect-agent c.self.inside.tables.rows c.add_agent.new.self.rows c.args.agent c.args.total c.in_ok-add_agent.ensures.ok)

pub returns-clause-spends : goal.returns-clause-spends
returns-clause-spends g c =
    let rows : Rows = c.self.inside.tables.rows in
    let stale = c.set_total.ensures.stale (report.nodes_of rows)
    (has_nodes rows (g.S.Sorter.content c.self.inside.sorter) c.self.invariant) in
    rw (← c.self.view_is) (defers-on_ok _ (defers-stale _ c.set_total.ensures.made stale))
