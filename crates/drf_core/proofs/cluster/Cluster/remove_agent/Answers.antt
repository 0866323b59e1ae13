use Rattle.std.proofs.Common.{◌≡◌, List, ap, ◌∙◌, sym, not, arith}
use Rattle.std.specs.Prelude.{filter}
use Rattle.drf_role.specs.Text.{same_text}
use Rattle.drf_bundle.specs.declared.quantities.Entry.{Entry}
use Rattle.drf_rows.specs.Releases.{all_on, without_ended}
use Rattle.drf_rows.specs.Held.{cluster_total}
use Rattle.drf_rows.specs.Report as report
use Rattle.drf_rows.specs.declared.rows.Rows.{Rows}
use Rattle.drf_sorter.proofs.theorems.SpendLaws.{defers-both, defers-nothing, defers-on_ok, defers-stale, defers-within}
use Rattle.drf_core.specs.Cluster.{ClusterState}
use Rattle.drf_core.specs.Working.{all_nodes}
use Rattle.drf_core.proofs.effects.Ended.{nothing_left, sorted-departed, effect-departed}
use Rattle.drf_core.proofs.stepping.Work.{has_nodes}
use Rattle.drf_core.proofs.cluster.Cluster.remove_agent.Goals as goal

pub remove_agent-requires-clause-nothing : goal.remove_agent-requires-clause-nothing
remove_agent-requires-clause-nothing g c =
    nothing_left c.args.self.now.rows c.self-2.inside.tables.rows (all_on c.args.agent.now)
    (ap (λ (s : ClusterState). s.rows) c.self-2.view_is ∙ c.end.ensures.rows)

pub remove_agent-requires-clause-total : goal.remove_agent-requires-clause-total
remove_agent-requires-clause-total g c =
    let Others : Rows → List Entry = λ r. cluster_total (filter (λ a. not (same_text a.name c.args.agent.now)) r.agents) in
    c.in_ok-total.ensures
    ∙ ap (λ (s : ClusterState). Others s.rows) c.self.view_is
    ∙ ap Others (sym (ap (λ (s : ClusterState). s.rows) c.self-2.view_is ∙ c.end.ensures.rows))

pub invariant_of-self : goal.invariant_of-self
invariant_of-self g c =
    let Others : Rows → List Entry = λ r. cluster_total (filter (λ a. not (same_text a.name c.args.agent.now)) r.agents) in
    let rows : Rows = c.args.self.now.rows in
    let middle : Rows = c.self-2.inside.tables.rows in
    let ended : middle ≡ without_ended rows (all_on c.args.agent.now) = ap (λ (s : ClusterState). s.rows) c.self-2.view_is ∙ c.end.ensures.rows in
    sorted-departed middle c.remove_agent.new.self.rows c.args.agent.now (g.S.Sorter.content c.self-2.inside.sorter) (g.S.Sorter.content c.set_total.new.self)
    c.in_ok-sum.sum c.self-2.invariant (nothing_left rows middle (all_on c.args.agent.now) ended) c.remove_agent.ensures.rows c.set_total.ensures.content
    (c.in_ok-sum.ensures ∙ c.in_ok-total.ensures ∙ ap (λ (s : ClusterState). Others s.rows) c.self.view_is ∙ ap Others (sym ended))

pub returns-clause-ok : goal.returns-clause-ok
returns-clause-ok g c =
    effect-departed c.args.self.now.rows c.self-2.inside.tables.rows c.remove_agent.new.self.rows c.args.agent.now
    (ap (λ (s : ClusterState). s.rows) c.self-2.view_is ∙ c.end.ensures.rows) c.remove_agent.ensures.rows

pub returns-clause-spends : goal.returns-clause-spends
returns-clause-spends g c =
    let middle : Rows = c.self-2.inside.tables.rows in
    let ended : middle ≡ without_ended c.args.self.now.rows (all_on c.args.agent.now) =
    ap (λ (s : ClusterState). s.rows) c.self-2.view_is ∙ c.end.ensures.rows in
    let nodes : all_nodes middle ≡ all_nodes c.args.self.now.rows = ap all_nodes ended in
    let stale = c.set_total.ensures.stale (report.nodes_of middle)
    (has_nodes middle (g.S.Sorter.content c.self-2.inside.sorter) c.self-2.invariant) in
    defers-on_ok _ (defers-within
    (defers-both c.end.ensures.spends
    (defers-both (defers-nothing (ap (λ (s : ClusterState). s.work) c.self-2.view_is)) (defers-stale (all_nodes middle) c.set_total.ensures.made stale)))
    (omega (arith, nodes)))
