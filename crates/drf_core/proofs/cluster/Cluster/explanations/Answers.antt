use Rattle.std.proofs.Common.{ap, ◌∙◌}
use Rattle.std.proofs.lemmas.Result.{IfOk-weaker}
use Rattle.drf_rows.specs.declared.rows.Rows.{Rows}
use Rattle.drf_explain.specs.Each.{turns_by_agent}
use Rattle.drf_core.specs.Cluster.{ClusterState}
use Rattle.drf_core.proofs.cluster.Cluster.explanations.Goals as goal

pub begin_explanations-requires-clause-sorted : goal.begin_explanations-requires-clause-sorted
begin_explanations-requires-clause-sorted g c = rw (c.in_ok-sorter.ensures.content, c.in_ok-tables.ensures) c.self.invariant

pub begin_explanations-requires-clause-kept : goal.begin_explanations-requires-clause-kept
begin_explanations-requires-clause-kept g c = rw (c.in_ok-tables.ensures) (rw (← c.self.view_is) at c.requires.kept)

pub returns : goal.returns
returns g c =
    IfOk-weaker c.begin_explanations.result _ _
    (λ explanations is. is
    ∙ ap (λ (r : Rows). turns_by_agent r c.args.at) c.in_ok-tables.ensures
    ∙ ap (λ (s : ClusterState). turns_by_agent s.rows c.args.at) c.self.view_is)
    c.begin_explanations.ensures
