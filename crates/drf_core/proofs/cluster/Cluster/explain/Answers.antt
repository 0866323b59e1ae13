use Rattle.std.proofs.Common.{ap, ◌∙◌}
use Rattle.std.proofs.lemmas.Result.{IfOk-weaker}
use Rattle.drf_rows.specs.declared.rows.Rows.{Rows}
use Rattle.drf_explain.specs.Explained.{explained}
use Rattle.drf_core.specs.Cluster.{ClusterState}
use Rattle.drf_core.proofs.cluster.Cluster.explain.Goals as goal

pub explain-requires-clause-sorted : goal.explain-requires-clause-sorted
explain-requires-clause-sorted g c = rw (c.in_ok-sorter.ensures.content, c.in_ok-tables.ensures) c.self.invariant

pub explain-requires-clause-kept : goal.explain-requires-clause-kept
explain-requires-clause-kept g c = rw (c.in_ok-tables.ensures) (rw (← c.self.view_is) at c.requires.kept)

pub returns : goal.returns
returns g c =
    IfOk-weaker c.explain.result _ _
    (λ findings is. is
    ∙ ap (λ (r : Rows). explained r c.args.at) c.in_ok-tables.ensures
    ∙ ap (λ (s : ClusterState). explained s.rows c.args.at) c.self.view_is)
    c.explain.ensures
