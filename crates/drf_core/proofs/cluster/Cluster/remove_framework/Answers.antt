use Rattle.std.proofs.Common.{◌≡◌, List, length, ap, subst, sym, ◌∙◌, arith}
use Rattle.std.specs.Prelude.{filter, find, sum_by}
use Rattle.drf_role.specs.Path.{Path}
use Rattle.drf_role.specs.Text.{same_text}
use Rattle.drf_rows.specs.Consistent.{AreFrameworks}
use Rattle.drf_rows.specs.Releases.{all_of, without_ended}
use Rattle.drf_rows.specs.Held.{clients_of}
use Rattle.drf_rows.specs.declared.rows.FrameworkRow.{FrameworkRow}
use Rattle.drf_rows.specs.declared.rows.Rows.{Rows}
use Rattle.drf_sorter.proofs.theorems.SpendLaws.{defers-both, defers-nothing, defers-on_ok, defers-within}
use Rattle.drf_core.specs.Cluster.{ClusterState}
use Rattle.drf_content.specs.Registering.{client_paths}
use Rattle.drf_core.specs.Working.{losers}
use Rattle.drf_core.proofs.stepping.Work.{nodes_of-append, nodes_of-leaving}
use Rattle.drf_core.proofs.effects.Ended.{one_found, nothing_left, AreKnown-ended, sorted-left, effect-left}
use Rattle.drf_core.proofs.cluster.Cluster.remove_framework.Goals as goal

pub remove_clients-requires : goal.remove_clients-requires
remove_clients-requires g c =
    let name = c.args.framework.now in
    let rows : Rows = c.args.self.now.rows in
    let middle : Rows = c.self-2.inside.tables.rows in
    let f = one_found (λ (f : FrameworkRow). same_text f.name name) rows.frameworks c.requires.known in
    let found = ap (λ (s : ClusterState). find (λ (f : FrameworkRow). same_text f.name name) s.rows.frameworks) c.self.view_is ∙ f.found in
    let frameworks : middle.frameworks ≡ rows.frameworks = ap (λ (s : ClusterState). s.rows.frameworks) c.self-2.view_is ∙ ap (λ (r : Rows). r.frameworks) c.end.ensures.rows in
    AreKnown-ended middle name f.one (g.S.Sorter.content c.self-2.inside.sorter) c.deref.result.now
    (subst AreFrameworks (sym frameworks) c.requires.kept.consistent.frameworks)
    (ap (find (λ (f : FrameworkRow). same_text f.name name)) frameworks ∙ f.found) c.self-2.invariant
    (c.deref.ensures.value ∙ c.in_ok-paths.ensures ∙ ap (client_paths name) (c.clients.ensures f.one found))

pub remove_framework-requires : goal.remove_framework-requires
remove_framework-requires g c = record {
  nothing = nothing_left c.args.self.now.rows c.self-2.inside.tables.rows (all_of c.args.framework.now)
      (ap (λ (s : ClusterState). s.rows) c.self-2.view_is ∙ c.end.ensures.rows);
}

pub invariant_of-self : goal.invariant_of-self
invariant_of-self g c =
    let name = c.args.framework.now in
    let rows : Rows = c.args.self.now.rows in
    let middle : Rows = c.self-2.inside.tables.rows in
    let f = one_found (λ (f : FrameworkRow). same_text f.name name) rows.frameworks c.requires.known in
    let found = ap (λ (s : ClusterState). find (λ (f : FrameworkRow). same_text f.name name) s.rows.frameworks) c.self.view_is ∙ f.found in
    let ended : middle ≡ without_ended rows (all_of name) = ap (λ (s : ClusterState). s.rows) c.self-2.view_is ∙ c.end.ensures.rows in
    let frameworks : middle.frameworks ≡ rows.frameworks = ap (λ (r : Rows). r.frameworks) ended in
    sorted-left middle c.remove_framework.new.self.rows name f.one (g.S.Sorter.content c.self-2.inside.sorter) (g.S.Sorter.content c.remove_clients.new.sorter)
    c.deref.result.now (subst AreFrameworks (sym frameworks) c.requires.kept.consistent.frameworks)
    (ap (find (λ (f : FrameworkRow). same_text f.name name)) frameworks ∙ f.found)
    c.self-2.invariant (nothing_left rows middle (all_of name) ended) c.remove_framework.ensures c.remove_clients.ensures.content
    (c.deref.ensures.value ∙ c.in_ok-paths.ensures ∙ ap (client_paths name) (c.clients.ensures f.one found))

pub returns-clause-ok : goal.returns-clause-ok
returns-clause-ok g c =
    effect-left c.args.self.now.rows c.self-2.inside.tables.rows c.remove_framework.new.self.rows c.args.framework.now
    (ap (λ (s : ClusterState). s.rows) c.self-2.view_is ∙ c.end.ensures.rows) c.remove_framework.ensures

pub returns-clause-spends : goal.returns-clause-spends
returns-clause-spends g c =
    let rows : Rows = c.args.self.now.rows in
    let name = c.args.framework.now in
    let f = one_found (λ (f : FrameworkRow). same_text f.name name) rows.frameworks c.requires.known in
    let found = ap (λ (s : ClusterState). find (λ (f : FrameworkRow). same_text f.name name) s.rows.frameworks) c.self.view_is ∙ f.found in
    let paths : c.deref.result.now ≡ client_paths name f.one.clients =
    c.deref.ensures.value ∙ c.in_ok-paths.ensures ∙ ap (client_paths name) (c.clients.ensures f.one found) in
    defers-on_ok _ (defers-within
    (defers-both c.end.ensures.spends
    (defers-both (defers-nothing (ap (λ (s : ClusterState). s.work) c.self-2.view_is)) c.remove_clients.ensures.spends))
    (omega (
      arith,
      ap (λ (ps : List Path). sum_by length ps) paths,
      nodes_of-append (losers rows (all_of name)) (filter (λ c. same_text c.framework name) (clients_of rows)),
      nodes_of-leaving name f.one rows.frameworks f.found,
    )))
