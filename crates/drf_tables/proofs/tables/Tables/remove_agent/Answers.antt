use Rattle.std.proofs.Common.{◌≡◌, not, filter, sym, ap, ◌∙◌, subst}
use Rattle.drf_tables.proofs.tables.Names.{same_text, cluster_total, agent_removed, rows_in, Stored}
use Rattle.drf_rows.specs.Releases.{without_ended, all_on}
use Rattle.drf_tables.proofs.agents.Changes.{rows-left, kept-left}
use Rattle.drf_tables.proofs.limits.Running.{agent_fits, counts-left}
use Rattle.drf_tables.proofs.tables.Tables.remove_agent.Goals as goal

pub release_agent-requires : goal.release_agent-requires
release_agent-requires c = agent_fits c.self.inside c.self.invariant.consumed c.args.agent.now

pub invariant_of-self : goal.invariant_of-self
invariant_of-self c =
    let t = c.self.inside in
    let name = c.args.agent.now in
    let nothing : without_ended (rows_in t) (all_on name) ≡ rows_in t =
    subst (λ (s : Stored). without_ended s.rows (all_on name) ≡ s.rows) (sym c.self.view_is) c.requires.nothing in
    let others : c.args.total ≡ cluster_total (filter (λ a. not (same_text a.name name)) (rows_in t).agents) =
    c.requires.total ∙ sym (ap (λ (s : Stored). cluster_total (filter (λ a. not (same_text a.name name)) s.rows.agents)) c.self.view_is) in
    let entries = c.remove.new.self.entries in
    let filters = c.drop_agent.new.self in
    record {
      kept = kept-left t c.self.invariant.kept name entries filters c.args.total nothing c.remove.ensures c.drop_agent.ensures others;
      consumed = counts-left t c.self.invariant.consumed name entries filters c.release_agent.new.consumption c.remove.ensures c.release_agent.ensures.raised;
    }

pub returns-clause-rows : goal.returns-clause-rows
returns-clause-rows c =
    let t = c.self.inside in
    let name = c.args.agent.now in
    let nothing : without_ended (rows_in t) (all_on name) ≡ rows_in t =
    subst (λ (s : Stored). without_ended s.rows (all_on name) ≡ s.rows) (sym c.self.view_is) c.requires.nothing in
    let others : c.args.total ≡ cluster_total (filter (λ a. not (same_text a.name name)) (rows_in t).agents) =
    c.requires.total ∙ sym (ap (λ (s : Stored). cluster_total (filter (λ a. not (same_text a.name name)) s.rows.agents)) c.self.view_is) in
    let entries = c.remove.new.self.entries in
    let filters = c.drop_agent.new.self in
    rows-left t c.self.invariant.kept name entries filters c.args.total nothing c.remove.ensures c.drop_agent.ensures others
    ∙ ap (λ (s : Stored). agent_removed s.rows name) c.self.view_is
