use Rattle.std.proofs.Common.{◌≡◌, not, filter, sym, ap, ◌∙◌, subst}
use Rattle.drf_tables.proofs.tables.Names.{same_text, quantities_of, plus, cluster_total, with_other_total, CanHaveTotal, rows_in, Stored}
use Rattle.drf_tables.proofs.reservations.Moved.{rows-other, kept-other}
use Rattle.drf_tables.proofs.limits.Running.{agent_fits, counts-other, other_fits}
use Rattle.drf_tables.proofs.tables.Tables.set_total.Goals as goal

pub release_agent-requires : goal.release_agent-requires
release_agent-requires c = agent_fits c.self.inside c.self.invariant.consumed c.args.agent.now

pub recount_total-requires : goal.recount_total-requires
recount_total-requires c =
    let t = c.self.inside in
    let name = c.args.agent.now in
    let total = c.args.total in
    let right : CanHaveTotal (rows_in t) name total =
    subst (λ (s : Stored). CanHaveTotal s.rows name total) (sym c.self.view_is) c.requires.right in
    let summed : c.args.sum ≡ plus (cluster_total (filter (λ a. not (same_text a.name name)) (rows_in t).agents)) (quantities_of total) =
    subst (λ (s : Stored). c.args.sum ≡ plus (cluster_total (filter (λ a. not (same_text a.name name)) s.rows.agents)) (quantities_of total))
    (sym c.self.view_is) c.requires.sum in
    other_fits t c.self.invariant.kept c.self.invariant.consumed name total c.args.sum right summed
    c.release_agent.new.consumption c.release_agent.ensures.raised

pub invariant_of-self : goal.invariant_of-self
invariant_of-self c =
    let t = c.self.inside in
    let name = c.args.agent.now in
    let total = c.args.total in
    let right : CanHaveTotal (rows_in t) name total =
    subst (λ (s : Stored). CanHaveTotal s.rows name total) (sym c.self.view_is) c.requires.right in
    let summed : c.args.sum ≡ plus (cluster_total (filter (λ a. not (same_text a.name name)) (rows_in t).agents)) (quantities_of total) =
    subst (λ (s : Stored). c.args.sum ≡ plus (cluster_total (filter (λ a. not (same_text a.name name)) s.rows.agents)) (quantities_of total))
    (sym c.self.view_is) c.requires.sum in
    let entries = c.set_total.new.self.entries in
    record {
      kept = kept-other t c.self.invariant.kept name total c.args.sum right summed entries c.set_total.ensures;
      consumed = counts-other t c.self.invariant.kept c.self.invariant.consumed name total c.args.sum right summed
          c.release_agent.new.consumption c.release_agent.ensures.raised entries c.set_total.ensures c.recount_total.new.consumption
          c.recount_total.ensures;
    }

pub returns : goal.returns
returns c =
    let t = c.self.inside in
    let name = c.args.agent.now in
    let total = c.args.total in
    let right : CanHaveTotal (rows_in t) name total =
    subst (λ (s : Stored). CanHaveTotal s.rows name total) (sym c.self.view_is) c.requires.right in
    let summed : c.args.sum ≡ plus (cluster_total (filter (λ a. not (same_text a.name name)) (rows_in t).agents)) (quantities_of total) =
    subst (λ (s : Stored). c.args.sum ≡ plus (cluster_total (filter (λ a. not (same_text a.name name)) s.rows.agents)) (quantities_of total))
    (sym c.self.view_is) c.requires.sum in
    rows-other t c.self.invariant.kept name total c.args.sum right summed c.set_total.new.self.entries c.set_total.ensures
    ∙ ap (λ (s : Stored). record s.rows { agents = with_other_total s.rows name total }) c.self.view_is
