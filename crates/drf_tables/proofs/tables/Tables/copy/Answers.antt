use Rattle.std.proofs.Common.{List, Option, sym, ap, ◌∙◌, subst, ℕ}
use Rattle.drf_rows.specs.declared.rows.ClientRow.{ClientRow}
use Rattle.drf_tables.specs.Inside.{framework_rows}
use Rattle.drf_tables.proofs.tables.Names.{Entry, Text, Rows, AreDerived, rows_in, CountsAll, Stored, Agent}
use Rattle.drf_tables.proofs.tables.Copies.{rows-copied}
use Rattle.drf_tables.proofs.limits.Recounted.{counts-still}
use Rattle.drf_tables.proofs.tables.Tables.copy.Goals as goal

pub invariant_of-result : goal.invariant_of-result
invariant_of-result c =
    let t = c.self.inside in
    let agents = c.into_pair-agents.ensures.agents ∙ c.in_ok-members.ensures.agents in
    let total = c.into_pair-weights.ensures.total ∙ c.in_ok-amounts.ensures.total in
    let rows =
    rows-copied t c.into_pair-agents.result.0.entries c.into_pair-agents.result.1.entries c.into_pair-holdings.result.0 c.into_pair-holdings.result.1
    c.into_pair-weights.result.0.entries c.into_pair-limits.result.0 agents
    (ap framework_rows c.into_pair-agents.ensures.frameworks ∙ c.in_ok-members.ensures.frameworks)
    (c.into_pair-holdings.ensures.holdings ∙ c.in_ok-held.ensures.holdings) (c.into_pair-holdings.ensures.filters ∙ c.in_ok-held.ensures.filters)
    (c.into_pair-weights.ensures.weights ∙ c.in_ok-amounts.ensures.weights) (c.into_pair-limits.ensures.limits ∙ c.in_ok-quota.ensures.limits) in
    record {
      kept = subst (λ (r : Rows). AreDerived r c.into_pair-agents.result.0.entries c.into_pair-weights.result.1 t.clients) (sym rows)
          (subst (λ (es : List (Text × Agent)). AreDerived (rows_in t) es c.into_pair-weights.result.1 t.clients) (sym agents)
          (subst (λ (sum : List Entry). AreDerived (rows_in t) t.agents.entries sum t.clients) (sym total) c.self.invariant.kept));
      consumed = subst (λ (r : Rows). CountsAll r c.into_pair-limits.result.1) (sym rows)
          (subst (λ x. CountsAll (rows_in t) x) (sym c.into_pair-limits.ensures.consumption)
          (counts-still (rows_in t) t.consumption c.self.invariant.consumed c.in_ok-quota.quota.consumption c.in_ok-quota.ensures.consumption));
    }

pub returns : goal.returns
returns c =
    rows-copied c.self.inside c.into_pair-agents.result.0.entries c.into_pair-agents.result.1.entries c.into_pair-holdings.result.0
    c.into_pair-holdings.result.1 c.into_pair-weights.result.0.entries c.into_pair-limits.result.0
    (c.into_pair-agents.ensures.agents ∙ c.in_ok-members.ensures.agents)
    (ap framework_rows c.into_pair-agents.ensures.frameworks ∙ c.in_ok-members.ensures.frameworks)
    (c.into_pair-holdings.ensures.holdings ∙ c.in_ok-held.ensures.holdings) (c.into_pair-holdings.ensures.filters ∙ c.in_ok-held.ensures.filters)
    (c.into_pair-weights.ensures.weights ∙ c.in_ok-amounts.ensures.weights) (c.into_pair-limits.ensures.limits ∙ c.in_ok-quota.ensures.limits)
    ∙ ap (λ (s : Stored). s.rows) c.self.view_is
