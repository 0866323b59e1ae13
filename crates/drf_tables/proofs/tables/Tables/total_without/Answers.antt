use Rattle.std.proofs.Common.{◌≡◌, Bool, refl, false, not, Some, List, filter, find, is_some, sym, ap, ◌∙◌, subst, IsTrue}
use Rattle.std.specs.Option.{option_copied, option_map}
use Rattle.drf_tables.proofs.tables.Names.{Text, same_text, quantities_of, Entry, cluster_total, has_agent, AgentRow, Stored, Agent}
use Rattle.drf_bundle.specs.Quantities.{covers, minus, without_zeros}
use Rattle.drf_row_laws.proofs.ReleaseLaws.{each_past, filter-none}
use Rattle.drf_tables.specs.Inside.{rows_of, rows_in, agent_row}
use Rattle.drf_tables.proofs.registry.Entries.{found-lookup}
use Rattle.drf_tables.proofs.tables.Fields.{has_agent-rows_in}
use Rattle.drf_tables.proofs.registry.Totals.{total-covers, total-without}
use Rattle.drf_tables.proofs.tables.Tables.total_without.Goals as goal

pub returns-in_default : goal.returns-in_default
returns-in_default c =
    let t = c.self.inside in
    let name : Text = c.args.agent.now in
    let none : has_agent (rows_in t) name ≡ false =
    has_agent-rows_in t name ∙ ap is_some (sym c.get.ensures.value ∙ ap option_copied c.in_default.is) in
    let test : AgentRow → Bool = λ a. same_text a.name name in
    let all = filter-none test (rows_in t).agents (each_past test (rows_in t).agents none) in
    c.in_ok-total.ensures ∙ c.self.invariant.kept.total ∙ sym (ap cluster_total all)
    ∙ ap (λ (s : Stored). cluster_total (filter (λ a. not (same_text a.name name)) s.rows.agents)) c.self.view_is

pub lower-requires : goal.lower-requires
unfolding rows_of
lower-requires c =
    let t = c.self.inside in
    let name : Text = c.args.agent.now in
    let a : AgentRow = agent_row (name, c.in-Some.leaving.now) in
    let found : find (λ b. same_text b.name name) (rows_in t).agents ≡ Some a =
    found-lookup agent_row (λ a. a.name) name t.agents.entries (λ e. refl)
    ∙ ap (option_map (λ (v : Agent). agent_row (name, v))) (sym c.get.ensures.value ∙ ap option_copied c.in-Some.is) in
    let total : c.in_ok-total.total ≡ cluster_total (rows_in t).agents = c.in_ok-total.ensures ∙ c.self.invariant.kept.total in
    subst (λ (q : List Entry × List Entry). IsTrue (covers q.0 q.1)) (λ i. (sym total i, sym c.quantities.ensures.value i))
    (total-covers (rows_in t).agents name a c.self.invariant.kept.consistent.agents found)

pub returns : goal.returns
unfolding rows_of
returns c =
    let t = c.self.inside in
    let name : Text = c.args.agent.now in
    let a : AgentRow = agent_row (name, c.in-Some.leaving.now) in
    let found : find (λ b. same_text b.name name) (rows_in t).agents ≡ Some a =
    found-lookup agent_row (λ a. a.name) name t.agents.entries (λ e. refl)
    ∙ ap (option_map (λ (v : Agent). agent_row (name, v))) (sym c.get.ensures.value ∙ ap option_copied c.in-Some.is) in
    let total : c.in_ok-total.total ≡ cluster_total (rows_in t).agents = c.in_ok-total.ensures ∙ c.self.invariant.kept.total in
    let lowered : c.lower.new.self ≡ minus (cluster_total (rows_in t).agents) (quantities_of a.total) =
    c.lower.ensures ∙ (λ i. minus (total i) (c.quantities.ensures.value i)) in
    c.remove_zeros.ensures.value ∙ ap without_zeros lowered
    ∙ total-without (rows_in t).agents name a c.self.invariant.kept.consistent.agents found
    ∙ ap (λ (s : Stored). cluster_total (filter (λ a. not (same_text a.name name)) s.rows.agents)) c.self.view_is
