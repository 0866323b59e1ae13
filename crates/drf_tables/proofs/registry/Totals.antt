-- The cluster's total.
use Rattle.std.specs.List.{AllByRecursion}
use Rattle.std.proofs.Common.{sym, subst, arith, ◌≡◌, not, IsTrue, List, [], ◌∷◌, filter, find, fold, Some}
use Rattle.drf_tables.proofs.tables.Names.{Text, same_text, quantities_of, Entry, IsAgent, AreAgents, cluster_total, each_filter, each_find, AgentRow}
use Rattle.drf_bundle.specs.Quantities.{plus, minus, covers, is_in_order, without_zeros, HasNoZeros}
use Rattle.drf_bundle.proofs.theorems.QuantitiesLaws.{amount-minus, amount-without_zeros, covers_from, in_order-minus, no_zeros-empty, no_zeros-plus, no_zeros-without_zeros, same_quantities}
use Rattle.drf_bundle.proofs.theorems.UnitProofs.{quantities_no_zeros}
use Rattle.drf_row_laws.proofs.MemberLaws.{amount-without_named}

no_zeros-added : (start : List Entry) (agents : List AgentRow) → HasNoZeros start → AllByRecursion IsAgent agents
    → HasNoZeros (fold (λ sum agent. plus sum (quantities_of agent.total)) start agents)
no_zeros-added start [] none all = none
no_zeros-added start (a ∷ agents) none all =
    no_zeros-added (plus start (quantities_of a.total)) agents
    (no_zeros-plus start (quantities_of a.total) none (quantities_no_zeros a.total all.0.total)) all.1

no_zeros-total : (agents : List AgentRow) → AllByRecursion IsAgent agents → HasNoZeros (cluster_total agents)
no_zeros-total agents all = no_zeros-added [] agents no_zeros-empty all

module _ (agents : List AgentRow) (name : Text) (a : AgentRow) (right : AreAgents agents)
    (found : find (λ b. same_text b.name name) agents ≡ Some a) where
  its : IsAgent a
  its = each_find IsAgent (λ (b : AgentRow). same_text b.name name) agents a right.each found

  -- the cluster's total covers the total of an agent
  pub total-covers : IsTrue (covers (cluster_total agents) (quantities_of a.total))
  total-covers =
      covers_from (cluster_total agents) (quantities_of a.total) (quantities_no_zeros a.total its.total).in_order
      (λ n. omega (arith, amount-without_named agents name a n right found))

  -- without that, it is the total of the other agents
  pub total-without : without_zeros (minus (cluster_total agents) (quantities_of a.total))
      ≡ cluster_total (filter (λ b. not (same_text b.name name)) agents)
  total-without =
      let all : List Entry = cluster_total agents in
      let one : List Entry = quantities_of a.total in
      let others : List AgentRow = filter (λ b. not (same_text b.name name)) agents in
      let ordered : IsTrue (is_in_order (minus all one)) = subst IsTrue (sym (in_order-minus all one)) (no_zeros-total agents right.each).in_order in
      same_quantities (without_zeros (minus all one)) (cluster_total others)
      (no_zeros-without_zeros (minus all one) ordered)
      (no_zeros-total others (each_filter IsAgent (λ (b : AgentRow). not (same_text b.name name)) agents right.each))
      (λ n. omega (
        arith,
        amount-without_zeros (minus all one) n ordered,
        amount-minus all one n,
        amount-without_named agents name a n right found,
      ))
