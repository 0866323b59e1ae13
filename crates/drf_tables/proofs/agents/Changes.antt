-- The rows after agents and frameworks are made active or inactive, suppressed or revived, or removed.
use Rattle.std.specs.List.{AllByRecursion}
use Rattle.std.specs.Global.{Vec}
use Rattle.std.specs.Map.{remove_entry}
use Rattle.std.proofs.Common.{refl, sym, ap, ◌∙◌, subst, arith, ◌≡◌, ℕ, ◌+◌, ◌-◌, Bool, true, false, not, List, length, map, filter}
use Rattle.std.proofs.lemmas.List.{length-map}
use Rattle.drf_tables.proofs.tables.Names.{Text, same_text, Entry, Client, are_distinct, clients_of, cluster_total, holdings_of, each_filter, length-filter_le, active_at, with_activity, with_suppression, suppressed_in, revived, agent_removed, framework_removed, ClientRow, Rows, changed, with_active, count_clients, Agent, Inside}
use Rattle.drf_rows.specs.Releases.{without_ended, all_on, all_of}
use Rattle.drf_rows.specs.Filters.{filters_without_client, filters_without_agent, filters_without_framework}
use Rattle.drf_row_laws.proofs.MemberLaws.{IsConsistent-with_activity, cluster_total-with_activity, IsConsistent-with_suppression, clients_of-with_suppression, IsConsistent-revived, IsConsistent-agent_removed, IsConsistent-framework_removed}
use Rattle.drf_rows.specs.declared.rows.FilterRow.{FilterRow}
use Rattle.drf_tables.specs.Inside.{agent_row, framework_rows, rows_of, rows_in, IsKnown, AreDerived}
use Rattle.drf_tables.proofs.registry.Entries.{names-keys, removed_entry, rows-filter, stays}
use Rattle.drf_tables.proofs.tables.Kept.{AreDerived-same}
use Rattle.drf_tables.proofs.registry.Known.{rows-with_active, known-with_active}

-- the rows with other agents, frameworks and filters
abbrev pub rows_but : Inside → List (Text × Agent) → List (Text × Vec ClientRow) → List FilterRow → Rows
rows_but t agents frameworks filters =
    rows_of agents frameworks t.holdings filters t.weights.entries t.limits t.clock t.next_offer t.events

module _ (t : Inside) (kept : AreDerived (rows_in t) t.agents.entries t.total t.clients) where
  -- the names of agents are distinct, and so are those of frameworks
  pub agents_apart : are_distinct (map (λ a. a.name) (map agent_row t.agents.entries)) ≡ true
  unfolding rows_of
  agents_apart = kept.consistent.agents.names

  pub frameworks_apart : are_distinct (map (λ f. f.name) (framework_rows t.frameworks.entries)) ≡ true
  unfolding rows_of
  frameworks_apart = kept.consistent.frameworks.names

  -- ---- an agent is activated or deactivated

  module _ (name : Text) (active : Bool) (entries : List (Text × Agent))
      (reported : entries ≡ map (changed name (with_active active)) t.agents.entries) where
    pub rows-active : rows_but t entries t.frameworks.entries t.filters ≡ record (rows_in t) { agents = with_activity (rows_in t) name active }
    unfolding rows_of
    rows-active =
        let read = ap (map agent_row) reported ∙ rows-with_active name active t.agents.entries in
        λ i. record (rows_in t) { agents = read i }

    pub kept-active : AreDerived (rows_but t entries t.frameworks.entries t.filters) entries t.total t.clients
    kept-active =
        let known = known-with_active (holdings_of (rows_in t)) name active t.agents.entries kept.free in
        subst (λ (r : Rows). AreDerived r entries t.total t.clients) (sym rows-active) (record {
          consistent = IsConsistent-with_activity (rows_in t) name active kept.consistent;
          free = subst (λ (es : List (Text × Agent)). AllByRecursion (IsKnown (holdings_of (rows_in t))) es) (sym reported) known;
          total = kept.total ∙ sym (cluster_total-with_activity (rows_in t) name active);
          clients = kept.clients;
          few = omega (arith, length-map (rows_in t).agents (active_at name active), kept.few);
        })

  -- ---- a client is suppressed or revived

  module _ (client : Client) (suppressed : Bool) (entries : List (Text × Vec ClientRow))
      (reported : framework_rows entries ≡ map (suppressed_in client suppressed) (framework_rows t.frameworks.entries)) where
    pub rows-suppressed : rows_but t t.agents.entries entries t.filters
        ≡ record (rows_in t) { frameworks = with_suppression (rows_in t) client suppressed }
    unfolding rows_of
    rows-suppressed = λ i. record (rows_in t) { frameworks = reported i }

    pub kept-suppressed : AreDerived (rows_but t t.agents.entries entries t.filters) t.agents.entries t.total t.clients
    kept-suppressed =
        let new : Rows = record (rows_in t) { frameworks = with_suppression (rows_in t) client suppressed } in
        subst (λ (r : Rows). AreDerived r t.agents.entries t.total t.clients) (sym rows-suppressed)
        (AreDerived-same (rows_in t) new t.agents.entries t.total t.clients kept
        (IsConsistent-with_suppression (rows_in t) client suppressed kept.consistent)
        refl refl (sym (ap length (clients_of-with_suppression (rows_in t) client suppressed))))

  module _ (client : Client) (entries : List (Text × Vec ClientRow)) (filters : List FilterRow)
      (reported : framework_rows entries ≡ map (suppressed_in client false) (framework_rows t.frameworks.entries))
      (left : filters ≡ filters_without_client client t.filters) where
    rows-revived : rows_but t t.agents.entries entries filters ≡ revived (rows_in t) client
    unfolding rows_of
    rows-revived = λ i. record (rows_in t) { frameworks = reported i; filters = left i }

    pub kept-revived : AreDerived (rows_but t t.agents.entries entries filters) t.agents.entries t.total t.clients
    kept-revived =
        subst (λ (r : Rows). AreDerived r t.agents.entries t.total t.clients) (sym rows-revived)
        (AreDerived-same (rows_in t) (revived (rows_in t) client) t.agents.entries t.total t.clients kept
        (IsConsistent-revived (rows_in t) client kept.consistent)
        refl refl (sym (ap length (clients_of-with_suppression (rows_in t) client false))))

  -- ---- an agent is removed

  module _ (name : Text) (entries : List (Text × Agent)) (filters : List FilterRow) (sum : List Entry)
      (nothing : without_ended (rows_in t) (all_on name) ≡ rows_in t)
      (taken : entries ≡ remove_entry (same_text name) t.agents.entries)
      (left : filters ≡ filters_without_agent name t.filters)
      (others : sum ≡ cluster_total (filter (λ a. not (same_text a.name name)) (rows_in t).agents)) where
    those : entries ≡ filter (stays name) t.agents.entries
    those =
        taken ∙ removed_entry name t.agents.entries
        (sym (ap are_distinct (names-keys agent_row (λ a. a.name) t.agents.entries (λ e. refl))) ∙ agents_apart)

    pub rows-left : rows_but t entries t.frameworks.entries filters ≡ agent_removed (rows_in t) name
    unfolding rows_of
    rows-left =
        let read = ap (map agent_row) those ∙ rows-filter name agent_row (λ a. a.name) t.agents.entries (λ e. refl) in
        (λ i. record (rows_in t) { agents = read i; filters = left i })
        ∙ sym (λ i. record (nothing i) {
          agents = filter (λ a. not (same_text a.name name)) (rows_in t).agents;
          filters = filters_without_agent name (rows_in t).filters;
        })

    pub kept-left : AreDerived (rows_but t entries t.frameworks.entries filters) entries sum t.clients
    kept-left =
        let new : Rows = agent_removed (rows_in t) name in
        let known : AllByRecursion (IsKnown (holdings_of new)) (filter (stays name) t.agents.entries) =
        each_filter (IsKnown (holdings_of new)) (stays name) t.agents.entries
        (subst (λ (r : Rows). AllByRecursion (IsKnown (holdings_of r)) t.agents.entries) (sym nothing) kept.free) in
        subst (λ (r : Rows). AreDerived r entries sum t.clients) (sym rows-left) (record {
          consistent = IsConsistent-agent_removed (rows_in t) name nothing kept.consistent;
          free = subst (λ (es : List (Text × Agent)). AllByRecursion (IsKnown (holdings_of new)) es) (sym those) known;
          total = others;
          clients = kept.clients;
          few = omega (arith, length-filter_le (λ a. not (same_text a.name name)) (rows_in t).agents, kept.few);
        })

  -- ---- a framework is removed

  module _ (name : Text) (entries : List (Text × Vec ClientRow)) (filters : List FilterRow) (gone : ℕ)
      (nothing : without_ended (rows_in t) (all_of name) ≡ rows_in t)
      (rows : framework_rows entries ≡ filter (λ f. not (same_text f.name name)) (framework_rows t.frameworks.entries))
      (clients : count_clients (framework_rows t.frameworks.entries) ≡ count_clients (framework_rows entries) + gone)
      (left : filters ≡ filters_without_framework name t.filters) where
    pub rows-gone : rows_but t t.agents.entries entries filters ≡ framework_removed (rows_in t) name
    unfolding rows_of
    rows-gone =
        (λ i. record (rows_in t) { frameworks = rows i; filters = left i })
        ∙ sym (λ i. record (nothing i) {
          frameworks = filter (λ f. not (same_text f.name name)) (rows_in t).frameworks;
          filters = filters_without_framework name (rows_in t).filters;
        })

    -- the stored number of clients is right
    pub all_clients : t.clients ≡ count_clients (framework_rows t.frameworks.entries)
    unfolding rows_of
    all_clients = kept.clients

    clients-gone : t.clients - gone ≡ length (clients_of (framework_removed (rows_in t) name))
    unfolding rows_of
    clients-gone =
        let many = ap count_clients rows in
        omega (arith, all_clients, clients, many)

    pub kept-gone : AreDerived (rows_but t t.agents.entries entries filters) t.agents.entries t.total (t.clients - gone)
    kept-gone =
        let new : Rows = framework_removed (rows_in t) name in
        subst (λ (r : Rows). AreDerived r t.agents.entries t.total (t.clients - gone)) (sym rows-gone) (record {
          consistent = IsConsistent-framework_removed (rows_in t) name nothing kept.consistent;
          free = subst (λ (r : Rows). AllByRecursion (IsKnown (holdings_of r)) t.agents.entries) (sym nothing) kept.free;
          total = kept.total;
          clients = clients-gone;
          few = kept.few;
        })
