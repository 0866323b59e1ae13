-- Activating, suppressing and removing agents and frameworks keeps the state consistent.
use Rattle.std.specs.Prelude.{◌≡◌, ℕ, ◌+◌, ◌≤◌, Bool, true, false, not, ◌&&◌, ◌||◌, List, [], ◌∷◌, ◌++◌, map, fold, filter, find, flat_map, sum_by, Some, if◌then◌else◌}
use Rattle.std.specs.List.{list_any, AllByRecursion}
use Rattle.std.proofs.Common.{refl, sym, ap, subst, ◌∙◌, inl, inr, arith}
use Rattle.std.proofs.lemmas.Bool.{cases_Bool, and_parts, and_from, or_left, or_right, or_cases, not-true, false≢true}
use Rattle.std.proofs.lemmas.List.{map-id}
use Rattle.std.proofs.lemmas.List.Folds.{fold-map}
use Rattle.std.proofs.lemmas.List.Sums.{sum_by-cons}
use Rattle.std.proofs.lemmas.Simd.{map-map}
use Rattle.drf_role.specs.Text.{Text, same_text}
use Rattle.drf_role.specs.TextLaws.{same_itself, same_from_test}
use Rattle.drf_role.specs.Path.{same_path}
use Rattle.drf_role.specs.Role.{IsRole}
use Rattle.drf_bundle.specs.Quantities.{amount_of, plus}
use Rattle.drf_bundle.proofs.theorems.QuantitiesLaws.{amount-plus}
use Rattle.drf_bundle.specs.Bundle.{quantities_of}
use Rattle.drf_bundle.proofs.theorems.UnitProofs.{quantities_no_zeros}
use Rattle.drf_bundle.specs.declared.quantities.Entry.{Entry}
use Rattle.drf_rows.specs.Client.{Client}
use Rattle.drf_rows.specs.Holdings.{Holding, holding_of_offer, holding_of_task, holdings_of}
use Rattle.drf_rows.specs.Held.{client_of, clients_of, cluster_total, is_registered}
use Rattle.drf_rows.specs.Filters.{is_of_client, is_on_agent, filters_without_agent, filters_without_framework}
use Rattle.drf_rows.specs.Consistent.{are_distinct, are_distinct_roles, IsAgent, AreAgents, IsFramework, AreFrameworks, IsHeld, IsCovered, IsFilter, offers_counted, IsConsistent}
use Rattle.drf_row_laws.proofs.ConsistentLaws.{same_text-swap}
use Rattle.drf_rows.specs.Members.{has_agent, active_at, with_activity, suppressed_at, suppressed_in, with_suppression, revived, agent_removed, framework_removed}
use Rattle.drf_rows.specs.Releases.{without_ended, all_on, all_of}
use Rattle.drf_row_laws.proofs.ReleaseLaws.{sum_by-out, filter-one, none-filter, find-place, IsConsistent-filters}
use Rattle.drf_bundle.proofs.ListLaws.{list_any-map, sum_by-map, sum_by-filter-cons, cond_le, each_from, each_from_both, each_append, each_map, each_filter, none_has}
use Rattle.drf_rows.specs.declared.rows.AgentRow.{AgentRow}
use Rattle.drf_rows.specs.declared.rows.ClientRow.{ClientRow}
use Rattle.drf_rows.specs.declared.rows.FilterRow.{FilterRow}
use Rattle.drf_rows.specs.declared.rows.FrameworkRow.{FrameworkRow}
use Rattle.drf_rows.specs.declared.rows.OfferRow.{OfferRow}
use Rattle.drf_rows.specs.declared.rows.TaskRow.{TaskRow}
use Rattle.drf_rows.specs.declared.rows.Rows.{Rows}

-- ---- the clock, and filters

-- keeping only filters that pass a test
pub IsConsistent-filters_kept : (rows : Rows) (test : FilterRow → Bool) → IsConsistent rows
    → IsConsistent (record rows { filters = filter test rows.filters })
IsConsistent-filters_kept rows test consistent =
    IsConsistent-filters rows (filter test rows.filters) consistent
    (each_filter (IsFilter rows.agents rows.frameworks) test rows.filters consistent.filters)

-- ---- activating or deactivating an agent

-- the agents with `active` given by a function
abbrev active_as : (AgentRow → Bool) → AgentRow → AgentRow
active_as is_active a = record a { active = is_active a }

abbrev activity : Text → Bool → AgentRow → Bool
activity name active a = if same_text a.name name then active else a.active

active_at-is : (name : Text) (active : Bool) (a : AgentRow) → active_at name active a ≡ active_as (activity name active) a
active_at-is name active a = by (same_text a.name name)
  where
    by : (b : Bool) → (if b then record a { active = active } else a) ≡ record a { active = if b then active else a.active }
    by true = refl
    by false = refl

with_activity-is : (rows : Rows) (name : Text) (active : Bool)
    → with_activity rows name active ≡ map (active_as (activity name active)) rows.agents
with_activity-is rows name active = λ i. map (λ a. active_at-is name active a i) rows.agents

module _ (rows : Rows) (name : Text) (active : Bool) where
  abbrev reported : AgentRow → AgentRow
  reported = active_as (activity name active)

  -- names and totals stay
  pub names-with_activity : map (λ a. a.name) (with_activity rows name active) ≡ map (λ a. a.name) rows.agents
  names-with_activity =
      ap (map (λ (a : AgentRow). a.name)) (with_activity-is rows name active) ∙ map-map (λ (a : AgentRow). a.name) reported rows.agents

  pub has_agent-with_activity : (agent : Text)
      → list_any (λ a. same_text a.name agent) (with_activity rows name active) ≡ has_agent rows agent
  has_agent-with_activity agent =
      ap (list_any (λ (a : AgentRow). same_text a.name agent)) (with_activity-is rows name active)
      ∙ list_any-map (λ (a : AgentRow). same_text a.name agent) reported rows.agents

  pub cluster_total-with_activity : cluster_total (with_activity rows name active) ≡ cluster_total rows.agents
  cluster_total-with_activity =
      ap cluster_total (with_activity-is rows name active)
      ∙ fold-map (λ sum (a : AgentRow). plus sum (quantities_of a.total)) reported [] rows.agents

  pub IsConsistent-with_activity : IsConsistent rows → IsConsistent (record rows { agents = with_activity rows name active })
  IsConsistent-with_activity consistent =
      let agents : List AgentRow = with_activity rows name active in
      let same : map reported rows.agents ≡ agents = sym (with_activity-is rows name active) in
      record {
        agents = record {
          names = ap are_distinct names-with_activity ∙ consistent.agents.names;
          each = subst (AllByRecursion IsAgent) same (each_map IsAgent reported rows.agents
              (each_from IsAgent (λ a. IsAgent (reported a)) rows.agents (λ a right. record { total = right.total; small = right.small })
              consistent.agents.each));
        };
        frameworks = consistent.frameworks;
        holdings = each_from (IsHeld rows.agents rows.frameworks) (IsHeld agents rows.frameworks) (holdings_of rows)
            (λ h held. record { agent = has_agent-with_activity h.agent ∙ held.agent; client = held.client; bundle = held.bundle })
            consistent.holdings;
        covered = subst (AllByRecursion (IsCovered (holdings_of rows))) same
            (each_map (IsCovered (holdings_of rows)) reported rows.agents consistent.covered);
        tasks = consistent.tasks;
        weights = consistent.weights;
        limits = consistent.limits;
        filters = each_from (IsFilter rows.agents rows.frameworks) (IsFilter agents rows.frameworks) rows.filters
            (λ f right. record {
              agent = has_agent-with_activity f.agent ∙ right.agent;
              client = right.client;
              bundle = right.bundle;
              until = right.until;
            }) consistent.filters;
        early = consistent.early;
        counted = consistent.counted;
        numbered = consistent.numbered;
      }

-- ---- suppressing or reviving a client

-- the clients with suppression given by a function
abbrev quiet_as : (ClientRow → Bool) → ClientRow → ClientRow
quiet_as is_quiet c = record c { suppressed = is_quiet c }

abbrev suppressed_as : (FrameworkRow → ClientRow → Bool) → FrameworkRow → FrameworkRow
suppressed_as is_quiet f = record f { clients = map (quiet_as (is_quiet f)) f.clients }

abbrev suppression_in : Client → Bool → ClientRow → Bool
suppression_in client suppressed c = if same_path c.role client.role then suppressed else c.suppressed

abbrev suppression : Client → Bool → FrameworkRow → ClientRow → Bool
suppression client suppressed f c = if same_text f.name client.framework then suppression_in client suppressed c else c.suppressed

suppressed_at-is : (client : Client) (suppressed : Bool) (c : ClientRow)
    → suppressed_at client suppressed c
    ≡ quiet_as (suppression_in client suppressed) c
suppressed_at-is client suppressed c = by (same_path c.role client.role)
  where
    by : (b : Bool)
        → (if b then record c { suppressed = suppressed } else c) ≡ record c { suppressed = if b then suppressed else c.suppressed }
    by true = refl
    by false = refl

suppressed_in-is : (client : Client) (suppressed : Bool) (f : FrameworkRow)
    → suppressed_in client suppressed f ≡ suppressed_as (suppression client suppressed) f
suppressed_in-is client suppressed f = by (same_text f.name client.framework)
  where
    by : (b : Bool) → (if b then record f { clients = map (suppressed_at client suppressed) f.clients } else f)
        ≡ record f { clients = map (quiet_as (λ c. if b then suppression_in client suppressed c else c.suppressed)) f.clients }
    by true = λ i. record f { clients = map (λ c. suppressed_at-is client suppressed c i) f.clients }
    by false = λ i. record f { clients = sym (map-id f.clients) i }

with_suppression-is : (rows : Rows) (client : Client) (suppressed : Bool)
    → with_suppression rows client suppressed ≡ map (suppressed_as (suppression client suppressed)) rows.frameworks
with_suppression-is rows client suppressed = λ i. map (λ f. suppressed_in-is client suppressed f i) rows.frameworks

module _ (is_quiet : FrameworkRow → ClientRow → Bool) where
  roles_as : (f : FrameworkRow) → map (λ c. c.role) (suppressed_as is_quiet f).clients ≡ map (λ c. c.role) f.clients
  roles_as f = map-map (λ (c : ClientRow). c.role) (quiet_as (is_quiet f)) f.clients

  registered_as : (fs : List FrameworkRow) (client : Client)
      → is_registered (map (suppressed_as is_quiet) fs) client ≡ is_registered fs client
  registered_as [] client = refl
  registered_as (f ∷ fs) client =
      let roles = list_any-map (λ (c : ClientRow). same_path c.role client.role) (quiet_as (is_quiet f)) f.clients in
      λ i. (same_text f.name client.framework && roles i) || registered_as fs client i

  clients_as : (fs : List FrameworkRow)
      → flat_map (λ f. map (client_of f) f.clients) (map (suppressed_as is_quiet) fs) ≡ flat_map (λ f. map (client_of f) f.clients) fs
  clients_as [] = refl
  clients_as (f ∷ fs) =
      λ i. map-map (client_of f) (quiet_as (is_quiet f)) f.clients i ++ clients_as fs i

  counted_as : (fs : List FrameworkRow) → offers_counted (map (suppressed_as is_quiet) fs) ≡ offers_counted fs
  counted_as fs =
      sum_by-map (λ (f : FrameworkRow). sum_by (λ c. c.count) f.clients) (suppressed_as is_quiet) fs
      ∙ (λ i. sum_by (λ f. sum_by-map (λ (c : ClientRow). c.count) (quiet_as (is_quiet f)) f.clients i) fs)

module _ (rows : Rows) (client : Client) (suppressed : Bool) where
  abbrev quiet : FrameworkRow → ClientRow → Bool
  quiet = suppression client suppressed

  same_frameworks : map (suppressed_as quiet) rows.frameworks ≡ with_suppression rows client suppressed
  same_frameworks = sym (with_suppression-is rows client suppressed)

  -- names, clients and counts stay
  pub names-with_suppression : map (λ f. f.name) (with_suppression rows client suppressed) ≡ map (λ f. f.name) rows.frameworks
  names-with_suppression =
      sym (ap (map (λ (f : FrameworkRow). f.name)) same_frameworks)
      ∙ map-map (λ (f : FrameworkRow). f.name) (suppressed_as quiet) rows.frameworks

  pub is_registered-with_suppression : (other : Client)
      → is_registered (with_suppression rows client suppressed) other ≡ is_registered rows.frameworks other
  is_registered-with_suppression other =
      sym (ap (λ (fs : List FrameworkRow). is_registered fs other) same_frameworks) ∙ registered_as quiet rows.frameworks other

  pub clients_of-with_suppression : clients_of (record rows { frameworks = with_suppression rows client suppressed }) ≡ clients_of rows
  clients_of-with_suppression =
      sym (ap (flat_map (λ (f : FrameworkRow). map (client_of f) f.clients)) same_frameworks) ∙ clients_as quiet rows.frameworks

  pub offers_counted-with_suppression : offers_counted (with_suppression rows client suppressed) ≡ offers_counted rows.frameworks
  offers_counted-with_suppression = sym (ap offers_counted same_frameworks) ∙ counted_as quiet rows.frameworks

  pub AreFrameworks-with_suppression : AreFrameworks rows.frameworks → AreFrameworks (with_suppression rows client suppressed)
  AreFrameworks-with_suppression right =
      let HasRoles : FrameworkRow → Type 0 = λ f. are_distinct_roles (map (λ c. c.role) f.clients) ≡ true in
      record {
        names = ap are_distinct names-with_suppression ∙ right.names;
        roles = subst (AllByRecursion HasRoles) same_frameworks (each_map HasRoles (suppressed_as quiet) rows.frameworks
            (each_from HasRoles (λ f. HasRoles (suppressed_as quiet f)) rows.frameworks
            (λ f apart. ap are_distinct_roles (roles_as quiet f) ∙ apart) right.roles));
        each = subst (AllByRecursion IsFramework) same_frameworks (each_map IsFramework (suppressed_as quiet) rows.frameworks
            (each_from IsFramework (λ f. IsFramework (suppressed_as quiet f)) rows.frameworks
            (λ f valid. record { name = valid.name; roles = subst (AllByRecursion IsRole) (sym (roles_as quiet f)) valid.roles })
            right.each));
      }

  pub IsConsistent-with_suppression : IsConsistent rows
      → IsConsistent (record rows { frameworks = with_suppression rows client suppressed })
  IsConsistent-with_suppression consistent =
      let frameworks : List FrameworkRow = with_suppression rows client suppressed in
      record {
        agents = consistent.agents;
        frameworks = AreFrameworks-with_suppression consistent.frameworks;
        holdings = each_from (IsHeld rows.agents rows.frameworks) (IsHeld rows.agents frameworks) (holdings_of rows)
            (λ h held. record {
              agent = held.agent;
              client = is_registered-with_suppression h.client ∙ held.client;
              bundle = held.bundle;
            }) consistent.holdings;
        covered = consistent.covered;
        tasks = consistent.tasks;
        weights = consistent.weights;
        limits = consistent.limits;
        filters = each_from (IsFilter rows.agents rows.frameworks) (IsFilter rows.agents frameworks) rows.filters
            (λ f right. record {
              agent = right.agent;
              client = is_registered-with_suppression (record { role = f.role; framework = f.framework }) ∙ right.client;
              bundle = right.bundle;
              until = right.until;
            }) consistent.filters;
        early = consistent.early;
        counted = omega (arith, offers_counted-with_suppression, consistent.counted);
        numbered = consistent.numbered;
      }

-- reviving a client
pub IsConsistent-revived : (rows : Rows) (client : Client) → IsConsistent rows → IsConsistent (revived rows client)
IsConsistent-revived rows client consistent =
    IsConsistent-filters_kept (record rows { frameworks = with_suppression rows client false }) (λ f. not (is_of_client client f))
    (IsConsistent-with_suppression rows client false consistent)

-- ---- filtered lists

each_kept : {X : Type 0} (P : X → Type 0) (q : X → Bool) (xs : List X)
    → AllByRecursion (λ x. q x ≡ true → P x) xs → AllByRecursion P (filter q xs)
each_kept P q [] all = tt
each_kept P q (x ∷ xs) all = elim (cases_Bool (q x)) [
  | inl here ↦ rw here (all.0 here, each_kept P q xs all.1)
  | inr past ↦ rw past (each_kept P q xs all.1)
]

-- an element that passes a test is still found if the filter keeps it
list_any-kept : {X : Type 0} (p q : X → Bool) (xs : List X) → ((x : X) → p x ≡ true → q x ≡ true)
    → list_any p xs ≡ true → list_any p (filter q xs) ≡ true
list_any-kept p q [] stays any = any
list_any-kept p q (x ∷ xs) stays any = elim (cases_Bool (q x)) [
  | inl here ↦ rw here (elim (or_cases (p x) (list_any p xs) any) [
    | inl now ↦ or_left (p x) (list_any p (filter q xs)) now
    | inr later ↦ or_right (p x) (list_any p (filter q xs)) (list_any-kept p q xs stays later)
  ])
  | inr past ↦ rw past (elim (or_cases (p x) (list_any p xs) any) [
    | inl now ↦ absurd (false≢true (sym past ∙ stays x now))
    | inr later ↦ list_any-kept p q xs stays later
  ])
]

none_has-kept : {X : Type 0} (name : X → Text) (n : Text) (q : X → Bool) (xs : List X)
    → none_has same_text name n xs ≡ true → none_has same_text name n (filter q xs) ≡ true
none_has-kept name n q [] none = none
none_has-kept name n q (x ∷ xs) none =
    let parts = and_parts (not (same_text n (name x))) (none_has same_text name n xs) none in
    elim (cases_Bool (q x)) [
      | inl here ↦ rw here (and_from (not (same_text n (name x))) (none_has same_text name n (filter q xs))
          parts.0 (none_has-kept name n q xs parts.1))
      | inr past ↦ rw past (none_has-kept name n q xs parts.1)
    ]

are_distinct-kept : {X : Type 0} (name : X → Text) (q : X → Bool) (xs : List X)
    → are_distinct (map name xs) ≡ true → are_distinct (map name (filter q xs)) ≡ true
are_distinct-kept name q [] apart = apart
are_distinct-kept name q (x ∷ xs) apart =
    let parts = and_parts (none_has same_text name (name x) xs) (are_distinct (map name xs)) apart in
    elim (cases_Bool (q x)) [
      | inl here ↦ rw here (and_from (none_has same_text name (name x) (filter q xs)) (are_distinct (map name (filter q xs)))
          (none_has-kept name (name x) q xs parts.0) (are_distinct-kept name q xs parts.1))
      | inr past ↦ rw past (are_distinct-kept name q xs parts.1)
    ]

sum_by-kept : {X : Type 0} (f : X → ℕ) (q : X → Bool) (xs : List X) → sum_by f (filter q xs) ≤ sum_by f xs
sum_by-kept f q [] = omega arith
sum_by-kept f q (x ∷ xs) = omega (arith, sum_by-filter-cons f q x xs, cond_le (q x) (f x), sum_by-cons f x xs, sum_by-kept f q xs)

-- ---- removing an agent

-- nothing is held on it
pub none_on : (rows : Rows) (name : Text) → without_ended rows (all_on name) ≡ rows
    → AllByRecursion (λ h. same_text h.agent name ≡ false) (holdings_of rows)
none_on rows name nothing =
    let Past : Holding → Type 0 = λ h. same_text h.agent name ≡ false in
    each_append Past (map holding_of_offer rows.offers) (map holding_of_task rows.tasks)
    (each_map Past holding_of_offer rows.offers
    (none-filter (λ (o : OfferRow). same_text o.agent name) rows.offers (ap (λ (r : Rows). r.offers) nothing)))
    (each_map Past holding_of_task rows.tasks
    (none-filter (λ (t : TaskRow). same_text t.agent name) rows.tasks (ap (λ (r : Rows). r.tasks) nothing)))

-- if a and b have the same name and b is not n, then a is not n
other_name : (a b n : Text) → same_text a b ≡ true → same_text b n ≡ false → not (same_text a n) ≡ true
other_name a b n same other = ap (λ (t : Text). not (same_text t n)) (same_from_test a b same) ∙ ap not other

module _ (rows : Rows) (name : Text) (nothing : without_ended rows (all_on name) ≡ rows) where
  abbrev stays : AgentRow → Bool
  stays a = not (same_text a.name name)

  abbrev others : List AgentRow
  others = filter stays rows.agents

  removed : agent_removed rows name ≡ record rows { agents = others; filters = filters_without_agent name rows.filters }
  removed = λ i. record (nothing i) { agents = others; filters = filters_without_agent name rows.filters }

  pub IsConsistent-agent_removed : IsConsistent rows → IsConsistent (agent_removed rows name)
  IsConsistent-agent_removed consistent =
      let known : (agent : Text) → same_text agent name ≡ false → has_agent rows agent ≡ true
      → list_any (λ a. same_text a.name agent) others ≡ true
      = λ agent other. list_any-kept (λ (a : AgentRow). same_text a.name agent) stays rows.agents
      (λ a same. other_name a.name agent name same other) in
      subst IsConsistent (sym removed) (record {
        agents = record {
          names = are_distinct-kept (λ (a : AgentRow). a.name) stays rows.agents consistent.agents.names;
          each = each_filter IsAgent stays rows.agents consistent.agents.each;
        };
        frameworks = consistent.frameworks;
        holdings = each_from_both (IsHeld rows.agents rows.frameworks) (λ h. same_text h.agent name ≡ false)
            (IsHeld others rows.frameworks) (holdings_of rows)
            (λ h held other. record { agent = known h.agent other held.agent; client = held.client; bundle = held.bundle })
            consistent.holdings (none_on rows name nothing);
        covered = each_filter (IsCovered (holdings_of rows)) stays rows.agents consistent.covered;
        tasks = consistent.tasks;
        weights = consistent.weights;
        limits = consistent.limits;
        filters = each_kept (IsFilter others rows.frameworks) (λ f. not (is_on_agent name f)) rows.filters
            (each_from (IsFilter rows.agents rows.frameworks)
            (λ f. not (is_on_agent name f) ≡ true → IsFilter others rows.frameworks f) rows.filters
            (λ f right past. record {
              agent = known f.agent (not-true (same_text f.agent name) past) right.agent;
              client = right.client;
              bundle = right.bundle;
              until = right.until;
            }) consistent.filters);
        early = consistent.early;
        counted = consistent.counted;
        numbered = consistent.numbered;
      })

-- ---- removing a framework

-- it holds nothing
pub none_of : (rows : Rows) (name : Text) → without_ended rows (all_of name) ≡ rows
    → AllByRecursion (λ h. same_text h.client.framework name ≡ false) (holdings_of rows)
none_of rows name nothing =
    let Past : Holding → Type 0 = λ h. same_text h.client.framework name ≡ false in
    each_append Past (map holding_of_offer rows.offers) (map holding_of_task rows.tasks)
    (each_map Past holding_of_offer rows.offers
    (none-filter (λ (o : OfferRow). same_text o.framework name) rows.offers (ap (λ (r : Rows). r.offers) nothing)))
    (each_map Past holding_of_task rows.tasks
    (none-filter (λ (t : TaskRow). same_text t.framework name) rows.tasks (ap (λ (r : Rows). r.tasks) nothing)))

module _ (rows : Rows) (name : Text) (nothing : without_ended rows (all_of name) ≡ rows) where
  abbrev stays_of : FrameworkRow → Bool
  stays_of f = not (same_text f.name name)

  abbrev others_of : List FrameworkRow
  others_of = filter stays_of rows.frameworks

  removed_of : framework_removed rows name ≡ record rows { frameworks = others_of; filters = filters_without_framework name rows.filters }
  removed_of = λ i. record (nothing i) { frameworks = others_of; filters = filters_without_framework name rows.filters }

  -- the clients of other frameworks stay registered
  pub is_registered-framework_removed : (client : Client) → same_text client.framework name ≡ false
      → is_registered rows.frameworks client ≡ true
      → is_registered (filter (λ f. not (same_text f.name name)) rows.frameworks) client ≡ true
  is_registered-framework_removed client other =
      let roles : FrameworkRow → Bool = λ f. list_any (λ c. same_path c.role client.role) f.clients in
      list_any-kept (λ (f : FrameworkRow). same_text f.name client.framework && roles f) stays_of rows.frameworks
      (λ f here. other_name f.name client.framework name (and_parts (same_text f.name client.framework) (roles f) here).0 other)

  pub IsConsistent-framework_removed : IsConsistent rows → IsConsistent (framework_removed rows name)
  IsConsistent-framework_removed consistent =
      let HasRoles : FrameworkRow → Type 0 = λ f. are_distinct_roles (map (λ c. c.role) f.clients) ≡ true in
      subst IsConsistent (sym removed_of) (record {
        agents = consistent.agents;
        frameworks = record {
          names = are_distinct-kept (λ (f : FrameworkRow). f.name) stays_of rows.frameworks consistent.frameworks.names;
          roles = each_filter HasRoles stays_of rows.frameworks consistent.frameworks.roles;
          each = each_filter IsFramework stays_of rows.frameworks consistent.frameworks.each;
        };
        holdings = each_from_both (IsHeld rows.agents rows.frameworks) (λ h. same_text h.client.framework name ≡ false)
            (IsHeld rows.agents others_of) (holdings_of rows)
            (λ h held other. record {
              agent = held.agent;
              client = is_registered-framework_removed h.client other held.client;
              bundle = held.bundle;
            })
            consistent.holdings (none_of rows name nothing);
        covered = consistent.covered;
        tasks = consistent.tasks;
        weights = consistent.weights;
        limits = consistent.limits;
        filters = each_kept (IsFilter rows.agents others_of) (λ f. not (same_text f.framework name)) rows.filters
            (each_from (IsFilter rows.agents rows.frameworks)
            (λ f. not (same_text f.framework name) ≡ true → IsFilter rows.agents others_of f) rows.filters
            (λ f right past. record {
              agent = right.agent;
              client = is_registered-framework_removed (record { role = f.role; framework = f.framework })
                  (not-true (same_text f.framework name) past) right.client;
              bundle = right.bundle;
              until = right.until;
            }) consistent.filters);
        early = consistent.early;
        counted = omega (
          arith,
          sum_by-kept (λ (f : FrameworkRow). sum_by (λ c. c.count) f.clients) stays_of rows.frameworks,
          consistent.counted,
        );
        numbered = consistent.numbered;
      })

-- ---- what the other agents have

-- how much of a scalar an agent has
abbrev pub amount_on : Text → AgentRow → ℕ
amount_on label agent = amount_of (quantities_of agent.total) label

amount-added : (start : List Entry) (agents : List AgentRow) (label : Text) → AllByRecursion IsAgent agents
    → amount_of (fold (λ sum agent. plus sum (quantities_of agent.total)) start agents) label
    ≡ amount_of start label + sum_by (amount_on label) agents
amount-added start [] label all = omega arith
amount-added start (a ∷ agents) label all = omega (
  arith,
  amount-added (plus start (quantities_of a.total)) agents label all.1,
  amount-plus start (quantities_of a.total) label (quantities_no_zeros a.total all.0.total).in_order,
  sum_by-cons (amount_on label) a agents,
)

-- the cluster's total is the sum over all agents
pub amount-cluster_total : (agents : List AgentRow) (label : Text) → AllByRecursion IsAgent agents
    → amount_of (cluster_total agents) label ≡ sum_by (amount_on label) agents
amount-cluster_total agents label all = amount-added [] agents label all ∙ omega arith

-- if no two names are equal, the name of one element is not that of another
none_has-one : {X : Type 0} (name : X → Text) (n : Text) (xs ys : List X) (x : X)
    → none_has same_text name n (xs ++ x ∷ ys) ≡ true → same_text n (name x) ≡ false
none_has-one name n [] ys x none =
    not-true (same_text n (name x)) (and_parts (not (same_text n (name x))) (none_has same_text name n ys) none).0
none_has-one name n (z ∷ xs) ys x none =
    none_has-one name n xs ys x (and_parts (not (same_text n (name z))) (none_has same_text name n (xs ++ x ∷ ys)) none).1

none_has-each : {X : Type 0} (name : X → Text) (n : Text) (xs : List X)
    → none_has same_text name n xs ≡ true → AllByRecursion (λ y. same_text (name y) n ≡ false) xs
none_has-each name n [] none = tt
none_has-each name n (x ∷ xs) none =
    let parts = and_parts (not (same_text n (name x))) (none_has same_text name n xs) none in
    (same_text-swap (name x) n ∙ not-true (same_text n (name x)) parts.0, none_has-each name n xs parts.1)

pub others_of_name : {X : Type 0} (name : X → Text) (before after : List X) (x : X)
    → are_distinct (map name (before ++ x ∷ after)) ≡ true
    → AllByRecursion (λ y. same_text (name y) (name x) ≡ false) (before ++ after)
others_of_name name [] after x apart =
    none_has-each name (name x) after (and_parts (none_has same_text name (name x) after) (are_distinct (map name after)) apart).0
others_of_name {X} name (y ∷ before) after x apart =
    let later : List X = before ++ x ∷ after in
    let parts = and_parts (none_has same_text name (name y) later) (are_distinct (map name later)) apart in
    (none_has-one name (name y) before after x parts.0, others_of_name name before after x parts.1)

-- removing the elements with a name removes exactly this one
pub without_named : {X : Type 0} (name : X → Text) (xs before after : List X) (x : X)
    → are_distinct (map name xs) ≡ true → xs ≡ before ++ x ∷ after
    → filter (λ y. not (same_text (name y) (name x))) xs ≡ before ++ after
without_named {X} name xs before after x apart stands =
    let stays : X → Bool = λ y. not (same_text (name y) (name x)) in
    ap (filter stays) stands
    ∙ filter-one (λ y. same_text (name y) (name x)) before after x (same_itself (name x))
    (others_of_name name before after x (sym (ap (λ (ys : List X). are_distinct (map name ys)) stands) ∙ apart))

-- the cluster's total is what the others have and what this one has
pub amount-without_agent : (agents before after : List AgentRow) (a : AgentRow) (label : Text)
    → AreAgents agents → agents ≡ before ++ a ∷ after
    → amount_of (cluster_total (filter (λ b. not (same_text b.name a.name)) agents)) label + amount_of (quantities_of a.total) label
    ≡ amount_of (cluster_total agents) label
amount-without_agent agents before after a label right stands =
    let stays : AgentRow → Bool = λ b. not (same_text b.name a.name) in
    omega (
      arith,
      amount-cluster_total (filter stays agents) label (each_filter IsAgent stays agents right.each),
      ap (sum_by (amount_on label)) (without_named (λ (b : AgentRow). b.name) agents before after a right.names stands),
      amount-cluster_total agents label right.each,
      ap (sum_by (amount_on label)) stands,
      sum_by-out (amount_on label) before after a,
    )

-- the same if the agent is found by its name
pub amount-without_named : (agents : List AgentRow) (name : Text) (a : AgentRow) (label : Text)
    → AreAgents agents → find (λ b. same_text b.name name) agents ≡ Some a
    → amount_of (cluster_total (filter (λ b. not (same_text b.name name)) agents)) label + amount_of (quantities_of a.total) label
    ≡ amount_of (cluster_total agents) label
amount-without_named agents name a label right found =
    let at = find-place (λ (b : AgentRow). same_text b.name name) agents a found in
    let without : Text → ℕ = λ n. amount_of (cluster_total (filter (λ b. not (same_text b.name n)) agents)) label in
    subst (λ (n : Text). without n + amount_of (quantities_of a.total) label ≡ amount_of (cluster_total agents) label)
    (same_from_test a.name name at.1)
    (amount-without_agent agents at.0.before at.0.after a label right at.0.stands)
