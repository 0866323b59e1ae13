-- Registering an agent or a framework: what the state says about it, and that it stays consistent.
use Rattle.std.specs.Prelude.{◌≡◌, ◌+◌, ◌&&◌, true, false, not, List, [], ◌∷◌, ◌++◌, length, map, filter, sum_by}
use Rattle.std.specs.List.{list_any, AllByRecursion}
use Rattle.std.proofs.Common.{refl, sym, ap, ◌∙◌, inl, inr, arith}
use Rattle.std.proofs.lemmas.Bool.{cases_Bool, false≢true, and_parts, or_left, or_parts}
use Rattle.std.proofs.lemmas.Grind.{flat_map-append, fold-append}
use Rattle.std.proofs.lemmas.List.{append-nil, length-append, length-map}
use Rattle.std.proofs.lemmas.List.Folds.{list_any-append}
use Rattle.std.proofs.lemmas.List.Sums.{sum_by-cons, sum_by-append}
use Rattle.drf_role.specs.Text.{Text, same_text}
use Rattle.drf_role.specs.TextLaws.{same_from_test}
use Rattle.drf_bundle.specs.Quantities.{plus}
use Rattle.drf_bundle.specs.Bundle.{quantities_of}
use Rattle.drf_bundle.specs.Taken.{units_of_all}
use Rattle.drf_bundle.specs.declared.resource.Resource.{Resource}
use Rattle.drf_role.specs.Path.{same_path}
use Rattle.drf_rows.specs.Client.{Client}
use Rattle.drf_rows.specs.Holdings.{Holding, holdings_of, is_on, parts_on}
use Rattle.drf_rows.specs.Held.{client_of, clients_of, cluster_total, is_registered}
use Rattle.drf_rows.specs.Step.{opening}
use Rattle.drf_rows.specs.Members.{has_agent, has_framework, with_agent}
use Rattle.drf_bundle.proofs.ListLaws.{each_from, each_append, none_has}
use Rattle.drf_rows.specs.Consistent.{are_distinct, are_distinct_roles, offers_counted, IsAgent, IsFramework, IsHeld, IsCovered, IsConsistent, IsFilter}
use Rattle.drf_rows.specs.declared.rows.AgentRow.{AgentRow}
use Rattle.drf_rows.specs.declared.rows.ClientRow.{ClientRow}
use Rattle.drf_rows.specs.declared.rows.FrameworkRow.{FrameworkRow}
use Rattle.drf_rows.specs.declared.rows.Rows.{Rows}

-- the row of a new agent
abbrev pub new_agent : Text → List Resource → AgentRow
new_agent name total = record { name = name; total = total; active = true }

-- the state with a new agent added last
abbrev pub agent_added : Rows → Text → List Resource → Rows
agent_added rows name total = record rows { agents = with_agent rows name total }

-- the state with a new framework added last
abbrev pub framework_added : Rows → FrameworkRow → Rows
framework_added rows f = record rows { frameworks = rows.frameworks ++ f ∷ [] }

-- ---- names

none_has-push : {X : Type 0} (name : X → Text) (n : Text) (xs : List X) (x : X)
    → none_has same_text name n xs ≡ true → same_text n (name x) ≡ false → none_has same_text name n (xs ++ x ∷ []) ≡ true
none_has-push name n [] x all other = rw other refl
none_has-push name n (y ∷ ys) x all other =
    let parts = and_parts (not (same_text n (name y))) (none_has same_text name n ys) all in
    rw (parts.0) (none_has-push name n ys x parts.1 other)

-- a new name is different from the others
are_distinct-push : {X : Type 0} (name : X → Text) (xs : List X) (x : X)
    → are_distinct (map name xs) ≡ true → list_any (λ y. same_text (name y) (name x)) xs ≡ false
    → are_distinct (map name (xs ++ x ∷ [])) ≡ true
are_distinct-push name [] x apart new = refl
are_distinct-push name (y ∷ ys) x apart new =
    let parts = and_parts (none_has same_text name (name y) ys) (are_distinct (map name ys)) apart in
    let none = or_parts (same_text (name y) (name x)) (list_any (λ y. same_text (name y) (name x)) ys) new in
    rw (none_has-push name (name y) ys x parts.0 none.0) (are_distinct-push name ys x parts.1 none.1)

-- ---- a new agent

-- nothing is held on an agent that is not registered
nothing_on : (rows : Rows) (name : Text) (hs : List Holding)
    → AllByRecursion (IsHeld rows.agents rows.frameworks) hs → has_agent rows name ≡ false → filter (is_on name) hs ≡ []
nothing_on rows name [] all new = refl
nothing_on rows name (h ∷ hs) all new = elim (cases_Bool (same_text h.agent name)) [
  | inl same ↦ absurd (false≢true (sym new ∙ ap (has_agent rows) (sym (same_from_test h.agent name same)) ∙ all.0.agent))
  | inr other ↦ rw other (nothing_on rows name hs all.1 new)
]

pub parts_on-nothing : (rows : Rows) (name : Text)
    → IsConsistent rows → has_agent rows name ≡ false → parts_on name (holdings_of rows) ≡ []
parts_on-nothing rows name consistent new =
    ap (map (λ (h : Holding). h.bundle)) (nothing_on rows name (holdings_of rows) consistent.holdings new)

-- its total is added to the cluster's
pub cluster_total-with_agent : (rows : Rows) (name : Text) (total : List Resource)
    → cluster_total (with_agent rows name total) ≡ plus (cluster_total rows.agents) (quantities_of total)
cluster_total-with_agent rows name total =
    fold-append (λ sum agent. plus sum (quantities_of agent.total)) [] rows.agents (new_agent name total ∷ [])

pub IsConsistent-agent_added : (rows : Rows) (name : Text) (total : List Resource)
    → IsConsistent rows → has_agent rows name ≡ false → IsAgent (new_agent name total)
    → IsConsistent (agent_added rows name total)
IsConsistent-agent_added rows name total consistent new right =
    let agent = new_agent name total in
    let stays : (h : Holding)
    → IsHeld rows.agents rows.frameworks h → IsHeld (with_agent rows name total) rows.frameworks h =
    λ h here. record {
      agent = list_any-append (λ (a : AgentRow). same_text a.name h.agent) rows.agents (agent ∷ [])
          ∙ or_left (has_agent rows h.agent) (list_any (λ (a : AgentRow). same_text a.name h.agent) (agent ∷ [])) here.agent;
      client = here.client;
      bundle = here.bundle;
    } in
    let covers : IsCovered (holdings_of rows) agent =
    λ key p. omega (arith, ap (λ parts. units_of_all parts key p) (parts_on-nothing rows name consistent new)) in
    record {
      agents = record {
        names = are_distinct-push (λ (a : AgentRow). a.name) rows.agents agent consistent.agents.names new;
        each = each_append IsAgent rows.agents (agent ∷ []) consistent.agents.each (right, tt);
      };
      frameworks = consistent.frameworks;
      holdings =
          each_from (IsHeld rows.agents rows.frameworks) (IsHeld (with_agent rows name total) rows.frameworks)
          (holdings_of rows) stays consistent.holdings;
      covered = each_append (IsCovered (holdings_of rows)) rows.agents (agent ∷ []) consistent.covered (covers, tt);
      tasks = consistent.tasks;
      weights = consistent.weights;
      limits = consistent.limits;
      filters = each_from (IsFilter rows.agents rows.frameworks) (IsFilter (with_agent rows name total) rows.frameworks) rows.filters
          (λ f here. record {
            agent = list_any-append (λ (a : AgentRow). same_text a.name f.agent) rows.agents (agent ∷ [])
                ∙ or_left (has_agent rows f.agent) (list_any (λ (a : AgentRow). same_text a.name f.agent) (agent ∷ [])) here.agent;
            client = here.client;
            bundle = here.bundle;
            until = here.until;
          }) consistent.filters;
      early = consistent.early;
      counted = consistent.counted;
      numbered = consistent.numbered;
    }

-- ---- a new framework

-- its clients are added last
pub clients_of-framework_added : (rows : Rows) (f : FrameworkRow)
    → clients_of (framework_added rows f) ≡ clients_of rows ++ map (client_of f) f.clients
clients_of-framework_added rows f =
    flat_map-append (λ f. map (client_of f) f.clients) rows.frameworks (f ∷ [])
    ∙ ap (λ cs. clients_of rows ++ cs) (append-nil (map (client_of f) f.clients))

pub length-clients_of-framework_added : (rows : Rows) (f : FrameworkRow)
    → length (clients_of (framework_added rows f)) ≡ length (clients_of rows) + length f.clients
length-clients_of-framework_added rows f =
    ap length (clients_of-framework_added rows f)
    ∙ length-append (clients_of rows) (map (client_of f) f.clients)
    ∙ ap (λ n. length (clients_of rows) + n) (length-map f.clients (client_of f))

-- clients with the count 0 add nothing to the sum
nothing_counted : (cs : List ClientRow) → AllByRecursion (λ c. c.count ≡ 0) cs → sum_by (λ c. c.count) cs ≡ 0
nothing_counted [] all = refl
nothing_counted (c ∷ cs) all = omega (arith, sum_by-cons (λ (c : ClientRow). c.count) c cs, all.0, nothing_counted cs all.1)

offers_counted-push : (fs : List FrameworkRow) (f : FrameworkRow)
    → AllByRecursion (λ c. c.count ≡ 0) f.clients → offers_counted (fs ++ f ∷ []) ≡ offers_counted fs
offers_counted-push fs f none =
    let counts = λ (f : FrameworkRow). sum_by (λ (c : ClientRow). c.count) f.clients in
    omega (arith, sum_by-append counts fs (f ∷ []), sum_by-cons counts f [], nothing_counted f.clients none)

registered-push : (fs : List FrameworkRow) (f : FrameworkRow) (client : Client)
    → is_registered fs client ≡ true → is_registered (fs ++ f ∷ []) client ≡ true
registered-push fs f client known =
    let test =
    λ (f : FrameworkRow).
    same_text f.name client.framework && list_any (λ (c : ClientRow). same_path c.role client.role) f.clients in
    list_any-append test fs (f ∷ []) ∙ or_left (list_any test fs) (list_any test (f ∷ [])) known

pub IsConsistent-framework_added : (rows : Rows) (f : FrameworkRow)
    → IsConsistent rows → has_framework rows f.name ≡ false → IsFramework f
    → are_distinct_roles (map (λ c. c.role) f.clients) ≡ true
    → AllByRecursion (λ c. c.count ≡ 0) f.clients → IsConsistent (framework_added rows f)
IsConsistent-framework_added rows f consistent new valid apart none =
    let frameworks : List FrameworkRow = rows.frameworks ++ f ∷ [] in
    let stays : (h : Holding) → IsHeld rows.agents rows.frameworks h → IsHeld rows.agents frameworks h = λ h here. record {
      agent = here.agent;
      client = registered-push rows.frameworks f h.client here.client;
      bundle = here.bundle;
    } in
    record {
      agents = consistent.agents;
      frameworks = record {
        names = are_distinct-push (λ (f : FrameworkRow). f.name) rows.frameworks f consistent.frameworks.names new;
        roles =
            each_append (λ f. are_distinct_roles (map (λ c. c.role) f.clients) ≡ true) rows.frameworks (f ∷ [])
            consistent.frameworks.roles (apart, tt);
        each = each_append IsFramework rows.frameworks (f ∷ []) consistent.frameworks.each (valid, tt);
      };
      holdings =
          each_from (IsHeld rows.agents rows.frameworks) (IsHeld rows.agents frameworks)
          (holdings_of rows) stays consistent.holdings;
      covered = consistent.covered;
      tasks = consistent.tasks;
      weights = consistent.weights;
      limits = consistent.limits;
      filters = each_from (IsFilter rows.agents rows.frameworks) (IsFilter rows.agents frameworks) rows.filters
          (λ g here. record {
            agent = here.agent;
            client = registered-push rows.frameworks f (record { role = g.role; framework = g.framework }) here.client;
            bundle = here.bundle;
            until = here.until;
          }) consistent.filters;
      early = consistent.early;
      counted = omega (arith, offers_counted-push rows.frameworks f none, consistent.counted);
      numbered = consistent.numbered;
    }

-- ---- the empty state

pub IsConsistent-opening : IsConsistent opening
IsConsistent-opening = record {
  agents = record { names = refl; each = tt };
  frameworks = record { names = refl; roles = tt; each = tt };
  holdings = tt;
  covered = tt;
  tasks = refl;
  weights = record { roles = refl; each = refl; valid = tt };
  limits = record { roles = refl; each = refl; valid = tt };
  filters = tt;
  early = omega arith;
  counted = omega arith;
  numbered = refl;
}
