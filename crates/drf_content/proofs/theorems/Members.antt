-- Which clients a sorter knows, and how the content changes when agents and frameworks register.
use Rattle.std.specs.Prelude.{◌≡◌, ◌&&◌, ◌||◌, Bool, true, false, List, [], ◌∷◌, ◌++◌, map, flat_map}
use Rattle.std.specs.List.{list_any}
use Rattle.std.proofs.Common.{refl, sym, ap, ◌∙◌, append_assoc}
use Rattle.std.proofs.lemmas.List.{map-append, append-nil}
use Rattle.std.proofs.lemmas.List.Folds.{list_any-append}
use Rattle.std.proofs.lemmas.Grind.{fold-append}
use Rattle.drf_role.specs.Text.{Text, same_text}
use Rattle.drf_role.specs.Path.{Path, same_path, client_path}
use Rattle.drf_role.proofs.PathLaws.{same_path-client_path}
use Rattle.drf_bundle.specs.Quantities.{plus}
use Rattle.drf_bundle.specs.Bundle.{quantities_of}
use Rattle.drf_bundle.specs.declared.resource.Resource.{Resource}
use Rattle.drf_rows.specs.Client.{Client, path_of}
use Rattle.drf_rows.specs.Holdings.{Holding, holdings_of}
use Rattle.drf_rows.specs.Held.{cluster_total, is_registered}
use Rattle.drf_rows.specs.Members.{has_framework, with_agent, new_client}
use Rattle.drf_rows.specs.Consistent.{IsConsistent}
use Rattle.drf_row_laws.proofs.ConsistentLaws.{has_its_role, is_row_of}
use Rattle.drf_bundle.proofs.ListLaws.{list_any-both}
use Rattle.drf_rows.specs.declared.rows.AgentRow.{AgentRow}
use Rattle.drf_rows.specs.declared.rows.ClientRow.{ClientRow}
use Rattle.drf_rows.specs.declared.rows.FrameworkRow.{FrameworkRow}
use Rattle.drf_rows.specs.declared.rows.Rows.{Rows}
use Rattle.drf_sorter.specs.Content.{Ranked, has_client, with_client}
use Rattle.drf_content.specs.Content.{ranked, content_of}
use Rattle.drf_content.proofs.theorems.Client.{ranked_all, ranked-path}
use Rattle.drf_laws.proofs.theorems.Clients.{is_framework, unregistered, nothing_held}

-- ---- known clients

-- the sorter's client is this client
abbrev is_at : Client → Ranked → Bool
is_at client r = same_path r.path (path_of client)

-- the clients of one framework
known_each : (hs : List Holding) (client : Client) (f : FrameworkRow) (cs : List ClientRow)
    → list_any (is_at client) (map (ranked hs f) cs) ≡ list_any (is_row_of client f) cs
known_each hs client f [] = refl
known_each hs client f (c ∷ cs) =
    let here : is_at client (ranked hs f c) ≡ is_row_of client f c
    = ap (λ (p : Path). same_path p (path_of client)) (ranked-path hs f c)
    ∙ same_path-client_path c.role client.role f.name client.framework in
    λ i. here i || known_each hs client f cs i

known_all : (hs : List Holding) (client : Client) (fs : List FrameworkRow)
    → list_any (is_at client) (flat_map (ranked_all hs) fs) ≡ is_registered fs client
known_all hs client [] = refl
known_all hs client (f ∷ fs) =
    let named : Bool = same_text f.name client.framework in
    let first : list_any (is_at client) (ranked_all hs f) ≡ (named && list_any (has_its_role client) f.clients)
    = known_each hs client f f.clients ∙ list_any-both named (has_its_role client) f.clients in
    list_any-append (is_at client) (ranked_all hs f) (flat_map (ranked_all hs) fs)
    ∙ (λ i. first i || known_all hs client fs i)

-- a sorter knows exactly the registered clients
pub has_client-content_of : (rows : Rows) (client : Client)
    → has_client (content_of rows) (path_of client) ≡ is_registered rows.frameworks client
unfolding content_of
has_client-content_of rows client = known_all (holdings_of rows) client rows.frameworks

pub has_client-registered : (rows : Rows) (client : Client)
    → is_registered rows.frameworks client ≡ true → has_client (content_of rows) (path_of client) ≡ true
has_client-registered rows client known = has_client-content_of rows client ∙ known

-- ---- agents and frameworks register

-- a new agent changes only the total
pub content_of-with_agent : (rows : Rows) (name : Text) (total : List Resource)
    → content_of (record rows { agents = with_agent rows name total })
    ≡ record (content_of rows) { total = plus (cluster_total rows.agents) (quantities_of total) }
unfolding content_of
content_of-with_agent rows name total =
    let agent : AgentRow = record { name = name; total = total; active = true } in
    let more : cluster_total (rows.agents ++ agent ∷ []) ≡ plus (cluster_total rows.agents) (quantities_of total)
    = fold-append (λ sum (a : AgentRow). plus sum (quantities_of a.total)) [] rows.agents (agent ∷ []) in
    λ i. record {
      clients = flat_map (λ f. map (ranked (holdings_of rows) f) f.clients) rows.frameworks;
      total = more i;
      weights = rows.weights;
    }

-- the rows with one more framework that has a client for each of some roles
abbrev pub with_clients : Rows → Text → List Path → Rows
with_clients rows name roles = record rows {
  frameworks = rows.frameworks ++ record { name = name; clients = map new_client roles } ∷ [];
}

-- the new framework has no client in any other role
pub has_client-another_role : (rows : Rows) (name : Text) (roles : List Path) (role : Path)
    → has_framework rows name ≡ false
    → list_any (λ r. same_path r role) roles ≡ false
    → has_client (content_of (with_clients rows name roles)) (client_path role name) ≡ false
has_client-another_role rows name roles role new other =
    let client : Client = record { role = role; framework = name } in
    let f : FrameworkRow = record { name = name; clients = map new_client roles } in
    let test : FrameworkRow → Bool = λ f. is_framework client f && list_any (has_its_role client) f.clients in
    has_client-content_of (with_clients rows name roles) client
    ∙ list_any-append test rows.frameworks (f ∷ [])
    ∙ (λ i. unregistered rows.frameworks client new i || ((same_text name name && (each roles ∙ other) i) || false))
    ∙ neither (same_text name name)
  where
    each : (rs : List Path)
        → list_any (λ c. same_path c.role role) (map new_client rs) ≡ list_any (λ r. same_path r role) rs
    each [] = refl
    each (r ∷ rs) = ap (λ (b : Bool). same_path r role || b) (each rs)

    neither : (b : Bool) → (false || ((b && false) || false)) ≡ false
    neither true = refl
    neither false = refl

-- the clients of all frameworks are those of the first ones, then those of the last
pub clients_and : (hs : List Holding) (fs : List FrameworkRow) (f : FrameworkRow)
    → flat_map (ranked_all hs) (fs ++ f ∷ []) ≡ flat_map (ranked_all hs) fs ++ ranked_all hs f
clients_and hs [] f = append-nil (ranked_all hs f)
clients_and hs (g ∷ gs) f =
    ap (λ (rs : List Ranked). ranked_all hs g ++ rs) (clients_and hs gs f)
    ∙ sym (append_assoc (ranked_all hs g) (flat_map (ranked_all hs) gs) (ranked_all hs f))

-- a framework without clients does not change the content
pub content_of-no_clients : (rows : Rows) (name : Text) → content_of (with_clients rows name []) ≡ content_of rows
unfolding content_of
content_of-no_clients rows name =
    let hs : List Holding = holdings_of rows in
    let before : List Ranked = flat_map (ranked_all hs) rows.frameworks in
    let same = clients_and hs rows.frameworks (record { name = name; clients = [] }) ∙ append-nil before in
    λ i. record { clients = same i; total = cluster_total rows.agents; weights = rows.weights }

-- a client of a new framework is added last, and holds nothing
pub content_of-one_more_client : (rows : Rows) (name : Text) (roles : List Path) (role : Path)
    → IsConsistent rows
    → has_framework rows name ≡ false
    → content_of (with_clients rows name (roles ++ role ∷ []))
    ≡ with_client (content_of (with_clients rows name roles)) (client_path role name)
unfolding content_of ranked
content_of-one_more_client rows name roles role consistent new =
    let hs : List Holding = holdings_of rows in
    let client : Client = record { role = role; framework = name } in
    let f : FrameworkRow = record { name = name; clients = map new_client roles } in
    let g : FrameworkRow = record { name = name; clients = map new_client (roles ++ role ∷ []) } in
    let added : Ranked = record { path = client_path role name; active = true; held = λ _. 0; count = 0 } in
    let before : List Ranked = flat_map (ranked_all hs) rows.frameworks in
    let last : ranked hs f (new_client role) ≡ added
    = λ i. record {
      path = client_path role name;
      active = true;
      held = λ label. nothing_held rows.agents rows.frameworks client new hs label consistent.holdings i;
      count = 0;
    } in
    let own : ranked_all hs g ≡ ranked_all hs f ++ added ∷ []
    = ap (map (ranked hs f)) (map-append new_client roles (role ∷ []))
    ∙ map-append (ranked hs f) (map new_client roles) (new_client role ∷ [])
    ∙ (λ i. ranked_all hs f ++ last i ∷ []) in
    let with_f : List Ranked = flat_map (ranked_all hs) (rows.frameworks ++ f ∷ []) in
    let all : flat_map (ranked_all hs) (rows.frameworks ++ g ∷ []) ≡ with_f ++ added ∷ []
    = clients_and hs rows.frameworks g
    ∙ ap (λ (rs : List Ranked). before ++ rs) own
    ∙ sym (append_assoc before (ranked_all hs f) (added ∷ []))
    ∙ ap (λ (rs : List Ranked). rs ++ added ∷ []) (sym (clients_and hs rows.frameworks f)) in
    λ i. record { clients = all i; total = cluster_total rows.agents; weights = rows.weights }
