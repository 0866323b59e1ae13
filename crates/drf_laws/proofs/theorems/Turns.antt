-- Turns: which clients they try, what they grant, what they leave unchanged, and how many offers they make.
use Rattle.std.specs.Prelude.{◌≡◌, ℕ, zero, suc, ◌≤◌, ◌&&◌, Bool, true, not, List, [], ◌∷◌, length, map, filter, flat_map, Option, Some, None}
use Rattle.std.specs.List.{list_any, AllByRecursion}
use Rattle.std.specs.Option.{option_map_or}
use Rattle.std.proofs.Common.{refl, ap, subst, ◌∙◌, cond, arith, length-append, ◌+◌, false, ◌*◌}
use Rattle.std.proofs.lemmas.Bool.{and_from, or_left, or_right}
use Rattle.std.proofs.lemmas.List.{length-map}
use Rattle.std.proofs.lemmas.List.Sums.{length-filter, count_by-le-length}
use Rattle.drf_role.specs.Text.{same_text}
use Rattle.drf_role.specs.TextLaws.{same_itself}
use Rattle.drf_role.specs.Path.{same_path}
use Rattle.drf_role.specs.PathLaws.{same_path_itself}
use Rattle.drf_rows.specs.Client.{Client}
use Rattle.drf_rows.specs.Held.{client_of, clients_of, active_clients, is_registered}
use Rattle.drf_rows.specs.Share.{Standing}
use Rattle.drf_rows.specs.Cycle.{first_of, without, serving_order, turn_order, free_of, grant, is_grantable, new_offer, with_offer, tried, count_offer, all_tried, turn, turns, cycle, at_timestamp}
use Rattle.drf_rows.specs.Holdings.{holding_of_offer}
use Rattle.drf_row_laws.proofs.ConsistentLaws.{has_its_role}
use Rattle.drf_row_laws.proofs.FrameLaws.{its_part, Any, all_tried_keeps, any_all_tried, any_turns}
use Rattle.drf_laws.proofs.OfferedLaws.{each_served}
use Rattle.drf_bundle.proofs.ListLaws.{each_append, each_from, each_map, each_filter, each_found, each_true}
use Rattle.drf_rows.specs.declared.rows.ClientRow.{ClientRow}
use Rattle.drf_rows.specs.declared.rows.FrameworkRow.{FrameworkRow}
use Rattle.drf_rows.specs.declared.rows.OfferRow.{OfferRow}
use Rattle.drf_rows.specs.declared.rows.Rows.{Rows}
use Rattle.drf_rows.specs.Held as rows_word
use Rattle.drf_bundle.specs.Bundle.{IsBundle}
use Rattle.drf_bundle.specs.declared.resource.Resource.{Resource}
use Rattle.drf_row_laws.proofs.CycleLaws.{bundle-free_of, bundle-entitlement, units-entitlement, clients_of-with_offer, free_of-with_offer_other}
use Rattle.drf_rows.specs.declared.rows.AgentRow.{AgentRow}
use Rattle.drf_laws.specs.TurnLaws.{IsPart, CyclesMakeFewOffers}

-- the clients of a framework that are not suppressed
abbrev pub active_in : FrameworkRow → List Client
active_in f = map (client_of f) (filter (λ c. not c.suppressed) f.clients)

-- ---- the clients that are tried are registered

active_registered : (fs : List FrameworkRow) → AllByRecursion (λ c. is_registered fs c ≡ true) (flat_map active_in fs)
active_registered [] = tt
active_registered (f ∷ fs) =
    let Known : Client → Type 0 = λ c. is_registered (f ∷ fs) c ≡ true in
    let has_role : Client → Bool = λ c. list_any (has_its_role c) f.clients in
    let is_here : Client → Bool = λ c. same_text f.name c.framework && has_role c in
    let In : ClientRow → Type 0 = λ c. has_role (client_of f c) ≡ true in
    let active : ClientRow → Bool = λ c. not c.suppressed in
    let here : (c : ClientRow) → In c → Known (client_of f c) = λ c found.
    or_left (is_here (client_of f c)) (is_registered fs (client_of f c))
    (and_from (same_text f.name f.name) (has_role (client_of f c)) (same_itself f.name) found) in
    let later : (c : Client) → is_registered fs c ≡ true → Known c
    = λ c found. or_right (is_here c) (is_registered fs c) found in
    let all : AllByRecursion In f.clients
    = each_found (λ d c. same_path d.role c.role) f.clients (λ c. same_path_itself c.role) in
    each_append Known (active_in f) (flat_map active_in fs)
    (each_map Known (client_of f) (filter active f.clients)
    (each_filter (λ c. Known (client_of f c)) active f.clients
    (each_from In (λ c. Known (client_of f c)) f.clients here all)))
    (each_from (λ c. is_registered fs c ≡ true) Known (flat_map active_in fs) later (active_registered fs))

pub turn_order-registered : (rows : Rows)
    → AllByRecursion (λ c. is_registered rows.frameworks c ≡ true) (turn_order rows)
turn_order-registered rows =
    each_served (λ c. is_registered rows.frameworks c ≡ true) (rows_word.standing_of rows)
    (length (active_clients rows)) (active_clients rows) (active_registered rows.frameworks)

-- ---- each client is tried at most once

length-serving_order : (s : Standing) (n : ℕ) (cs : List Client) → length (serving_order s n cs) ≤ n
length-serving_order s zero cs = omega arith
length-serving_order s (suc n) cs = by (λ c. length-serving_order s n (without c cs)) (first_of s cs)
  where
    by : ((c : Client) → length (serving_order s n (without c cs)) ≤ n)
        → (o : Option Client) → length (option_map_or (λ c. c ∷ serving_order s n (without c cs)) o []) ≤ suc n
    by later None = omega arith
    by later (Some c) = omega (arith, later c)

length-active : (fs : List FrameworkRow)
    → length (flat_map active_in fs) ≤ length (flat_map (λ f. map (client_of f) f.clients) fs)
length-active [] = omega arith
length-active (f ∷ fs) =
    let active : ClientRow → Bool = λ c. not c.suppressed in
    omega (
      arith,
      length-append (active_in f) (flat_map active_in fs),
      length-append (map (client_of f) f.clients) (flat_map (λ f. map (client_of f) f.clients) fs),
      length-map (filter active f.clients) (client_of f),
      length-map f.clients (client_of f),
      length-filter active f.clients,
      count_by-le-length active f.clients,
      length-active fs,
    )

pub length-turn_order : (rows : Rows) → length (turn_order rows) ≤ length (clients_of rows)
length-turn_order rows =
    omega (
      arith,
      length-serving_order (rows_word.standing_of rows) (length (active_clients rows)) (active_clients rows),
      length-active rows.frameworks,
    )

-- ---- grants

pub entitled_part : (rows : Rows) (agent : AgentRow) (client : Client) → IsBundle agent.total
    → IsPart (its_part rows agent client) (free_of rows agent)
entitled_part rows agent client total = record {
  bundle_is = bundle-entitlement rows (free_of rows agent) client (bundle-free_of rows agent total);
  small = λ key p. units-entitlement rows (free_of rows agent) client key p;
}

pub grant-part : (rows : Rows) (agent : AgentRow) (client : Client) (bundle : List Resource) → IsBundle agent.total
    → grant rows agent client ≡ Some bundle → IsPart bundle (free_of rows agent)
grant-part rows agent client bundle total granted = by (is_grantable rows agent client (its_part rows agent client)) granted
  where
    by : (b : Bool) → cond b (Some (its_part rows agent client)) None ≡ Some bundle → IsPart bundle (free_of rows agent)
    by true e =
        let same : its_part rows agent client ≡ bundle = cc in
        subst (λ (b : List Resource). IsPart b (free_of rows agent)) same (entitled_part rows agent client total)
    by false e = cc

-- ---- a bound on the offers of a cycle

tried-next : (rows : Rows) (agent : AgentRow) (client : Client) (granted : Option (List Resource))
    → (option_map_or (λ b. with_offer rows (new_offer rows agent client b)) granted rows).next_offer ≤ rows.next_offer + 1
unfolding with_offer
tried-next rows agent client None = omega arith
tried-next rows agent client (Some bundle) = omega arith

all_tried-next : (rows : Rows) (agent : AgentRow) (clients : List Client) → (all_tried rows agent clients).next_offer ≤ rows.next_offer + length clients
all_tried-next rows agent [] = omega arith
all_tried-next rows agent (client ∷ clients) =
    omega (arith, all_tried-next (tried rows agent client) agent clients, tried-next rows agent client (grant rows agent client))

-- the clients and the number of frameworks are the same
abbrev SameClients : Rows → Rows → Type 0
SameClients start rows = (clients_of rows ≡ clients_of start) × (length rows.frameworks ≡ length start.frameworks)

same_clients : (start rows : Rows) (offer : OfferRow) → SameClients start rows → SameClients start (with_offer rows offer)
unfolding with_offer
same_clients start rows offer same =
    (clients_of-with_offer rows offer ∙ same.0, length-map rows.frameworks (count_offer (holding_of_offer offer).client) ∙ same.1)

turn-clients : (rows : Rows) (agent : AgentRow) → SameClients rows (turn rows agent)
unfolding turn
turn-clients rows agent = any_all_tried (SameClients rows) (same_clients rows) rows agent (turn_order rows) (refl, refl)

pub turns-clients : (rows : Rows) (agents : List AgentRow) → SameClients rows (turns rows agents)
turns-clients rows agents = any_turns (SameClients rows) (same_clients rows) rows agents (refl, refl)

pub turns-next_offer : (rows : Rows) (agents : List AgentRow) → (turns rows agents).next_offer ≤ rows.next_offer + length agents * length (clients_of rows)
unfolding turn
turns-next_offer rows [] = omega arith
turns-next_offer rows (agent ∷ agents) =
    let later = turns-next_offer (turn rows agent) agents in
    let first = all_tried-next rows agent (turn_order rows) in
    let order = length-turn_order rows in
    let same : length (clients_of (turn rows agent)) ≡ length (clients_of rows) = ap length (turn-clients rows agent).0 in
    let rest : (turns (turn rows agent) agents).next_offer ≤ (turn rows agent).next_offer + length agents * length (clients_of rows) =
    subst (λ n. (turns (turn rows agent) agents).next_offer ≤ (turn rows agent).next_offer + length agents * n) same later in
    omega (arith, rest, first, order)

-- so a cycle makes at most as many offers as there are active agents, times the number of clients
pub cycles_make_few_offers : CyclesMakeFewOffers
unfolding cycle
cycles_make_few_offers rows at = turns-next_offer (at_timestamp rows at) (filter (λ a. a.active) rows.agents)

-- ---- other agents

-- trying clients on one agent leaves the free resources of others unchanged
pub free_of-all_tried_other : (rows : Rows) (agent : AgentRow) (clients : List Client) (other : AgentRow) → same_text agent.name other.name ≡ false
    → free_of (all_tried rows agent clients) other ≡ free_of rows other
free_of-all_tried_other rows agent clients other apart =
    all_tried_keeps (λ r. free_of r other ≡ free_of rows other) (λ a. same_text a.name other.name ≡ false) Any (λ r same. each_true (turn_order r))
    (λ r a client past known is same. free_of-with_offer_other r (new_offer r a client (its_part r a client)) other past ∙ same)
    rows agent clients apart (each_true clients) refl
