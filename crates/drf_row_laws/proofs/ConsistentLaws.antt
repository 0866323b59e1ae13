-- A state that satisfies `IsConsistent` satisfies it after one more offer.
use Rattle.std.specs.Prelude.{◌≡◌, ℕ, ◌+◌, ◌<◌, ◌≤◌, Bool, true, false, ◌&&◌, ◌||◌, List, [], ◌∷◌, ◌++◌, filter, map, sum_by, slice_get, nat_lt, if◌then◌else◌}
use Rattle.std.specs.List.{list_all, list_any, count_by, AllByRecursion}
use Rattle.std.specs.Cmp.Lexicographic.{bytes_decides}
use Rattle.std.proofs.Common.{refl, sym, ap, subst, ◌∙◌, inl, inr, cond, zero, suc, arith, Some}
use Rattle.std.proofs.lemmas.Bool.{cases_Bool, and_parts, and_from, or_cases, ltb-true, lt-ltb, false≢true}
use Rattle.std.proofs.lemmas.Bool.Decides.{same_from_decides, Decides-like}
use Rattle.std.proofs.lemmas.List.{map-append}
use Rattle.std.proofs.lemmas.List.Sums.{sum_by-cons, sum_by-append}
use Rattle.drf_role.specs.Text.{Text, same_text}
use Rattle.drf_role.specs.TextLaws.{same_itself, same_from_test}
use Rattle.drf_role.specs.Name.{IsName}
use Rattle.drf_role.specs.Path.{Path, same_path}
use Rattle.drf_role.specs.PathLaws.{same_path-true}
use Rattle.drf_role.proofs.PathLaws.{same_path-swap}
use Rattle.drf_role.specs.Role.{IsRole}
use Rattle.drf_bundle.specs.Value.{Point, Thousandths}
use Rattle.drf_bundle.specs.Bundle.{Key, IsBundle, units, stock, quantities_of}
use Rattle.drf_bundle.specs.Quantities.{amount_of}
use Rattle.drf_bundle.proofs.theorems.SumLaws.{amount-quantities_of}
use Rattle.drf_bundle.specs.Taken.{units_of_all}
use Rattle.drf_bundle.proofs.theorems.TakenLaws.{joined-rest_of_all, sum-joined, stock-adds_up}
use Rattle.drf_bundle.specs.declared.resource.Resource.{Resource}
use Rattle.drf_rows.specs.Client.{Client}
use Rattle.drf_rows.specs.Holdings.{Holding, holding_of_offer, holding_of_task, holdings_of, held_where, is_on, parts_on, AreBundles}
use Rattle.drf_row_laws.proofs.HoldingsLaws.{parts_on-append, each_part, parts_on-with_offer, parts_on-other, each-with_offer}
use Rattle.drf_rows.specs.Cycle.{free_of, new_offer, with_offer, counted, count_offer}
use Rattle.drf_rows.specs.Step.{live_rows}
use Rattle.drf_row_laws.proofs.CycleLaws.{bundle-free_of, units-free_of}
use Rattle.drf_rows.specs.Consistent.{are_distinct, are_distinct_roles, IsAgent, IsFramework, AreFrameworks, IsHeld, IsCovered, offers_counted, are_rising, IsConsistent, IsConserved, IsFilter}
use Rattle.drf_rows.specs.Held.{is_registered}
use Rattle.drf_bundle.proofs.ListLaws.{sum_by-map, sum_by-plus, sum_by_each_le, sum_by_none, count_by-any, list_any_at, list_any-both, none_has, none_has_at, only_none, count_once, each_at, each_from, each_from_both, each_map}
use Rattle.drf_rows.specs.declared.rows.AgentRow.{AgentRow}
use Rattle.drf_rows.specs.declared.rows.ClientRow.{ClientRow}
use Rattle.drf_rows.specs.declared.rows.FrameworkRow.{FrameworkRow}
use Rattle.drf_rows.specs.declared.rows.OfferRow.{OfferRow}
use Rattle.drf_rows.specs.declared.rows.Rows.{Rows}

-- ---- names and roles without repetitions

pub same_text-swap : (a b : Text) → same_text a b ≡ same_text b a
same_text-swap a b =
    same_from_decides (same_text a b) (same_text b a) (bytes_decides a b)
    (Decides-like (same_text b a) sym sym (bytes_decides b a))

-- an element with the name of the one at a place is this one
pub only_named : {X : Type 0} (name : X → Text) (xs : List X) (i : ℕ) (a : X)
    → are_distinct (map name xs) ≡ true → slice_get xs i ≡ Some a
    → AllByRecursion (λ x. same_text (name a) (name x) ≡ true → x ≡ a) xs
only_named name [] i a apart at = tt
only_named {X} name (x ∷ xs) zero a apart at =
    let parts = and_parts (none_has same_text name (name x) xs) (are_distinct (map name xs)) apart in
    let same : x ≡ a = cc in
    let others = subst (λ (y : X). none_has same_text name (name y) xs ≡ true) same parts.0 in
    (λ _. same, only_none same_text name a xs others)
only_named name (x ∷ xs) (suc i) a apart at =
    let parts = and_parts (none_has same_text name (name x) xs) (are_distinct (map name xs)) apart in
    let other = same_text-swap (name a) (name x) ∙ none_has_at same_text name (name x) xs i a parts.0 at in
    (λ same. absurd (false≢true (sym other ∙ same)), only_named name xs i a parts.1 at)

pub count_named : {X : Type 0} (name : X → Text) (n : Text) (xs : List X)
    → are_distinct (map name xs) ≡ true → count_by (λ x. same_text n (name x)) xs ≤ 1
count_named name n [] apart = omega arith
count_named name n (x ∷ xs) apart =
    let parts = and_parts (none_has same_text name (name x) xs) (are_distinct (map name xs)) apart in
    count_once same_text name n x xs (same_from_test n (name x)) parts.0 (count_named name n xs parts.1)

count_role : (role : Path) (cs : List ClientRow)
    → are_distinct_roles (map (λ c. c.role) cs) ≡ true → count_by (λ c. same_path role c.role) cs ≤ 1
count_role role [] apart = omega arith
count_role role (c ∷ cs) apart =
    let key : ClientRow → Path = λ c. c.role in
    let parts = and_parts (none_has same_path key c.role cs) (are_distinct_roles (map key cs)) apart in
    count_once same_path key role c cs (same_path-true role c.role) parts.0 (count_role role cs parts.1)

-- ---- how many rows a client has

-- the row is that of the client
abbrev pub has_its_role : Client → ClientRow → Bool
has_its_role client c = same_path c.role client.role

abbrev pub is_row_of : Client → FrameworkRow → ClientRow → Bool
is_row_of client f c = same_text f.name client.framework && has_its_role client c

abbrev pub times_in : Client → FrameworkRow → ℕ
times_in client f = count_by (is_row_of client f) f.clients

abbrev pub times_registered : List FrameworkRow → Client → ℕ
times_registered frameworks client = sum_by (times_in client) frameworks

abbrev roles_of : FrameworkRow → List Path
roles_of f = map (λ c. c.role) f.clients

abbrev HasRoles : FrameworkRow → Type 0
HasRoles f = are_distinct_roles (roles_of f) ≡ true

times_in-le : (client : Client) (f : FrameworkRow) → HasRoles f
    → times_in client f ≤ cond (same_text client.framework f.name) 1 0
times_in-le client f apart =
    subst (λ (b : Bool). times_in client f ≤ cond b 1 0) (same_text-swap f.name client.framework)
    (by (same_text f.name client.framework))
  where
    once : count_by (has_its_role client) f.clients ≤ 1
    once =
        subst (λ (n : ℕ). n ≤ 1) (λ i. count_by (λ c. same_path-swap client.role c.role i) f.clients)
        (count_role client.role f.clients apart)

    by : (b : Bool) → count_by (λ c. b && has_its_role client c) f.clients ≤ cond b 1 0
    by true = once
    by false = omega (arith, sum_by_none f.clients)

times_at_most : (frameworks : List FrameworkRow) (client : Client)
    → AreFrameworks frameworks → times_registered frameworks client ≤ 1
times_at_most frameworks client right =
    let named : FrameworkRow → ℕ = λ f. cond (same_text client.framework f.name) 1 0 in
    let each = each_from HasRoles (λ f. times_in client f ≤ named f) frameworks (times_in-le client) right.roles in
    omega (
      arith,
      sum_by_each_le (times_in client) named frameworks each,
      count_named (λ f. f.name) client.framework frameworks right.names,
    )

times_at_least : (frameworks : List FrameworkRow) (client : Client)
    → is_registered frameworks client ≡ true → 1 ≤ times_registered frameworks client
times_at_least [] client known = absurd (false≢true known)
times_at_least (f ∷ fs) client known =
    let here : Bool = same_text f.name client.framework in
    let first = sum_by-cons (times_in client) f fs in
    elim (or_cases (here && list_any (has_its_role client) f.clients) (is_registered fs client) known) [
      | inl now ↦
          let any : list_any (is_row_of client f) f.clients ≡ true
          = list_any-both here (has_its_role client) f.clients ∙ now in
          omega (arith, first, count_by-any (is_row_of client f) f.clients any)
      | inr later ↦ omega (arith, first, times_at_least fs client later)
    ]

-- exactly one row
pub registered_once : (frameworks : List FrameworkRow) (client : Client)
    → AreFrameworks frameworks → is_registered frameworks client ≡ true → times_registered frameworks client ≡ 1
registered_once frameworks client right known =
    omega (arith, times_at_most frameworks client right, times_at_least frameworks client known)

-- ---- an offer is counted

-- names and roles do not change
pub name-count_offer : (client : Client) (f : FrameworkRow) → (count_offer client f).name ≡ f.name
name-count_offer client f =
    elim (cases_Bool (same_text f.name client.framework)) [ inl here ↦ rw here | inr other ↦ rw other ]

names_counted : (client : Client) (fs : List FrameworkRow)
    → map (λ f. f.name) (map (count_offer client) fs) ≡ map (λ f. f.name) fs
names_counted client [] = refl
names_counted client (f ∷ fs) = λ i. name-count_offer client f i ∷ names_counted client fs i

role-counted : (client : Client) (c : ClientRow) → (counted client c).role ≡ c.role
role-counted client c = elim (cases_Bool (has_its_role client c)) [ inl here ↦ rw here | inr other ↦ rw other ]

roles_counted : (client : Client) (cs : List ClientRow)
    → map (λ c. c.role) (map (counted client) cs) ≡ map (λ c. c.role) cs
roles_counted client [] = refl
roles_counted client (c ∷ cs) = λ i. role-counted client c i ∷ roles_counted client cs i

roles-count_offer : (client : Client) (f : FrameworkRow) → roles_of (count_offer client f) ≡ roles_of f
roles-count_offer client f = elim (cases_Bool (same_text f.name client.framework)) [
  | inl here ↦ rw here (roles_counted client f.clients)
  | inr other ↦ rw other
]

AreFrameworks-counted : (client : Client) (frameworks : List FrameworkRow)
    → AreFrameworks frameworks → AreFrameworks (map (count_offer client) frameworks)
AreFrameworks-counted client frameworks right = record {
  names = ap are_distinct (names_counted client frameworks) ∙ right.names;
  roles = each_map HasRoles (count_offer client) frameworks
      (each_from HasRoles (λ f. HasRoles (count_offer client f)) frameworks
      (λ f apart. ap are_distinct_roles (roles-count_offer client f) ∙ apart) right.roles);
  each = each_map IsFramework (count_offer client) frameworks
      (each_from IsFramework (λ f. IsFramework (count_offer client f)) frameworks
      (λ f valid. record {
        name = subst IsName (sym (name-count_offer client f)) valid.name;
        roles = subst (AllByRecursion IsRole) (sym (roles-count_offer client f)) valid.roles;
      }) right.each);
}

-- registered clients stay registered
role_known : (client : Client) (f : FrameworkRow)
    → list_any (has_its_role client) f.clients ≡ list_any (λ r. same_path r client.role) (roles_of f)
role_known client f = each f.clients
  where
    each : (cs : List ClientRow)
        → list_any (has_its_role client) cs ≡ list_any (λ r. same_path r client.role) (map (λ c. c.role) cs)
    each [] = refl
    each (c ∷ cs) = ap (λ (b : Bool). has_its_role client c || b) (each cs)

pub is_registered-counted : (client other : Client) (frameworks : List FrameworkRow)
    → is_registered (map (count_offer client) frameworks) other ≡ is_registered frameworks other
is_registered-counted client other [] = refl
is_registered-counted client other (f ∷ fs) =
    let roles : list_any (has_its_role other) (count_offer client f).clients ≡ list_any (has_its_role other) f.clients
    = role_known other (count_offer client f)
    ∙ ap (list_any (λ r. same_path r other.role)) (roles-count_offer client f)
    ∙ sym (role_known other f) in
    λ i. (same_text (name-count_offer client f i) other.framework && roles i) || is_registered-counted client other fs i

-- the counts
abbrev counts_of : List ClientRow → ℕ
counts_of clients = sum_by (λ c. c.count) clients

count-counted : (client : Client) (c : ClientRow) → (counted client c).count ≡ c.count + cond (has_its_role client c) 1 0
count-counted client c = elim (cases_Bool (has_its_role client c)) [
  | inl here ↦ rw here
  | inr other ↦ rw other (omega arith)
]

counts-counted : (client : Client) (cs : List ClientRow)
    → counts_of (map (counted client) cs) ≡ counts_of cs + count_by (has_its_role client) cs
counts-counted client cs =
    sum_by-map (λ (c : ClientRow). c.count) (counted client) cs
    ∙ (λ i. sum_by (λ c. count-counted client c i) cs)
    ∙ sum_by-plus (λ (c : ClientRow). c.count) (λ c. cond (has_its_role client c) 1 0) cs

counts-count_offer : (client : Client) (f : FrameworkRow)
    → counts_of (count_offer client f).clients ≡ counts_of f.clients + times_in client f
counts-count_offer client f = by (same_text f.name client.framework)
  where
    by : (b : Bool) → counts_of (if b then record f { clients = map (counted client) f.clients } else f).clients
        ≡ counts_of f.clients + count_by (λ c. b && has_its_role client c) f.clients
    by true = counts-counted client f.clients
    by false = omega (arith, sum_by_none f.clients)

offers_counted-counted : (client : Client) (frameworks : List FrameworkRow)
    → offers_counted (map (count_offer client) frameworks)
    ≡ offers_counted frameworks + times_registered frameworks client
offers_counted-counted client frameworks =
    sum_by-map (λ (f : FrameworkRow). counts_of f.clients) (count_offer client) frameworks
    ∙ (λ i. sum_by (λ f. counts-count_offer client f i) frameworks)
    ∙ sum_by-plus (λ (f : FrameworkRow). counts_of f.clients) (times_in client) frameworks

-- ---- the next number is added last

below_push : (n m : ℕ) (ns : List ℕ)
    → list_all (nat_lt n) ns ≡ true → nat_lt n m ≡ true → list_all (nat_lt n) (ns ++ m ∷ []) ≡ true
below_push n m [] all below = and_from (nat_lt n m) true below refl
below_push n m (k ∷ ks) all below =
    let parts = and_parts (nat_lt n k) (list_all (nat_lt n) ks) all in
    and_from (nat_lt n k) (list_all (nat_lt n) (ks ++ m ∷ [])) parts.0 (below_push n m ks parts.1 below)

rising_push : (ns : List ℕ) (next : ℕ) → are_rising ns next ≡ true → are_rising (ns ++ next ∷ []) (next + 1) ≡ true
rising_push [] next rising =
    let below = lt-ltb next (next + 1) (omega arith) in
    and_from (nat_lt next (next + 1) && true) true (and_from (nat_lt next (next + 1)) true below refl) refl
rising_push (n ∷ ns) next rising =
    let parts = and_parts (nat_lt n next && list_all (nat_lt n) ns) (are_rising ns next) rising in
    let first = and_parts (nat_lt n next) (list_all (nat_lt n) ns) parts.0 in
    let less : n < next = ltb-true n next first.0 in
    let past : List ℕ = ns ++ next ∷ [] in
    let head : nat_lt n (next + 1) ≡ true = lt-ltb n (next + 1) (omega arith) in
    and_from (nat_lt n (next + 1) && list_all (nat_lt n) past) (are_rising past (next + 1))
    (and_from (nat_lt n (next + 1)) (list_all (nat_lt n) past) head (below_push n next ns first.1 first.0))
    (rising_push ns next parts.1)

-- if the next offer number is within a bound, so are the numbers of all offers
pub numbers_within : (offers : List OfferRow) (next bound : ℕ)
    → are_rising (map (λ o. o.number) offers) next ≡ true → next ≤ bound + 1 → AllByRecursion (λ o. o.number ≤ bound) offers
numbers_within [] next bound rising within = tt
numbers_within (o ∷ os) next bound rising within =
    let numbers : List ℕ = map (λ (o : OfferRow). o.number) os in
    let parts = and_parts (nat_lt o.number next && list_all (nat_lt o.number) numbers) (are_rising numbers next) rising in
    let below : o.number < next = ltb-true o.number next (and_parts (nat_lt o.number next) (list_all (nat_lt o.number) numbers) parts.0).0 in
    let here : o.number ≤ bound = omega (arith, below, within) in
    (here, numbers_within os next bound parts.1 within)

-- ---- the free resources and the held resources

pub bundles-consistent : (rows : Rows) → IsConsistent rows → AreBundles (holdings_of rows)
bundles-consistent rows consistent =
    each_from (IsHeld rows.agents rows.frameworks) (λ h. IsBundle h.bundle) (holdings_of rows) (λ h held. held.bundle) consistent.holdings

conserved_one : (rows : Rows) → AreBundles (holdings_of rows) → (agent : AgentRow)
    → IsAgent agent → IsCovered (holdings_of rows) agent → IsConserved rows agent
unfolding free_of
conserved_one rows each agent right covered =
    joined-rest_of_all agent.total (parts_on agent.name (holdings_of rows)) right.total (each_part agent.name (holdings_of rows) each) covered

-- of each scalar at most the agent's total is held
pub held_on-le : (rows : Rows) (agent : AgentRow) (label : Text)
    → AreBundles (holdings_of rows) → IsAgent agent → IsCovered (holdings_of rows) agent
    → held_where (is_on agent.name) (holdings_of rows) label ≤ amount_of (quantities_of agent.total) label
held_on-le rows agent label each right covered =
    let parts : List (List Resource) = parts_on agent.name (holdings_of rows) in
    let of : List Resource → ℕ = λ bundle. stock bundle label Thousandths in
    let whole = sum-joined of (stock-adds_up label Thousandths) (free_of rows agent) agent.total parts
    (bundle-free_of rows agent right.total) (each_part agent.name (holdings_of rows) each) (conserved_one rows each agent right covered) in
    let held : held_where (is_on agent.name) (holdings_of rows) label ≡ sum_by of parts
    = (λ i. sum_by (λ h. amount-quantities_of h.bundle label i) (filter (is_on agent.name) (holdings_of rows)))
    ∙ sym (sum_by-map of (λ (h : Holding). h.bundle) (filter (is_on agent.name) (holdings_of rows))) in
    omega (arith, whole, held, amount-quantities_of agent.total label)

pub conserved-consistent : (rows : Rows) → IsConsistent rows → AllByRecursion (IsConserved rows) rows.agents
conserved-consistent rows consistent =
    each_from_both IsAgent (IsCovered (holdings_of rows)) (IsConserved rows) rows.agents
    (conserved_one rows (bundles-consistent rows consistent)) consistent.agents.each consistent.covered

-- the same for the current state, because holdings do not depend on filters
pub conserved-live : (rows : Rows) → AllByRecursion (IsConserved rows) rows.agents → AllByRecursion (IsConserved (live_rows rows)) rows.agents
unfolding free_of
conserved-live rows all = all

-- an offer of at most the free resources leaves the agent covered
covered_here : (rows : Rows) (offer : OfferRow) (agent : AgentRow)
    → AreBundles (holdings_of rows)
    → same_text offer.agent agent.name ≡ true
    → IsAgent agent
    → IsCovered (holdings_of rows) agent
    → ((key : Key) (p : Point) → units offer.bundle key p ≤ units (free_of rows agent) key p)
    → IsCovered (holdings_of (with_offer rows offer)) agent
covered_here rows offer agent each here right covered fits = λ key p.
    let of : List Resource → ℕ = λ part. units part key p in
    let before : List (List Resource) = parts_on agent.name (map holding_of_offer rows.offers) in
    let after : List (List Resource) = parts_on agent.name (map holding_of_task rows.tasks) in
    let held : units_of_all (parts_on agent.name (holdings_of rows)) key p ≡ units_of_all before key p + units_of_all after key p
    = ap (sum_by of) (parts_on-append agent.name (map holding_of_offer rows.offers) (map holding_of_task rows.tasks)) ∙ sum_by-append of before after in
    let more : units_of_all (parts_on agent.name (holdings_of (with_offer rows offer))) key p
    ≡ units_of_all before key p + units_of_all (offer.bundle ∷ after) key p
    = ap (sum_by of) (parts_on-with_offer rows offer agent.name ∙ ap (λ (b : Bool). before ++ cond b (offer.bundle ∷ after) after) here)
    ∙ sum_by-append of before (offer.bundle ∷ after) in
    omega (
      arith,
      units-free_of rows agent key p right.total each,
      held,
      more,
      sum_by-cons of offer.bundle after,
      covered key p,
      fits key p,
    )

covered_other : (rows : Rows) (offer : OfferRow) (agent : AgentRow)
    → IsCovered (holdings_of rows) agent
    → same_text offer.agent agent.name ≡ false
    → IsCovered (holdings_of (with_offer rows offer)) agent
covered_other rows offer agent covered other = λ key p.
    omega (arith, ap (λ parts. units_of_all parts key p) (parts_on-other rows offer agent.name other), covered key p)

-- ---- the state with one more offer

-- granting free resources to a registered client keeps the state consistent
pub IsConsistent-with_offer : (rows : Rows) (agent : AgentRow) (place : ℕ) (client : Client) (bundle : List Resource)
    → IsConsistent rows
    → slice_get rows.agents place ≡ Some agent
    → is_registered rows.frameworks client ≡ true
    → IsBundle bundle
    → ((key : Key) (p : Point) → units bundle key p ≤ units (free_of rows agent) key p)
    → IsConsistent (with_offer rows (new_offer rows agent client bundle))
unfolding with_offer
IsConsistent-with_offer rows agent place client bundle consistent at known right fits =
    let offer : OfferRow = new_offer rows agent client bundle in
    let before : List Holding = holdings_of rows in
    let after : List Holding = holdings_of (with_offer rows offer) in
    let frameworks : List FrameworkRow = map (count_offer client) rows.frameworks in
    let here : IsCovered after agent =
    covered_here rows offer agent (bundles-consistent rows consistent) (same_itself agent.name) (each_at IsAgent rows.agents place agent consistent.agents.each at)
    (each_at (IsCovered before) rows.agents place agent consistent.covered at) fits in
    let IsOnly : AgentRow → Type 0 = λ b. same_text agent.name b.name ≡ true → b ≡ agent in
    let covers : (b : AgentRow) → IsCovered before b → IsOnly b → IsCovered after b = λ b covered one.
    elim (cases_Bool (same_text agent.name b.name)) [
      | inl same ↦ subst (IsCovered after) (sym (one same)) here
      | inr other ↦ covered_other rows offer b covered other
    ] in
    record {
      agents = consistent.agents;
      frameworks = AreFrameworks-counted client rows.frameworks consistent.frameworks;
      holdings = each-with_offer (IsHeld rows.agents frameworks) rows offer
          (each_from (IsHeld rows.agents rows.frameworks) (IsHeld rows.agents frameworks) before
          (λ h held. record {
            agent = held.agent;
            client = is_registered-counted client h.client rows.frameworks ∙ held.client;
            bundle = held.bundle;
          }) consistent.holdings)
          (record {
            agent = list_any_at (λ a. same_text a.name agent.name) rows.agents place agent at (same_itself agent.name);
            client = is_registered-counted client client rows.frameworks ∙ known;
            bundle = right;
          });
      covered = each_from_both (IsCovered before) IsOnly (IsCovered after) rows.agents covers consistent.covered
          (only_named (λ a. a.name) rows.agents place agent consistent.agents.names at);
      tasks = consistent.tasks;
      weights = consistent.weights;
      limits = consistent.limits;
      filters = each_from (IsFilter rows.agents rows.frameworks) (IsFilter rows.agents frameworks) rows.filters
          (λ f right. record {
            agent = right.agent;
            client = is_registered-counted client (record { role = f.role; framework = f.framework }) rows.frameworks ∙ right.client;
            bundle = right.bundle;
            until = right.until;
          }) consistent.filters;
      early = consistent.early;
      counted = omega (
        arith,
        offers_counted-counted client rows.frameworks,
        registered_once rows.frameworks client consistent.frameworks known,
        consistent.counted,
      );
      numbered = ap (λ (ns : List ℕ). are_rising ns (rows.next_offer + 1))
          (map-append (λ (o : OfferRow). o.number) rows.offers (offer ∷ []))
          ∙ rising_push (map (λ o. o.number) rows.offers) rows.next_offer consistent.numbered;
    }
