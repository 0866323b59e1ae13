-- A client is tried: there is one more draft, or none.
use Rattle.std.proofs.Common.{refl, ◌≡◌, ℕ, ◌+◌, ◌<◌, ◌≤◌, ◌^◌, true, List, [], ◌∷◌, ◌++◌, Option, Some, None, length, map, sym, ap, subst, ◌∙◌, arith}
use Rattle.std.specs.Prelude.{slice_get}
use Rattle.std.specs.List.{AllByRecursion}
use Rattle.std.specs.Option.{option_map_or}
use Rattle.drf_role.specs.Text.{Text}
use Rattle.drf_role.specs.TextLaws.{same_itself}
use Rattle.drf_role.specs.Path.{Path, role_part, framework_part}
use Rattle.drf_role.proofs.PathLaws.{role_part-client_path, framework_part-client_path}
use Rattle.drf_bundle.specs.Bundle.{rest, quantities_of}
use Rattle.drf_bundle.specs.declared.resource.Resource.{Resource}
use Rattle.drf_gates.specs.quota.Allowance.{Allowance, Usage, quota_under}
use Rattle.drf_bundle.proofs.ListLaws.{each_at}
use Rattle.drf_rows.specs.Client.{Client, path_of}
use Rattle.drf_rows.specs.Holdings.{holding_of_offer}
use Rattle.drf_rows.specs.Cycle.{free_of, grant, new_offer, with_offer, tried}
use Rattle.drf_row_laws.proofs.CycleLaws.{free_of-with_offer}
use Rattle.drf_rows.specs.Consistent.{IsAgent, IsConsistent, are_distinct}
use Rattle.drf_rows.specs.Held.{is_registered}
use Rattle.drf_rows.specs.declared.rows.AgentRow.{AgentRow}
use Rattle.drf_rows.specs.declared.rows.LimitRow.{LimitRow}
use Rattle.drf_rows.specs.declared.rows.OfferRow.{OfferRow}
use Rattle.drf_rows.specs.declared.rows.Rows.{Rows}
use Rattle.drf_sorter.specs.Content.{Content, IsSame, with_change, charged, has_client, IsSound}
use Rattle.drf_sorter.proofs.theorems.SameLaws.{IsSame-between, IsSame-sym, IsSame-with_change, IsSound-same, has_client-same}
use Rattle.drf_tables.specs.cycle.Drafts.{with_offers}
use Rattle.drf_tables.specs.declared.tables.Left.{Left}
use Rattle.drf_content.specs.Content.{content_of}
use Rattle.drf_core.specs.cycle.Drafting.{IsDrafting, CanCount, HasLeft, IsRegisteredPath, IsFreeAt, IsTried}
use Rattle.drf_core.specs.cycle.Entitling.{IsQuotaOf}
use Rattle.drf_core.proofs.drafting.Granted.{can_count}
use Rattle.drf_core.proofs.drafting.Turn.{left-tried}
use Rattle.drf_tables.proofs.DraftLaws.{agents-with_offers, next-with_offers}
use Rattle.drf_core.proofs.drafting.Drafts.{with_offers-push, is_registered-with_offers}
use Rattle.drf_content.proofs.theorems.Offer.{content_of-with_offer}
use Rattle.drf_content.proofs.theorems.Members.{has_client-registered}
use Rattle.drf_content.proofs.theorems.Sound.{IsSound-content_of}
use Rattle.drf_row_laws.proofs.ConsistentLaws.{bundles-consistent, IsConsistent-with_offer}
use Rattle.drf_laws.specs.TurnLaws.{IsPart}
use Rattle.drf_laws.proofs.theorems.Turns.{grant-part}
use Rattle.drf_laws.proofs.theorems.Clients.{path_of-injective}

-- the next draft
abbrev pub next_draft : Rows → List OfferRow → AgentRow → Client → List Resource → OfferRow
next_draft rows offers agent client bundle = new_offer (with_offers rows offers) agent client bundle

module _ (content : Content) (rows : Rows) (offers : List OfferRow) (drafting : IsDrafting content rows offers) (place : ℕ) (agent : AgentRow)
    (at : slice_get rows.agents place ≡ Some agent) (client : Client) (known : is_registered rows.frameworks client ≡ true) (bundle : List Resource)
    (granted : grant (with_offers rows offers) agent client ≡ Some bundle) (fits : rows.next_offer + length offers + 1 < 2 ^ 64) where
  at_now : slice_get (with_offers rows offers).agents place ≡ Some agent
  at_now = ap (λ (as' : List AgentRow). slice_get as' place) (agents-with_offers rows offers) ∙ at

  known_now : is_registered (with_offers rows offers).frameworks client ≡ true
  known_now = is_registered-with_offers rows offers client ∙ known

  pub part_now : IsPart bundle (free_of (with_offers rows offers) agent)
  part_now =
      let right : IsAgent agent = each_at IsAgent (with_offers rows offers).agents place agent drafting.consistent.agents.each at_now in
      grant-part (with_offers rows offers) agent client bundle right.total granted

  consistent_after : IsConsistent (with_offer (with_offers rows offers) (next_draft rows offers agent client bundle))
  consistent_after =
      IsConsistent-with_offer (with_offers rows offers) agent place client bundle drafting.consistent at_now known_now part_now.bundle_is part_now.small

  abbrev more : Content
  more = with_change content (path_of client) (charged (quantities_of bundle) 1)

  abbrev reported_after : Content
  reported_after = content_of (with_offer (with_offers rows offers) (next_draft rows offers agent client bundle))

  charged_after : IsSame more reported_after
  charged_after =
      subst (IsSame more) (sym (content_of-with_offer (with_offers rows offers) (next_draft rows offers agent client bundle)))
      (IsSame-with_change content (content_of (with_offers rows offers)) drafting.sorted (path_of client) (charged (quantities_of bundle) 1))

  few_after : length (with_offer (with_offers rows offers) (next_draft rows offers agent client bundle)).agents ≤ 4096
  unfolding with_offer
  few_after = rw (agents-with_offers rows offers) drafting.few_agents

  early_after : (with_offer (with_offers rows offers) (next_draft rows offers agent client bundle)).next_offer < 2 ^ 64
  unfolding with_offer
  early_after = omega (arith, next-with_offers rows offers, fits)

  pub can_count_after : (limits : List LimitRow) (consumption : Option (List Usage)) → IsQuotaOf (with_offers rows offers) (quota_under limits consumption)
      → CanCount consumption (next_draft rows offers agent client bundle)
  can_count_after limits consumption counted =
      can_count (with_offers rows offers) (next_draft rows offers agent client bundle) limits consumption counted consistent_after few_after

  pub has_client-now : has_client content (path_of client) ≡ true
  has_client-now =
      has_client-same content (content_of (with_offers rows offers)) drafting.sorted (path_of client) ∙ has_client-registered (with_offers rows offers) client known_now

  pub sound_after : IsSound (with_change content (path_of client) (charged (quantities_of bundle) 1))
  sound_after =
      IsSound-same reported_after more (IsSame-sym more reported_after charged_after)
      (IsSound-content_of (with_offer (with_offers rows offers) (next_draft rows offers agent client bundle)) consistent_after few_after early_after)

  each_push : (P : OfferRow → Type 0) (xs : List OfferRow) (x : OfferRow) → AllByRecursion P xs → P x → AllByRecursion P (xs ++ x ∷ [])
  each_push P [] x all here = (here, tt)
  each_push P (y ∷ xs) x all here = (all.0, each_push P xs x all.1 here)

  pub drafting_after : (after : Content) → after ≡ with_change content (path_of client) (charged (quantities_of bundle) 1)
      → IsDrafting after rows (offers ++ next_draft rows offers agent client bundle ∷ [])
  drafting_after after charge =
      let offer : OfferRow = next_draft rows offers agent client bundle in
      let push = with_offers-push rows offers offer in
      record {
        sorted = IsSame-between after more reported_after (content_of (with_offers rows (offers ++ offer ∷ []))) charge charged_after (ap content_of (sym push));
        consistent = subst IsConsistent (sym push) consistent_after;
        clients = each_push (λ o. is_registered rows.frameworks (holding_of_offer o).client ≡ true) offers offer drafting.clients known;
        few_agents = drafting.few_agents;
        low_number = drafting.low_number;
      }

  pub tried_after : with_offers rows (offers ++ next_draft rows offers agent client bundle ∷ []) ≡ tried (with_offers rows offers) agent client
  tried_after =
      with_offers-push rows offers (next_draft rows offers agent client bundle)
      ∙ sym (ap (λ (o : Option (List Resource)). option_map_or (λ b. with_offer (with_offers rows offers) (new_offer (with_offers rows offers) agent client b)) o (with_offers rows offers)) granted)

  pub free_after : free_of (with_offers rows (offers ++ next_draft rows offers agent client bundle ∷ [])) agent ≡ rest (free_of (with_offers rows offers) agent) bundle
  free_after =
      let right : IsAgent agent = each_at IsAgent (with_offers rows offers).agents place agent drafting.consistent.agents.each at_now in
      ap (λ (r : Rows). free_of r agent) (with_offers-push rows offers (next_draft rows offers agent client bundle))
      ∙ free_of-with_offer (with_offers rows offers) (next_draft rows offers agent client bundle) agent right.total (bundles-consistent (with_offers rows offers) drafting.consistent) part_now.bundle_is (same_itself agent.name)

-- nothing is granted
pub tried_none : (rows : Rows) (agent : AgentRow) (client : Client) → grant rows agent client ≡ None → rows ≡ tried rows agent client
tried_none rows agent client none =
    sym (ap (λ (o : Option (List Resource)). option_map_or (λ b. with_offer rows (new_offer rows agent client b)) o rows) none)

-- a grant depends on filters and the clock, which drafts do not change
filters-with_offers : (rows : Rows) (offers : List OfferRow)
    → ((with_offers rows offers).filters ≡ rows.filters) × ((with_offers rows offers).clock ≡ rows.clock)
unfolding with_offer
filters-with_offers rows [] = (refl, refl)
filters-with_offers rows (o ∷ os) = filters-with_offers (with_offer rows o) os

-- the part is granted on the agent of the name, in all rows with this quota and with the filters and the clock of these rows
abbrev pub IsGrantedBy : Rows → Text → Option Allowance → List Resource → Path → Option (List Resource) → Type 0
IsGrantedBy tables name quota free path granted = (rows : Rows) (agent : AgentRow) (client : Client)
    → free_of rows agent ≡ free → agent.name ≡ name → rows.filters ≡ tables.filters → rows.clock ≡ tables.clock
    → IsQuotaOf rows quota → path ≡ path_of client → granted ≡ grant rows agent client

-- ---- the row that the code makes is the next draft

pub record IsNext (content : Content) (rows : Rows) (offers : List OfferRow) (place : ℕ) (path : Path) (free bundle : List Resource) (row : OfferRow) : Type 0 where
  pub drafting : IsDrafting content rows offers
  pub fits : rows.next_offer + length offers + 1 < 2 ^ 64
  pub agent : AgentRow
  pub at : slice_get rows.agents place ≡ Some agent
  pub client : Client
  pub joined : path ≡ path_of client
  pub known : is_registered rows.frameworks client ≡ true
  pub is_free : free ≡ free_of (with_offers rows offers) agent
  pub granted : grant (with_offers rows offers) agent client ≡ Some bundle
  pub made : row ≡ next_draft rows offers agent client bundle

pub next_from : (content : Content) (rows : Rows) (offers : List OfferRow) (place : ℕ) (path : Path) (quota : Option Allowance) (free bundle : List Resource) (row : OfferRow) (number : ℕ) (name : Text)
    → IsDrafting content rows offers
    → rows.next_offer + length offers + 1 < 2 ^ 64
    → IsFreeAt (with_offers rows offers) place free
    → IsQuotaOf (with_offers rows offers) quota
    → IsRegisteredPath rows path
    → IsGrantedBy rows name quota free path (Some bundle)
    → ((a : AgentRow) → slice_get rows.agents place ≡ Some a → name ≡ a.name)
    → number ≡ rows.next_offer + length offers
    → row ≡ record { number = number; agent = name; framework = framework_part path; role = role_part path; bundle = bundle }
    → IsNext content rows offers place path free bundle row
next_from content rows offers place path quota free bundle row number name drafting fits is_free counted registered granted named numbered row_is =
    let agent : AgentRow = is_free.agent in
    let client : Client = registered.client in
    let at : slice_get rows.agents place ≡ Some agent =
    ap (λ (as' : List AgentRow). slice_get as' place) (sym (agents-with_offers rows offers)) ∙ is_free.at in
    let role : role_part path ≡ client.role = ap role_part registered.joined ∙ role_part-client_path client.role client.framework in
    let framework : framework_part path ≡ client.framework = ap framework_part registered.joined ∙ framework_part-client_path client.role client.framework in
    let next : number ≡ (with_offers rows offers).next_offer = numbered ∙ sym (next-with_offers rows offers) in
    record {
      drafting = drafting;
      fits = fits;
      agent = agent;
      at = at;
      client = client;
      joined = registered.joined;
      known = registered.registered;
      is_free = is_free.free;
      granted = sym (granted (with_offers rows offers) agent client (sym is_free.free) (sym (named agent at))
          (filters-with_offers rows offers).0 (filters-with_offers rows offers).1 counted registered.joined);
      made = row_is ∙ (λ i. record { number = next i; agent = named agent at i; framework = framework i; role = role i; bundle = bundle });
    }

-- the place determines the agent, and the path determines the client
module _ {content : Content} {rows : Rows} {offers : List OfferRow} {place : ℕ} {path : Path} {free bundle : List Resource} {row : OfferRow}
    (next : IsNext content rows offers place path free bundle row) where
  pub known_next : has_client content path ≡ true
  known_next = rw next.joined (has_client-now content rows offers next.drafting place next.agent next.at next.client next.known bundle next.granted next.fits)

  pub sound_next : IsSound (with_change content path (charged (quantities_of bundle) 1))
  sound_next = rw next.joined (sound_after content rows offers next.drafting place next.agent next.at next.client next.known bundle next.granted next.fits)

  pub drafting_next : (after : Content) → after ≡ with_change content path (charged (quantities_of bundle) 1) → IsDrafting after rows (offers ++ row ∷ [])
  drafting_next after charge =
      rw next.made
      (drafting_after content rows offers next.drafting place next.agent next.at next.client next.known bundle next.granted next.fits after
      (charge ∙ ap (λ (p : Path). with_change content p (charged (quantities_of bundle) 1)) next.joined))

  pub can_count_next : (limits : List LimitRow) (consumption : Option (List Usage)) → IsQuotaOf (with_offers rows offers) (quota_under limits consumption)
      → CanCount consumption row
  can_count_next limits consumption counted =
      rw next.made
      (can_count_after content rows offers next.drafting place next.agent next.at next.client next.known bundle next.granted next.fits limits consumption counted)

  pub tried_next : IsTried (with_offers rows offers) (with_offers rows (offers ++ row ∷ [])) place path
  tried_next agent client at joined =
      let here : slice_get (with_offers rows offers).agents place ≡ Some next.agent =
      ap (λ (as' : List AgentRow). slice_get as' place) (agents-with_offers rows offers) ∙ next.at in
      let same_agent : next.agent ≡ agent = let e : Some next.agent ≡ Some agent = sym here ∙ at in cc in
      let same_client : next.client ≡ client = path_of-injective next.client client (sym next.joined ∙ joined) in
      ap (λ (o : OfferRow). with_offers rows (offers ++ o ∷ [])) next.made
      ∙ tried_after content rows offers next.drafting place next.agent next.at next.client next.known bundle next.granted next.fits
      ∙ (λ i. tried (with_offers rows offers) (same_agent i) (same_client i))

  pub free_next : (left : List Resource) → left ≡ rest free bundle → IsFreeAt (with_offers rows (offers ++ row ∷ [])) place left
  free_next left left_is =
      let offer : OfferRow = next_draft rows offers next.agent next.client bundle in
      record {
        agent = next.agent;
        at = ap (λ (as' : List AgentRow). slice_get as' place) (agents-with_offers rows (offers ++ row ∷ [])) ∙ next.at;
        free = left_is
            ∙ ap (λ (f : List Resource). rest f bundle) next.is_free
            ∙ sym (free_after content rows offers next.drafting place next.agent next.at next.client next.known bundle next.granted next.fits)
            ∙ ap (λ (o : OfferRow). free_of (with_offers rows (offers ++ o ∷ [])) next.agent) (sym next.made);
      }

  pub left_next : (lefts : List Left) (left : List Resource) → left ≡ rest free bundle
      → HasLeft rows offers (lefts ++ record { agent = place; free = free } ∷ []) (place + 1)
      → HasLeft rows (offers ++ row ∷ []) (lefts ++ record { agent = place; free = left } ∷ []) (place + 1)
  left_next lefts left left_is before =
      left-tried rows offers (offers ++ row ∷ []) lefts place next.agent next.client free left
      (ap (λ as'. are_distinct (map (λ a. a.name) as')) (sym (agents-with_offers rows offers)) ∙ next.drafting.consistent.agents.names) before next.at
      (tried_next next.agent next.client (ap (λ (as' : List AgentRow). slice_get as' place) (agents-with_offers rows offers) ∙ next.at) next.joined)
      (free_next left left_is)

-- the client was tried, and nothing was granted
pub tried_nothing : (rows : Rows) (offers : List OfferRow) (place : ℕ) (path : Path) (quota : Option Allowance) (free : List Resource) (name : Text)
    → IsFreeAt (with_offers rows offers) place free
    → IsQuotaOf (with_offers rows offers) quota
    → IsGrantedBy rows name quota free path None
    → ((a : AgentRow) → slice_get rows.agents place ≡ Some a → name ≡ a.name)
    → IsTried (with_offers rows offers) (with_offers rows offers) place path
tried_nothing rows offers place path quota free name is_free counted granted named agent client at joined =
    let now : Rows = with_offers rows offers in
    let same : is_free.agent ≡ agent = let e : Some is_free.agent ≡ Some agent = sym is_free.at ∙ at in cc in
    let before : slice_get rows.agents place ≡ Some agent = ap (λ (as' : List AgentRow). slice_get as' place) (sym (agents-with_offers rows offers)) ∙ at in
    tried_none now agent client (sym (granted now agent client (ap (free_of now) (sym same) ∙ sym is_free.free) (sym (named agent before))
    (filters-with_offers rows offers).0 (filters-with_offers rows offers).1 counted joined))
