-- A running cycle: its offers are drafts, which the sorter already holds and the tables do not.
use Rattle.std.specs.Prelude.{◌≡◌, ℕ, ◌+◌, ◌<◌, ◌≤◌, ◌^◌, ◌&&◌, Bool, true, false, List, [], ◌∷◌, ◌++◌, length, filter, slice_get, Option, Some, if◌then◌else◌}
use Rattle.std.specs.List.{AllByRecursion}
use Rattle.std.specs.Option.{option_map_or, MatchOption}
use Rattle.drf_role.specs.Text.{Text}
use Rattle.drf_role.specs.Path.{Path, IsClientPath}
use Rattle.drf_gates.specs.quota.Allowance.{Usage, quota_under, used_where}
use Rattle.drf_bundle.specs.declared.resource.Resource.{Resource}
use Rattle.drf_rows.specs.Client.{Client, path_of}
use Rattle.drf_rows.specs.Holdings.{holding_of_offer}
use Rattle.drf_rows.specs.Cycle.{free_of, is_allocatable, tried, turn, turns}
use Rattle.drf_rows.specs.Consistent.{IsConsistent}
use Rattle.drf_rows.specs.Held.{is_registered}
use Rattle.drf_rows.specs.Quota.{unreserved_in}
use Rattle.drf_rows.specs.declared.rows.AgentRow.{AgentRow}
use Rattle.drf_rows.specs.declared.rows.OfferRow.{OfferRow}
use Rattle.drf_rows.specs.declared.rows.Rows.{Rows}
use Rattle.drf_sorter.specs.Content.{Content, IsSame}
use Rattle.drf_tables.specs.cycle.Drafts.{with_offers, frees_of, frees_after}
use Rattle.drf_tables.specs.Stored.{Stored}
use Rattle.drf_tables.specs.declared.tables.Left.{Left}
use Rattle.drf_content.specs.Content.{content_of}
use Rattle.drf_core.specs.cycle.Entitling.{IsKnown, IsQuotaOf}
use Rattle.drf_core.specs.declared.cycle.Drafts.{Drafts}
use Rattle.drf_core.specs.declared.cycle.free.Free.{Free}

-- the sorter holds the rows with the drafts, and these are consistent
pub record IsDrafting (content : Content) (rows : Rows) (offers : List OfferRow) : Type 0 where
  pub sorted : IsSame content (content_of (with_offers rows offers))
  pub consistent : IsConsistent (with_offers rows offers)
  pub clients : AllByRecursion (λ o. is_registered rows.frameworks (holding_of_offer o).client ≡ true) offers
  pub few_agents : length rows.agents ≤ 4096
  pub low_number : rows.next_offer ≤ 2 ^ 57

-- adding an offer to the consumption does not overflow
abbrev pub CanCount : Option (List Usage) → OfferRow → Type 0
CanCount consumption offer = MatchOption consumption (Unit {0}) (λ used. (test : Path → Bool) (label : Text)
    → used_where test used label + (if test offer.role then unreserved_in label offer.bundle else 0) < 2 ^ 64)

-- the path is that of a registered client
pub record IsRegisteredPath (rows : Rows) (path : Path) : Type 0 where
  pub client : Client
  pub joined : path ≡ path_of client
  pub registered : is_registered rows.frameworks client ≡ true
  pub right : IsClientPath path

-- the bundle is the free resources of the agent at the place
pub record IsFreeAt (rows : Rows) (place : ℕ) (bundle : List Resource) : Type 0 where
  pub agent : AgentRow
  pub at : slice_get rows.agents place ≡ Some agent
  pub free : bundle ≡ free_of rows agent

-- the client of the path was tried on the agent at the place
abbrev pub IsTried : Rows → Rows → ℕ → Path → Type 0
IsTried old new place path = (agent : AgentRow) (client : Client)
    → slice_get old.agents place ≡ Some agent → path ≡ path_of client → new ≡ tried old agent client

-- the agent at a place is active, and its free resources are enough for an offer
abbrev pub is_open_at : Rows → ℕ → Bool
is_open_at rows place = option_map_or (λ a. a.active && is_allocatable (free_of rows a)) (slice_get rows.agents place) false

-- the rows after the turn of the agent at a place, if it is active
abbrev pub turn_at : Rows → ℕ → Rows
turn_at rows place = option_map_or (λ a. if a.active then turn rows a else rows) (slice_get rows.agents place) rows

-- the rows after the turns of all active agents
abbrev pub turns_of : Rows → Rows
turns_of rows = turns rows (filter (λ a. a.active) rows.agents)

-- the recorded free resources are right for the rows with the drafts, and only agents before the place have had their turns
pub record HasLeft (rows : Rows) (offers : List OfferRow) (lefts : List Left) (place : ℕ) : Type 0 where
  pub frees : frees_after (frees_of rows) lefts ≡ frees_of (with_offers rows offers)
  pub past : AllByRecursion (λ l. l.agent < place) lefts

-- the cycle is before the turn of the agent at a place
pub record IsCycleAt (content : Content) (tables : Stored) (drafts : Drafts) (place : ℕ) : Type 0 where
  pub drafting : IsDrafting content tables.rows drafts.offers.items
  pub settled : tables.settled ≡ true
  pub left : HasLeft tables.rows drafts.offers.items drafts.lefts.items place
  pub quota : IsQuotaOf (with_offers tables.rows drafts.offers.items) (quota_under tables.rows.limits drafts.consumption)

-- the cycle is in the turn of the agent at a place, with these free resources there and these clients in the queue
pub record IsTurn (content : Content) (tables : Stored) (drafts : Drafts) (place : ℕ) (free : Free) (queue : List Path) : Type 0 where
  pub drafting : IsDrafting content tables.rows drafts.offers.items
  pub settled : tables.settled ≡ true
  pub left : HasLeft tables.rows drafts.offers.items (drafts.lefts.items ++ record { agent = place; free = free.bundle } ∷ []) (place + 1)
  pub quota : IsQuotaOf (with_offers tables.rows drafts.offers.items) (quota_under tables.rows.limits drafts.consumption)
  pub inside : place < length tables.rows.agents
  pub is_free : IsFreeAt (with_offers tables.rows drafts.offers.items) place free.bundle
  pub known : IsKnown (quota_under tables.rows.limits drafts.consumption) free
  pub clients : AllByRecursion (IsRegisteredPath tables.rows) queue
