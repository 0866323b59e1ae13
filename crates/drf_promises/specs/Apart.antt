-- The promise about siblings in runs: they are at most one agent apart.
use Rattle.std.specs.Prelude.{◌≡◌, true, ⊤, List, [], ◌∷◌, map, Some}
use Rattle.std.specs.List.{AllByRecursion, list_any}
use Rattle.drf_role.specs.Path.{Path, begins_with}
use Rattle.drf_role.specs.Text.{Text}
use Rattle.drf_bundle.specs.Bundle.{quantities_of}
use Rattle.drf_bundle.specs.Quantities.{amount_of}
use Rattle.drf_bundle.specs.declared.resource.Resource.{Resource}
use Rattle.drf_rows.specs.Client.{path_of}
use Rattle.drf_rows.specs.Consistent.{IsConsistent}
use Rattle.drf_rows.specs.Held.{active_clients, cluster_total, standing_of, weight_of}
use Rattle.drf_rows.specs.LimitNumbers.{LimitNumbers}
use Rattle.drf_rows.specs.Offers.{offer_at, left_of_offer}
use Rattle.drf_rows.specs.Share.{Fraction, greatest, weighted_share_of}
use Rattle.drf_rows.specs.Step.{rows_after, rows_after_all}
use Rattle.drf_rows.specs.declared.event.Event.{Event}
use Rattle.drf_rows.specs.declared.event.Event.TheVariants.{ActivateAgent, Accept, Cycle, Report}
use Rattle.drf_rows.specs.declared.rows.OfferRow.{OfferRow}
use Rattle.drf_rows.specs.declared.rows.Rows.{Rows}
use Rattle.drf_laws.specs.RunLaws.{AreGiven}
use Rattle.drf_sorter.specs.Fractions.{dominant_of, weigh}
use Rattle.drf_promises.specs.Cycles.{IsOpen}
use Rattle.drf_promises.specs.Siblings.{child, AtMostSum}

-- ---- one agent apart

-- the dominant share of a client that held just this bundle
abbrev pub share_of_bundle : Rows → List Resource → Fraction
share_of_bundle rows bundle = dominant_of (amount_of (quantities_of bundle)) (cluster_total rows.agents)

-- the dominant share of the largest agent
abbrev pub largest_agent : Rows → Fraction
largest_agent rows = greatest (map (λ a. share_of_bundle rows a.total) rows.agents)

-- the weighted share of a node in a state
abbrev pub weighted_share_at : Rows → Path → Fraction
weighted_share_at rows node = weighted_share_of (standing_of rows) node

-- the node is active: one of its clients is
abbrev pub TakesPart : Rows → Path → Type 0
TakesPart rows node = list_any (λ c. begins_with (path_of c) node) (active_clients rows) ≡ true

-- each active client belongs to one of these children
abbrev pub AreClientsOf : Rows → Path → List Text → Type 0
AreClientsOf rows parent names =
    AllByRecursion (λ c. list_any (λ name. begins_with (path_of c) (child parent name)) names ≡ true) (active_clients rows)

-- no role and no client is ahead of an active sibling by more than the largest agent: its weighted share is at most
-- that of the sibling, plus the share of the largest agent divided by its own weight
abbrev pub AreOneAgentApart : Rows → Type 0
AreOneAgentApart rows =
    (parent : Path) (a b : Text)
    → TakesPart rows (child parent b)
    → AtMostSum (weighted_share_at rows (child parent a)) (weighted_share_at rows (child parent b))
    (weigh (largest_agent rows) (weight_of rows.weights (child parent a)))

-- this is so if nothing is held
abbrev pub NothingHeldIsApart : Type 0
NothingHeldIsApart = (rows : Rows) → rows.offers ≡ [] → rows.tasks ≡ [] → AreOneAgentApart rows

-- ---- runs

-- by the event no node holds less, and only a cycle makes one hold more: it is a cycle, an accept whose tasks use the
-- whole offer, the activation of an agent, or a report
abbrev pub KeepsAll : Rows → Event → Type 0
KeepsAll rows (Cycle at) = ⊤
KeepsAll rows (Accept a) = (offer : OfferRow) → offer_at rows a.offer ≡ Some offer → left_of_offer offer a.tasks ≡ []
KeepsAll rows (ActivateAgent agent) = ⊤
KeepsAll rows Report = ⊤
KeepsAll rows other = ⊥

-- all events of a run are of this kind
abbrev pub AllKeepAll : LimitNumbers → Rows → List Event → Type 0
AllKeepAll limits rows [] = ⊤
AllKeepAll limits rows (event ∷ events) = KeepsAll rows event × AllKeepAll limits (rows_after limits rows event) events

-- during a run of such events siblings stay at most one agent apart
abbrev pub RunsStayApart : Type 0
RunsStayApart =
    (limits : LimitNumbers) (rows : Rows) (events : List Event)
    → IsConsistent rows
    → IsOpen rows
    → AreGiven events
    → AllKeepAll limits rows events
    → AreOneAgentApart rows
    → AreOneAgentApart (rows_after_all limits rows events)
