-- The promise of a minimum share for each sibling (sharing incentive).
use Rattle.std.specs.Prelude.{◌≡◌, ℕ, ◌+◌, ◌*◌, ◌<◌, ◌≤◌, true, List, [], ◌∷◌, filter, length, sum_by}
use Rattle.std.specs.List.{AllByRecursion}
use Rattle.drf_role.specs.Path.{Path, begins_with}
use Rattle.drf_role.specs.Text.{Text}
use Rattle.drf_bundle.specs.Quantities.{amount_of}
use Rattle.drf_bundle.specs.declared.resource.Resource.{Resource}
use Rattle.drf_rows.specs.Client.{path_of}
use Rattle.drf_rows.specs.Consistent.{IsConsistent}
use Rattle.drf_rows.specs.Cycle.{at_timestamp, cycle, is_allocatable}
use Rattle.drf_rows.specs.Held.{cluster_total, held_by, standing_of, weight_of}
use Rattle.drf_rows.specs.Holdings.{holding_of_offer}
use Rattle.drf_rows.specs.Share.{Fraction, share_of}
use Rattle.drf_rows.specs.declared.limits.TheConstants.{LATEST_TIMESTAMP}
use Rattle.drf_rows.specs.declared.rows.Rows.{Rows}
use Rattle.drf_promises.specs.Apart.{largest_agent, AreClientsOf, AreOneAgentApart, TakesPart}
use Rattle.drf_promises.specs.Cycles.{IsOpen}
use Rattle.drf_promises.specs.Siblings.{child, AtMostSum}

-- n times the fraction
abbrev pub times : ℕ → Fraction → Fraction
times n f = record { part = n * f.part; whole = f.whole }

-- the dominant share of a node in a state
abbrev pub share_at : Rows → Path → Fraction
share_at rows node = share_of (standing_of rows) node

-- the weight of a node in a state, in thousandths
abbrev pub weight_at : Rows → Path → ℕ
weight_at rows node = weight_of rows.weights node

-- one child and the others together hold everything that their parent holds
abbrev pub HoldAll : Rows → Path → Text → List Text → Type 0
HoldAll rows parent one others =
    (label : Text) → held_by rows parent label ≤ held_by rows (child parent one) label + sum_by (λ name. held_by rows (child parent name) label) others

-- If siblings are one agent apart, each active child has its part by weight of what its parent has, less one agent for
-- each sibling. With its weight w, the sum W of all weights, and n siblings, its share is at least w/W times (the share
-- of the parent - n times the share of the largest agent).
abbrev pub SharingIncentive : Type 0
SharingIncentive =
    (rows : Rows) (parent : Path) (one : Text) (others : List Text)
    → IsConsistent rows
    → AreOneAgentApart rows
    → TakesPart rows (child parent one)
    → HoldAll rows parent one others
    → let w : ℕ = weight_at rows (child parent one) in
    let all : ℕ = w + sum_by (λ name. weight_at rows (child parent name)) others in
    AtMostSum (times w (share_at rows parent)) (times all (share_at rows (child parent one))) (times (w * length others) (largest_agent rows))

-- ---- in an empty cluster

-- In an empty cluster, in which every agent is active and large enough to be offered, and nothing is reserved, limited
-- or filtered at the time of the cycle, the cycle gives each active top-level role at least w/W - n w/W times the share
-- of the largest agent.
abbrev pub FairShares : Type 0
FairShares =
    (rows : Rows) (at : ℕ) (one : Text) (others : List Text) (label : Text)
    → IsConsistent rows
    → at ≤ LATEST_TIMESTAMP
    → IsOpen (at_timestamp rows at)
    → rows.offers ≡ []
    → rows.tasks ≡ []
    → AllByRecursion (λ a. (a.active ≡ true) × (is_allocatable a.total ≡ true)) rows.agents
    → 0 < amount_of (cluster_total rows.agents) label
    → AreClientsOf rows [] (one ∷ others)
    → TakesPart rows (child [] one)
    → let after : Rows = cycle rows at in
    let w : ℕ = weight_at after (child [] one) in
    let all : ℕ = w + sum_by (λ name. weight_at after (child [] name)) others in
    AtMostSum (times w (record { part = 1; whole = 1 })) (times all (share_at after (child [] one))) (times (w * length others) (largest_agent after))

-- how many offers the clients of a node have outstanding
abbrev pub offers_to : Rows → Path → ℕ
offers_to rows node = length (filter (λ o. begins_with (path_of (holding_of_offer o).client) node) rows.offers)

-- so of m equal agents each top-level role gets at least w/W of m - n
abbrev pub EqualAgentsAreShared : Type 0
EqualAgentsAreShared =
    (rows : Rows) (at : ℕ) (one : Text) (others : List Text) (total : List Resource)
    → IsConsistent rows
    → at ≤ LATEST_TIMESTAMP
    → IsOpen (at_timestamp rows at)
    → rows.offers ≡ []
    → rows.tasks ≡ []
    → AllByRecursion (λ a. (a.active ≡ true) × (a.total ≡ total)) rows.agents
    → is_allocatable total ≡ true
    → AreClientsOf rows [] (one ∷ others)
    → TakesPart rows (child [] one)
    → let after : Rows = cycle rows at in
    let w : ℕ = weight_at after (child [] one) in
    let all : ℕ = w + sum_by (λ name. weight_at after (child [] name)) others in
    w * length rows.agents ≤ all * offers_to after (child [] one) + w * length others
