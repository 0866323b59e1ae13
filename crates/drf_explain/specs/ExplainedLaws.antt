-- The grants of an explanation are the offers of the cycle, and expired filters do not change the explanation.
use Rattle.std.specs.Prelude.{◌≡◌, ℕ, List, [], ◌∷◌, map}
use Rattle.std.specs.List.{flat_map}
use Rattle.drf_role.specs.Text.{Text}
use Rattle.drf_role.specs.Path.{Path, client_path}
use Rattle.drf_bundle.specs.declared.resource.Resource.{Resource}
use Rattle.drf_rows.specs.Cycle.{cycle}
use Rattle.drf_rows.specs.Step.{live_rows, new_offers}
use Rattle.drf_rows.specs.declared.rows.OfferRow.{OfferRow}
use Rattle.drf_rows.specs.declared.rows.Rows.{Rows}
use Rattle.drf_explain.specs.Explained.{outcome, explained}
use Rattle.drf_explain.specs.declared.finding.Finding.{Finding}
use Rattle.drf_explain.specs.declared.finding.Finding.TheVariants.{Suppressed, Inactive, NothingFree, Tried, Left}
use Rattle.drf_explain.specs.declared.finding.Outcome.{Outcome}
use Rattle.drf_explain.specs.declared.finding.Outcome.TheVariants.{Grant, HeldBack, OverLimit, BelowThreshold, NothingLeft, ReservedForOthers}

-- a bundle of an agent that is granted to a client
pub record Granted : Type 0 where
  pub agent : Text
  pub client : Path
  pub bundle : List Resource

-- the grants among the findings
abbrev pub grants_of : Text → Path → Outcome → List Granted
grants_of agent client (Grant bundle) = record { agent = agent; client = client; bundle = bundle } ∷ []
grants_of agent client (HeldBack until) = []
grants_of agent client (OverLimit role) = []
grants_of agent client BelowThreshold = []
grants_of agent client NothingLeft = []
grants_of agent client ReservedForOthers = []

abbrev pub grants_in : Finding → List Granted
grants_in (Tried agent client outcome) = grants_of agent client outcome
grants_in (Suppressed client) = []
grants_in (Inactive agent) = []
grants_in (NothingFree agent) = []
grants_in (Left agent left clients) = []

-- an offer as a grant
abbrev pub offered : OfferRow → Granted
offered o = record { agent = o.agent; client = client_path o.role o.framework; bundle = o.bundle }

-- the grants of the explanation are the cycle's offers, in order
abbrev pub GrantsAreOffers : Type 0
GrantsAreOffers = (rows : Rows) (at : ℕ) → flat_map grants_in (explained rows at) ≡ map offered (new_offers rows (cycle rows at))

-- expired filters do not change the explanation
abbrev pub LiveRowsAreExplained : Type 0
LiveRowsAreExplained = (rows : Rows) (at : ℕ) → explained (live_rows rows) at ≡ explained rows at
