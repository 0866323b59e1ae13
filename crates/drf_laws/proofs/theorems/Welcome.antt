-- What follows from an event not being refused, case by case.
use Rattle.std.proofs.Common.{◌≡◌, ℕ, ◌<◌, ◌≤◌, true, false, List, [], ◌∷◌, None, inl, inr, arith, nat_lt}
use Rattle.std.specs.List.{list_any}
use Rattle.std.proofs.lemmas.Bool.{cases_Bool, or_parts, not-false, ltb-false, leb-false}
use Rattle.drf_role.specs.Text.{Text, same_text}
use Rattle.drf_role.specs.Path.{Path}
use Rattle.drf_bundle.specs.Quantities.{amount_of}
use Rattle.drf_bundle.specs.Bundle.{quantities_of}
use Rattle.drf_bundle.specs.declared.quantities.Entry.{Entry}
use Rattle.drf_bundle.specs.declared.resource.Resource.{Resource}
use Rattle.drf_rows.specs.LimitNumbers.{LimitNumbers}
use Rattle.drf_rows.specs.Step.{is_in_role, too_many_agents, too_many_frameworks, refusal_of}
pub use Rattle.drf_row_laws.proofs.StepLaws.{no_case, no_case_of}
use Rattle.drf_rows.specs.Members.{has_agent, has_framework, with_agent}
use Rattle.drf_rows.specs.Offers.{has_offer}
use Rattle.drf_rows.specs.Weights.{is_weight, too_many_weights}
use Rattle.drf_rows.specs.declared.limits.TheConstants.{LARGEST_AMOUNT, LATEST_TIMESTAMP}
use Rattle.drf_rows.specs.declared.event.Accept as accepting
use Rattle.drf_rows.specs.declared.event.Decline as declining
use Rattle.drf_rows.specs.declared.event.Event.{Event}
use Rattle.drf_rows.specs.declared.event.Event.TheVariants.{AddAgent, RemoveFramework, AddFramework, Accept, Decline, Suppress, Revive, SetWeight, Cycle}
use Rattle.drf_rows.specs.declared.rows.Rows.{Rows}

-- the history is not full
pub room_for : (limits : LimitNumbers) (rows : Rows) (event : Event) → refusal_of limits rows event ≡ None → rows.events < limits.events
room_for limits rows event none = leb-false limits.events rows.events (no_case_of limits rows event none).0

-- ---- the refusal cases that do not hold

-- what is true of an agent that is accepted
pub record IsWelcomeAgent (limits : LimitNumbers) (rows : Rows) (agent : Text) (total : List Resource) : Type 0 where
  pub new : has_agent rows agent ≡ false
  pub small : list_any (λ e. nat_lt LARGEST_AMOUNT e.amount) (quantities_of total) ≡ false
  pub few : too_many_agents limits (with_agent rows agent total) ≡ false

pub welcome_agent : (limits : LimitNumbers) (rows : Rows) (agent : Text) (total : List Resource)
    → refusal_of limits rows (AddAgent agent total) ≡ None → IsWelcomeAgent limits rows agent total
welcome_agent limits rows agent total none =
    let no = no_case_of limits rows (AddAgent agent total) none in
    record { new = no.1.0; small = no.1.1.0; few = no.1.1.1.0 }

-- what is true of a framework that is accepted
pub record IsWelcomeFramework (limits : LimitNumbers) (rows : Rows) (framework : Text) (roles : List Path) : Type 0 where
  pub new : has_framework rows framework ≡ false
  pub few : too_many_frameworks limits rows roles ≡ false

pub welcome_framework : (limits : LimitNumbers) (rows : Rows) (framework : Text) (roles : List Path)
    → refusal_of limits rows (AddFramework framework roles) ≡ None → IsWelcomeFramework limits rows framework roles
welcome_framework limits rows framework roles none =
    let no = no_case_of limits rows (AddFramework framework roles) none in
    record { new = no.1.0; few = no.1.1.1.0 }

-- what is true of a weight that is accepted
pub record IsWelcomeWeight (limits : LimitNumbers) (rows : Rows) (role : Path) (weight : ℕ) : Type 0 where
  pub right : is_weight weight ≡ true
  pub few : too_many_weights limits rows role ≡ false

pub welcome_weight : (limits : LimitNumbers) (rows : Rows) (role : Path) (weight : ℕ)
    → refusal_of limits rows (SetWeight role weight) ≡ None → IsWelcomeWeight limits rows role weight
welcome_weight limits rows role weight none =
    let no = no_case_of limits rows (SetWeight role weight) none in
    record { right = not-false (is_weight weight) no.1.0; few = no.1.1.0 }

-- the timestamp of an accepted cycle is not too late
pub early_cycle : (limits : LimitNumbers) (rows : Rows) (at : ℕ) → refusal_of limits rows (Cycle at) ≡ None → at ≤ LATEST_TIMESTAMP
early_cycle limits rows at none = ltb-false LATEST_TIMESTAMP at (no_case_of limits rows (Cycle at) none).1.0

-- a framework that is removed is registered
pub known_framework : (limits : LimitNumbers) (rows : Rows) (framework : Text) → refusal_of limits rows (RemoveFramework framework) ≡ None
    → has_framework rows framework ≡ true
known_framework limits rows framework none = not-false (has_framework rows framework) (no_case_of limits rows (RemoveFramework framework) none).1.0

-- a client that is suppressed or revives is registered
pub known_suppressed : (limits : LimitNumbers) (rows : Rows) (framework : Text) (role : Path) → refusal_of limits rows (Suppress framework role) ≡ None
    → is_in_role rows framework role ≡ true
known_suppressed limits rows framework role none =
    not-false (is_in_role rows framework role) (no_case_of limits rows (Suppress framework role) none).1.1.0

pub known_reviving : (limits : LimitNumbers) (rows : Rows) (framework : Text) (role : Path) → refusal_of limits rows (Revive framework role) ≡ None
    → is_in_role rows framework role ≡ true
known_reviving limits rows framework role none =
    not-false (is_in_role rows framework role) (no_case_of limits rows (Revive framework role) none).1.1.0

-- the timestamp of an accepted `accept` is not too late
pub early_accept : (limits : LimitNumbers) (rows : Rows) (a : accepting.Accept) → refusal_of limits rows (Accept a) ≡ None → a.at ≤ LATEST_TIMESTAMP
early_accept limits rows a none = ltb-false LATEST_TIMESTAMP a.at (no_case_of limits rows (Accept a) none).1.0

-- an offer that is declined is outstanding
pub welcome_decline : (limits : LimitNumbers) (rows : Rows) (d : declining.Decline)
    → refusal_of limits rows (Decline d) ≡ None → (d.at ≤ LATEST_TIMESTAMP) × (has_offer rows d.offer ≡ true)
welcome_decline limits rows d none =
    let no = no_case_of limits rows (Decline d) none in
    (ltb-false LATEST_TIMESTAMP d.at no.1.0, not-false (has_offer rows d.offer) no.1.1.1.0)

-- ---- small amounts

pub small_amounts : (es : List Entry) (most : ℕ) (label : Text) → list_any (λ e. nat_lt most e.amount) es ≡ false → amount_of es label ≤ most
small_amounts [] most label small = omega arith
small_amounts (e ∷ es) most label small =
    let both = or_parts (nat_lt most e.amount) (list_any (λ e. nat_lt most e.amount) es) small in
    elim (cases_Bool (same_text e.label label)) [
      | inl here ↦ rw here (ltb-false most e.amount both.0)
      | inr past ↦ rw past (small_amounts es most label both.1)
    ]
