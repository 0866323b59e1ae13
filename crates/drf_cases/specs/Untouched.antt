-- What is unchanged by events that do not set it.
use Rattle.std.specs.Prelude.{◌≡◌, ⊤}
use Rattle.drf_rows.specs.LimitNumbers.{LimitNumbers}
use Rattle.drf_rows.specs.Step.{rows_after}
use Rattle.drf_rows.specs.declared.event.Event.{Event}
use Rattle.drf_rows.specs.declared.event.Event.TheVariants.{RemoveAgent, SetFramework, RemoveFramework, Accept, Decline, Revive, SetWeight, SetLimit, Cycle}
use Rattle.drf_rows.specs.declared.rows.Rows.{Rows}

abbrev pub SetsNoWeight : Event → Type 0
SetsNoWeight (SetWeight role weight) = ⊥
SetsNoWeight event = ⊤

abbrev pub SetsNoLimit : Event → Type 0
SetsNoLimit (SetLimit role limit) = ⊥
SetsNoLimit event = ⊤

-- the weights of roles, and the order of their rows, stay until a weight is set
abbrev pub WeightsStand : Type 0
WeightsStand = (limits : LimitNumbers) (rows : Rows) (event : Event) → SetsNoWeight event → (rows_after limits rows event).weights ≡ rows.weights

-- so do the limits
abbrev pub LimitsStand : Type 0
LimitsStand = (limits : LimitNumbers) (rows : Rows) (event : Event) → SetsNoLimit event → (rows_after limits rows event).limits ≡ rows.limits

-- ---- filters, the clock and the next offer number

-- the event neither can add a filter (accept, decline) nor removes some (revive, change of roles, removal of an agent
-- or framework)
abbrev pub TouchesNoFilter : Event → Type 0
TouchesNoFilter (RemoveAgent agent) = ⊥
TouchesNoFilter (SetFramework framework roles) = ⊥
TouchesNoFilter (RemoveFramework framework) = ⊥
TouchesNoFilter (Accept a) = ⊥
TouchesNoFilter (Decline d) = ⊥
TouchesNoFilter (Revive framework role) = ⊥
TouchesNoFilter event = ⊤

abbrev pub HasNoTimestamp : Event → Type 0
HasNoTimestamp (Accept a) = ⊥
HasNoTimestamp (Decline d) = ⊥
HasNoTimestamp (Cycle at) = ⊥
HasNoTimestamp event = ⊤

abbrev pub IsNoCycle : Event → Type 0
IsNoCycle (Cycle at) = ⊥
IsNoCycle event = ⊤

-- during such events filters stay
abbrev pub FiltersStand : Type 0
FiltersStand = (limits : LimitNumbers) (rows : Rows) (event : Event) → TouchesNoFilter event → (rows_after limits rows event).filters ≡ rows.filters

-- the clock stays during events without a timestamp
abbrev pub ClockStands : Type 0
ClockStands = (limits : LimitNumbers) (rows : Rows) (event : Event) → HasNoTimestamp event → (rows_after limits rows event).clock ≡ rows.clock

-- the next offer number stays between cycles
abbrev pub NumberStands : Type 0
NumberStands = (limits : LimitNumbers) (rows : Rows) (event : Event) → IsNoCycle event → (rows_after limits rows event).next_offer ≡ rows.next_offer
