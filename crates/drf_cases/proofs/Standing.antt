-- Tables that an event leaves unchanged, event by event; and all tables once the history is full.
use Rattle.std.specs.Prelude.{◌≡◌}
use Rattle.std.proofs.Common.{refl, ap}
use Rattle.drf_rows.specs.Step.{refusal_of, effect, reply_to}
use Rattle.drf_row_laws.proofs.FrameLaws.{only_changed, step_keeps}
use Rattle.drf_rows.specs.declared.event.Event.{Event}
use Rattle.drf_rows.specs.declared.event.Event.TheVariants.{RemoveAgent, SetFramework, RemoveFramework, Accept, Decline, Revive, SetWeight, SetLimit, Cycle}
use Rattle.drf_rows.specs.declared.rows.Rows.{Rows}
use Rattle.drf_cases.specs.FullCases.{FullRefusesAll}
use Rattle.drf_cases.specs.Untouched.{TouchesNoFilter, SetsNoLimit, SetsNoWeight, HasNoTimestamp, IsNoCycle, FiltersStand, LimitsStand, WeightsStand, ClockStands, NumberStands}

weights_kept : (rows : Rows) (event : Event) → SetsNoWeight event → (effect rows event).weights ≡ rows.weights
weights_kept rows (SetWeight role weight) spared = absurd spared
weights_kept rows event spared = ap (λ (r : Rows). r.weights) (only_changed rows event)

pub weights_stand : WeightsStand
weights_stand limits rows event spared =
    step_keeps (λ after. after.weights ≡ rows.weights) limits rows event refl (weights_kept rows event spared)

limits_kept : (rows : Rows) (event : Event) → SetsNoLimit event → (effect rows event).limits ≡ rows.limits
limits_kept rows (SetLimit role limit) spared = absurd spared
limits_kept rows event spared = ap (λ (r : Rows). r.limits) (only_changed rows event)

pub limits_stand : LimitsStand
limits_stand limits rows event spared =
    step_keeps (λ after. after.limits ≡ rows.limits) limits rows event refl (limits_kept rows event spared)

filters_kept : (rows : Rows) (event : Event) → TouchesNoFilter event → (effect rows event).filters ≡ rows.filters
filters_kept rows (RemoveAgent agent) spared = absurd spared
filters_kept rows (SetFramework framework roles) spared = absurd spared
filters_kept rows (RemoveFramework framework) spared = absurd spared
filters_kept rows (Accept a) spared = absurd spared
filters_kept rows (Decline d) spared = absurd spared
filters_kept rows (Revive framework role) spared = absurd spared
filters_kept rows event spared = ap (λ (r : Rows). r.filters) (only_changed rows event)

pub filters_stand : FiltersStand
filters_stand limits rows event spared =
    step_keeps (λ after. after.filters ≡ rows.filters) limits rows event refl (filters_kept rows event spared)

clock_kept : (rows : Rows) (event : Event) → HasNoTimestamp event → (effect rows event).clock ≡ rows.clock
clock_kept rows (Accept a) spared = absurd spared
clock_kept rows (Decline d) spared = absurd spared
clock_kept rows (Cycle at) spared = absurd spared
clock_kept rows event spared = ap (λ (r : Rows). r.clock) (only_changed rows event)

pub clock_stands : ClockStands
clock_stands limits rows event spared =
    step_keeps (λ after. after.clock ≡ rows.clock) limits rows event refl (clock_kept rows event spared)

number_kept : (rows : Rows) (event : Event) → IsNoCycle event → (effect rows event).next_offer ≡ rows.next_offer
number_kept rows (Cycle at) spared = absurd spared
number_kept rows event spared = ap (λ (r : Rows). r.next_offer) (only_changed rows event)

pub number_stands : NumberStands
number_stands limits rows event spared =
    step_keeps (λ after. after.next_offer ≡ rows.next_offer) limits rows event refl (number_kept rows event spared)

pub full_refuses_all : FullRefusesAll
unfolding refusal_of reply_to
full_refuses_all limits rows event full = rw full refl
