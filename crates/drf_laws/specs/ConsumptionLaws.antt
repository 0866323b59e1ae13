-- What roles consume: roles above consume at least as much, accepting frees the rest of an offer, and the sum is below
-- 2^52 thousandths.
use Rattle.std.specs.Prelude.{◌≡◌, ◌+◌, ◌≤◌, ◌<◌, ◌^◌, Bool, length, Some, None, IsTrue}
use Rattle.std.specs.List.{AllByRecursion}
use Rattle.std.proofs.Common.{cond}
use Rattle.drf_role.specs.Text.{Text}
use Rattle.drf_role.specs.Path.{Path}
use Rattle.drf_bundle.specs.Bundle.{IsBundle}
use Rattle.drf_rows.specs.LimitNumbers.{LimitNumbers, ceilings}
use Rattle.drf_rows.specs.Consistent.{IsConsistent}
use Rattle.drf_rows.specs.Offers.{offer_at, left_of_offer}
use Rattle.drf_rows.specs.Quota.{unreserved_in, consumption_where, consumption, is_within}
use Rattle.drf_rows.specs.Step.{refusal_of, effect}
use Rattle.drf_rows.specs.Tasks.{uses}
use Rattle.drf_rows.specs.declared.event.Accept as accepting
use Rattle.drf_rows.specs.declared.event.Event.TheVariants.{Accept}
use Rattle.drf_rows.specs.declared.rows.OfferRow.{OfferRow}
use Rattle.drf_rows.specs.declared.rows.Rows.{Rows}

-- ---- the statements

-- a role consumes at least what each role below it consumes
abbrev pub RolesAboveConsumeMore : Type 0
RolesAboveConsumeMore =
    (rows : Rows) (outer role : Path) (label : Text)
    → IsTrue (is_within outer role)
    → consumption rows role label ≤ consumption rows outer label

-- of an accepted offer only the tasks are consumed: the rest of it, as far as it is unreserved, is consumed no
-- longer
abbrev pub RestIsConsumedNoLonger : Type 0
RestIsConsumedNoLonger =
    (limits : LimitNumbers) (rows : Rows) (a : accepting.Accept) (o : OfferRow) (test : Path → Bool) (label : Text)
    → IsConsistent rows
    → AllByRecursion IsBundle (uses a.tasks)
    → offer_at rows a.offer ≡ Some o
    → refusal_of limits rows (Accept a) ≡ None
    → consumption_where test rows label
    ≡ consumption_where test (effect rows (Accept a)) label + cond (test o.role) (unreserved_in label (left_of_offer o a.tasks)) 0

-- what any roles consume together is below 2^52 thousandths
abbrev pub ConsumptionIsSmall : Type 0
ConsumptionIsSmall =
    (test : Path → Bool) (rows : Rows) (label : Text)
    → IsConsistent rows
    → length rows.agents ≤ ceilings.agents
    → consumption_where test rows label < 2 ^ 52
