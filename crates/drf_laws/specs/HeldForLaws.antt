-- Reserved resources are held only by clients of their role and of the roles below it.
use Rattle.std.specs.Prelude.{◌≡◌, ℕ, false, ◌∷◌, None}
use Rattle.std.specs.List.{AllByRecursion}
use Rattle.drf_role.specs.Text.{Text}
use Rattle.drf_role.specs.Parts.{parts_of}
use Rattle.drf_bundle.specs.Value.{Point}
use Rattle.drf_bundle.specs.Bundle.{units}
use Rattle.drf_rows.specs.LimitNumbers.{LimitNumbers}
use Rattle.drf_rows.specs.Holdings.{Holding, holdings_of}
use Rattle.drf_rows.specs.Consistent.{IsConsistent}
use Rattle.drf_laws.specs.KeptLimitLaws.{IsGivenBundles}
use Rattle.drf_rows.specs.Quota.{is_within}
use Rattle.drf_rows.specs.Step.{refusal_of, effect}
use Rattle.drf_rows.specs.declared.event.Event.{Event}
use Rattle.drf_rows.specs.declared.rows.Rows.{Rows}

-- the holding has no resources reserved for another role than its client's or one above it
abbrev pub IsForItsRole : Holding → Type 0
IsForItsRole h =
    (label : Text) (byte : ℕ) (bytes : Text) (p : Point)
    → is_within (parts_of (byte ∷ bytes)) h.client.role ≡ false
    → units h.bundle (label, byte ∷ bytes) p ≡ 0

-- if this is true of all holdings, it is true after an event
abbrev pub ReservedIsHeldByItsRole : Type 0
ReservedIsHeldByItsRole =
    (limits : LimitNumbers) (rows : Rows) (event : Event)
    → IsConsistent rows
    → IsGivenBundles event
    → refusal_of limits rows event ≡ None
    → AllByRecursion IsForItsRole (holdings_of rows)
    → AllByRecursion IsForItsRole (holdings_of (effect rows event))
