-- What callers see after a call depends only on what they saw before it.
use Rattle.std.proofs.Common.{◌≡◌, sym, ◌∙◌}
use Rattle.drf_rows.specs.LimitNumbers.{LimitNumbers}
use Rattle.drf_rows.specs.Step.{reply_to}
use Rattle.drf_row_laws.proofs.LiveLaws.{reply_to-live, rows_after-live}
use Rattle.drf_rows.specs.declared.event.Event.{Event}
use Rattle.drf_core.specs.Machine.{Engine, live, opened, after, IsOpened, IsAfter}

pub live-opened : (limits : LimitNumbers) (new : Engine) → IsOpened limits new → live new ≡ opened limits
unfolding live
live-opened limits new is = λ i. record { limits = is.limits i; rows = is.rows i }

pub live-after : (old new : Engine) (event : Event) → IsAfter old new event → live new ≡ after (live old) event
unfolding live after
live-after old new event is =
    let rows = is.rows ∙ sym (rows_after-live old.limits old.rows event) in
    λ i. record { limits = is.limits i; rows = rows i }

pub reply_to-seen : (engine : Engine) (event : Event) → reply_to engine.limits engine.rows event ≡ reply_to (live engine).limits (live engine).rows event
unfolding live
reply_to-seen engine event = sym (reply_to-live engine.limits engine.rows event)
