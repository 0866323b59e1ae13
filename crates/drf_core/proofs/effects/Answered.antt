-- Events whose reply is `Done`.
use Rattle.std.proofs.Common.{◌≡◌, ℕ, false, refl}
use Rattle.drf_rows.specs.Step.{answer}
use Rattle.drf_rows.specs.declared.event.Event.{Event}
use Rattle.drf_rows.specs.declared.event.Event.TheVariants.{Cycle, Report}
use Rattle.drf_rows.specs.declared.reply.Reply.TheVariants.{Done}
use Rattle.drf_rows.specs.declared.rows.Rows.{Rows}
use Rattle.drf_core.specs.events.Answered.{has_answer}

pub done : (before after : Rows) (event : Event) → ((at : ℕ) → event ≡ Cycle at → ⊥) → (event ≡ Report → ⊥)
    → (has_answer event ≡ false) × (Done ≡ answer before after event)
done before after (Cycle at) no_cycle no_report = absurd (no_cycle at refl)
done before after Report no_cycle no_report = absurd (no_report refl)
done before after event no_cycle no_report = (refl, refl)
