-- Events whose reply is more than `Done`.
use Rattle.std.specs.Prelude.{Bool, true, false}
use Rattle.drf_rows.specs.declared.event.Event.{Event}
use Rattle.drf_rows.specs.declared.event.Event.TheVariants.{Cycle, Report}

-- the reply is more than `Done`
abbrev pub has_answer : Event → Bool
has_answer (Cycle at) = true
has_answer Report = true
has_answer other = false
