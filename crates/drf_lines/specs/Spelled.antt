-- The meaning of the line that is written for an event.
use Rattle.std.specs.Prelude.{◌≡◌, Some, Ok}
use Rattle.serde_json.specs.Read.{read}
use Rattle.drf_rows.specs.declared.event.Event.{Event}
use Rattle.drf_lines.specs.EventLine.{event_value, event_line}
use Rattle.drf_lines.specs.Meaning.{event_in}

-- the line is the JSON of the event's value, and this value means the event
pub record IsSpelled (event : Event) : Type 0 where
  pub value : read (event_line event) ≡ Some (event_value event)
  pub meaning : event_in (event_value event) ≡ Ok event
