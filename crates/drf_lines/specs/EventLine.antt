-- The line of an event, without its line feed: compact JSON with its keys in byte order (RFC 8259).
use Rattle.std.specs.Prelude.{ℕ, List, codes}
use Rattle.serde_json.specs.Data.{Data, number, unsigned, string, object, member, no_members}
use Rattle.serde_json.specs.Written.{compact_text}
use Rattle.drf_rows.specs.declared.event.Event.{Event}
use Rattle.drf_rows.specs.declared.event.Event.TheVariants.{AddAgent, RemoveAgent, ActivateAgent, DeactivateAgent, SetAgent, AddFramework, SetFramework, RemoveFramework, Accept, Decline, Rescind, Finish, Suppress, Revive, Reserve, Unreserve, SetWeight, SetLimit, Cycle, Report}
use Rattle.drf_lines.specs.AgentEvents.{of_total, of_agent}
use Rattle.drf_lines.specs.FrameworkEvents.{of_roles, of_framework, of_client}
use Rattle.drf_lines.specs.OfferEvents.{accept_value, decline_value, rescind_value, finish_value}
use Rattle.drf_lines.specs.ReservationEvents.{of_reservation}
use Rattle.drf_lines.specs.WeightEvents.{weight_value}
use Rattle.drf_lines.specs.LimitEvents.{limit_value}

abbrev pub cycle_value : ℕ → Data
cycle_value at = object (
    member (codes "at") (number (unsigned at)) (member (codes "event") (string (codes "cycle")) no_members))

abbrev pub report_request : Data
report_request = object (member (codes "event") (string (codes "report")) no_members)

-- an event as JSON
abbrev pub event_value : Event → Data
event_value (AddAgent agent total) = of_total (codes "add_agent") agent total
event_value (RemoveAgent agent) = of_agent (codes "remove_agent") agent
event_value (ActivateAgent agent) = of_agent (codes "activate_agent") agent
event_value (DeactivateAgent agent) = of_agent (codes "deactivate_agent") agent
event_value (SetAgent agent total) = of_total (codes "set_agent") agent total
event_value (AddFramework framework roles) = of_roles (codes "add_framework") framework roles
event_value (SetFramework framework roles) = of_roles (codes "set_framework") framework roles
event_value (RemoveFramework framework) = of_framework (codes "remove_framework") framework
event_value (Accept a) = accept_value a
event_value (Decline d) = decline_value d
event_value (Rescind offer) = rescind_value offer
event_value (Finish framework task) = finish_value framework task
event_value (Suppress framework role) = of_client (codes "suppress") framework role
event_value (Revive framework role) = of_client (codes "revive") framework role
event_value (Reserve agent role resources) = of_reservation (codes "reserve") agent role resources
event_value (Unreserve agent role resources) = of_reservation (codes "unreserve") agent role resources
event_value (SetWeight role weight) = weight_value role weight
event_value (SetLimit role limit) = limit_value role limit
event_value (Cycle at) = cycle_value at
event_value Report = report_request

-- the line of an event
unfoldable pub event_line : Event → List ℕ
event_line event = compact_text (event_value event)
