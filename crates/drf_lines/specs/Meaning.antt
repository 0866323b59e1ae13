-- The meaning of a line: an event, or the error for which it is not an event. A line is read in steps: its JSON value,
-- the text under `event`, the keys of that event with their values, and then the texts. The first step that fails
-- decides the error.
use Rattle.std.specs.Prelude.{ℕ, List, [], ◌∷◌, length, nat_lt, Result, Ok, Err, if◌then◌else◌, codes}
use Rattle.std.specs.Option.{ok_or}
use Rattle.std.specs.Str.{is_utf8}
use Rattle.serde_json.specs.Data.{Data}
use Rattle.serde_json.specs.Read.{read}
use Rattle.drf_role.specs.Text.{same_text}
use Rattle.drf_rows.specs.declared.event.Event.{Event}
use Rattle.drf_rows.specs.declared.event.Event.TheVariants.{AddAgent, RemoveAgent, ActivateAgent, DeactivateAgent, SetAgent, AddFramework, SetFramework, RemoveFramework, Suppress, Revive, Reserve, Unreserve, SetWeight, SetLimit, Cycle, Report}
use Rattle.drf_lines.specs.declared.fault.LineFault.{LineFault}
use Rattle.drf_lines.specs.declared.fault.LineFault.TheVariants.{LineTooLong, NotJson, BadShape}
use Rattle.drf_lines.specs.Fault.{◌>>=◌}
use Rattle.drf_lines.specs.Object.{keys, text_at, number_at}
use Rattle.drf_lines.specs.AgentEvents.{its_total, agent_of}
use Rattle.drf_lines.specs.FrameworkEvents.{its_roles, framework_of, its_client}
use Rattle.drf_lines.specs.OfferEvents.{accept_event, decline_event, rescind_event, finish_event}
use Rattle.drf_lines.specs.ReservationEvents.{its_reservation}
use Rattle.drf_lines.specs.WeightEvents.{its_weight}
use Rattle.drf_lines.specs.LimitEvents.{its_limit}

-- the greatest length of a line, in bytes and without its line feed
abbrev pub longest_line : ℕ
longest_line = 65536

-- the JSON value of a line, if the line is UTF-8 and valid JSON
unfoldable pub value_in : List ℕ → Result Data LineFault
value_in line = if is_utf8 line then ok_or (read line) NotJson else Err NotJson

-- a cycle event
unfoldable pub cycle_event : Data → Result Event LineFault
cycle_event value = keys 2 value >>= λ _. number_at (codes "at") value >>= λ at. Ok (Cycle at)

-- a report event
unfoldable pub report_event : Data → Result Event LineFault
report_event value = keys 1 value >>= λ _. Ok Report

-- an event made from the parts that were read
abbrev pub made : {A B : Type 0} → (A → B) → (Data → Result A LineFault) → Data → Result B LineFault
made make read value = read value >>= λ found. Ok (make found)

-- the events by their names
abbrev pub events : List (List ℕ × (Data → Result Event LineFault))
events =
    (codes "add_agent", made (λ a. AddAgent a.0 a.1) its_total)
    ∷ (codes "remove_agent", made RemoveAgent agent_of)
    ∷ (codes "activate_agent", made ActivateAgent agent_of)
    ∷ (codes "deactivate_agent", made DeactivateAgent agent_of)
    ∷ (codes "set_agent", made (λ a. SetAgent a.0 a.1) its_total)
    ∷ (codes "add_framework", made (λ f. AddFramework f.0 f.1) its_roles)
    ∷ (codes "set_framework", made (λ f. SetFramework f.0 f.1) its_roles)
    ∷ (codes "remove_framework", made RemoveFramework framework_of)
    ∷ (codes "suppress", made (λ c. Suppress c.0 c.1) its_client)
    ∷ (codes "revive", made (λ c. Revive c.0 c.1) its_client)
    ∷ (codes "accept", accept_event)
    ∷ (codes "decline", decline_event)
    ∷ (codes "rescind", rescind_event)
    ∷ (codes "finish", finish_event)
    ∷ (codes "reserve", made (λ r. Reserve r.0 r.1 r.2) its_reservation)
    ∷ (codes "unreserve", made (λ r. Unreserve r.0 r.1 r.2) its_reservation)
    ∷ (codes "set_weight", made (λ w. SetWeight w.0 w.1) its_weight)
    ∷ (codes "set_limit", made (λ l. SetLimit l.0 l.1) its_limit)
    ∷ (codes "cycle", cycle_event)
    ∷ (codes "report", report_event)
    ∷ []

-- the meaning of a value whose kind has this name
abbrev pub meant_among : {A : Type 0} → List (List ℕ × (Data → Result A LineFault)) → List ℕ → Data → Result A LineFault
meant_among [] name value = Err BadShape
meant_among (kind ∷ kinds) name value = if same_text name kind.0 then kind.1 value else meant_among kinds name value

unfoldable pub event_in : Data → Result Event LineFault
event_in value = text_at (codes "event") value >>= λ name. meant_among events name value

-- the meaning of a line
unfoldable pub meaning_of : List ℕ → Result Event LineFault
meaning_of line = if nat_lt longest_line (length line) then Err LineTooLong else (value_in line >>= event_in)
