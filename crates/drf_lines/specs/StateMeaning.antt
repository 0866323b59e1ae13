-- The meaning of a line of a state: the head, a row or the end, or the error for which it is none of these. It is read
-- like the line of an event, by the text under `row`, and can have any length.
use Rattle.std.specs.Prelude.{ℕ, List, [], ◌∷◌, Result, Ok, codes}
use Rattle.serde_json.specs.Data.{Data}
use Rattle.drf_saved.specs.declared.saved.Head.{Head}
use Rattle.drf_saved.specs.declared.saved.SavedRow.TheVariants.{Agent, Framework, Weight, Limit, Offer, Task, Filter}
use Rattle.drf_saved.specs.declared.saved.StateLine.{StateLine}
use Rattle.drf_saved.specs.declared.saved.StateLine.TheVariants as line
use Rattle.drf_lines.specs.declared.fault.LineFault.{LineFault}
use Rattle.drf_lines.specs.Fault.{◌>>=◌}
use Rattle.drf_lines.specs.Object.{keys, text_at, number_at}
use Rattle.drf_lines.specs.Meaning.{value_in, made, meant_among}
use Rattle.drf_lines.specs.AgentRows.{agent_row}
use Rattle.drf_lines.specs.FrameworkRows.{framework_row}
use Rattle.drf_lines.specs.HeldRows.{offer_row, task_row, filter_row}
use Rattle.drf_lines.specs.LimitEvents.{its_limit}
use Rattle.drf_lines.specs.WeightEvents.{its_weight}

-- the head of a state
unfoldable pub head_in : Data → Result Head LineFault
head_in value =
    keys 4 value >>= λ _. number_at (codes "clock") value >>= λ clock. number_at (codes "events") value >>= λ events.
    number_at (codes "next_offer") value >>= λ next_offer.
    Ok (record { clock = clock; next_offer = next_offer; events = events })

-- the end of a state; its number of lines and its digest must be there, but are ignored
unfoldable pub end_in : Data → Result StateLine LineFault
end_in value =
    keys 3 value >>= λ _. number_at (codes "rows") value >>= λ _. text_at (codes "sha256") value >>= λ _. Ok line.End

-- the kinds of lines by their names
abbrev pub state_lines : List (List ℕ × (Data → Result StateLine LineFault))
state_lines =
    (codes "state", made line.Head head_in)
    ∷ (codes "agent", made (λ a. line.Row (Agent a)) agent_row)
    ∷ (codes "framework", made (λ f. line.Row (Framework f)) framework_row)
    ∷ (codes "weight", made (λ w. line.Row (Weight (record { role = w.0; weight = w.1 }))) its_weight)
    ∷ (codes "limit", made (λ l. line.Row (Limit (record { role = l.0; limit = l.1 }))) its_limit)
    ∷ (codes "offer", made (λ o. line.Row (Offer o)) offer_row)
    ∷ (codes "task", made (λ t. line.Row (Task t)) task_row)
    ∷ (codes "filter", made (λ f. line.Row (Filter f)) filter_row)
    ∷ (codes "end", end_in)
    ∷ []

unfoldable pub state_line_in : Data → Result StateLine LineFault
state_line_in value = text_at (codes "row") value >>= λ name. meant_among state_lines name value

-- the meaning of a line
unfoldable pub state_line_meaning : List ℕ → Result StateLine LineFault
state_line_meaning line = value_in line >>= state_line_in
