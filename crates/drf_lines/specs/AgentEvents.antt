-- The events of agents. They are read in steps: the number of keys, the values under the keys, and then the texts. They
-- are written with their keys in byte order.
use Rattle.std.specs.Prelude.{ℕ, List, Result, Ok, codes}
use Rattle.serde_json.specs.Data.{Data, string, object, member, no_members}
use Rattle.drf_bundle.specs.declared.resource.Resource.{Resource}
use Rattle.drf_text.specs.Written.{bundle_text}
use Rattle.drf_lines.specs.declared.fault.LineFault.{LineFault}
use Rattle.drf_lines.specs.Fault.{◌>>=◌}
use Rattle.drf_lines.specs.Object.{keys, text_at}
use Rattle.drf_lines.specs.Words.{name_in}
use Rattle.drf_lines.specs.Resources.{bundle_in}

-- the agent and the total of an event that has no other keys but `event`
unfoldable pub its_total : Data → Result (List ℕ × List Resource) LineFault
its_total value =
    keys 3 value >>= λ _. text_at (codes "agent") value >>= λ agent. text_at (codes "total") value >>= λ total.
    name_in agent >>= λ agent. bundle_in total >>= λ total. Ok (agent, total)

abbrev pub of_total : List ℕ → List ℕ → List Resource → Data
of_total event agent total = object (
    member (codes "agent") (string agent)
    (member (codes "event") (string event)
    (member (codes "total") (string (bundle_text total))
    no_members)))

-- the agent of an event that has no other key but `event`
unfoldable pub agent_of : Data → Result (List ℕ) LineFault
agent_of value = keys 2 value >>= λ _. text_at (codes "agent") value >>= λ agent. name_in agent

abbrev pub of_agent : List ℕ → List ℕ → Data
of_agent event agent =
    object (member (codes "agent") (string agent) (member (codes "event") (string event) no_members))
