-- The events `reserve` and `unreserve`, read and written like those of agents.
use Rattle.std.specs.Prelude.{ℕ, List, Result, Ok, codes}
use Rattle.serde_json.specs.Data.{Data, string, object, member, no_members}
use Rattle.drf_role.specs.Parts.{text_of}
use Rattle.drf_role.specs.Path.{Path}
use Rattle.drf_bundle.specs.declared.resource.Resource.{Resource}
use Rattle.drf_text.specs.Written.{bundle_text}
use Rattle.drf_lines.specs.declared.fault.LineFault.{LineFault}
use Rattle.drf_lines.specs.Fault.{◌>>=◌}
use Rattle.drf_lines.specs.Object.{keys, text_at}
use Rattle.drf_lines.specs.Words.{name_in, role_in}
use Rattle.drf_lines.specs.Resources.{bundle_in}

-- the agent, the role and the resources of an event that has no other keys but `event`
unfoldable pub its_reservation : Data → Result (List ℕ × Path × List Resource) LineFault
its_reservation value =
    keys 4 value >>= λ _. text_at (codes "agent") value >>= λ agent. text_at (codes "role") value >>= λ role.
    text_at (codes "resources") value >>= λ resources.
    name_in agent >>= λ agent. role_in role >>= λ role. bundle_in resources >>= λ resources. Ok (agent, role, resources)

abbrev pub of_reservation : List ℕ → List ℕ → Path → List Resource → Data
of_reservation event agent role resources = object (
    member (codes "agent") (string agent)
    (member (codes "event") (string event)
    (member (codes "resources") (string (bundle_text resources))
    (member (codes "role") (string (text_of role))
    no_members))))
