-- The events of frameworks and of their clients, read and written like those of agents.
use Rattle.std.specs.Prelude.{ℕ, List, map, Result, Ok, codes}
use Rattle.serde_json.specs.Data.{Data, string, array, object, member, no_members}
use Rattle.serde_json.specs.View.{items_of}
use Rattle.drf_role.specs.Parts.{text_of}
use Rattle.drf_lines.specs.declared.fault.LineFault.{LineFault}
use Rattle.drf_lines.specs.Fault.{◌>>=◌}
use Rattle.drf_lines.specs.Object.{keys, text_at, texts_at}
use Rattle.drf_lines.specs.Words.{name_in, role_in, roles_in}

-- the framework and the roles of an event that has no other keys but `event`
unfoldable pub its_roles : Data → Result (List ℕ × List (List (List ℕ))) LineFault
its_roles value =
    keys 3 value >>= λ _. text_at (codes "framework") value >>= λ framework. texts_at (codes "roles") value >>= λ roles.
    name_in framework >>= λ framework. roles_in roles >>= λ roles. Ok (framework, roles)

-- a role as JSON
abbrev pub role_value : List (List ℕ) → Data
role_value role = string (text_of role)

-- the roles in their order, with duplicates
abbrev pub of_roles : List ℕ → List ℕ → List (List (List ℕ)) → Data
of_roles event framework roles = object (
    member (codes "event") (string event)
    (member (codes "framework") (string framework)
    (member (codes "roles") (array (items_of (map role_value roles)))
    no_members)))

-- the framework of an event that has no other key but `event`
unfoldable pub framework_of : Data → Result (List ℕ) LineFault
framework_of value = keys 2 value >>= λ _. text_at (codes "framework") value >>= λ framework. name_in framework

abbrev pub of_framework : List ℕ → List ℕ → Data
of_framework event framework =
    object (member (codes "event") (string event) (member (codes "framework") (string framework) no_members))

-- the framework and the role of an event that has no other keys but `event`
unfoldable pub its_client : Data → Result (List ℕ × List (List ℕ)) LineFault
its_client value =
    keys 3 value >>= λ _. text_at (codes "framework") value >>= λ framework. text_at (codes "role") value >>= λ role.
    name_in framework >>= λ framework. role_in role >>= λ role. Ok (framework, role)

abbrev pub of_client : List ℕ → List ℕ → List (List ℕ) → Data
of_client event framework role = object (
    member (codes "event") (string event)
    (member (codes "framework") (string framework)
    (member (codes "role") (role_value role)
    no_members)))
