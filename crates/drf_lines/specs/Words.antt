-- The names and roles that the texts of a line mean.
use Rattle.std.specs.Prelude.{ℕ, List, [], ◌∷◌, Result, Ok, Err, if◌then◌else◌}
use Rattle.drf_role.specs.Parts.{parts_of}
use Rattle.drf_role.specs.Tests.{is_name, is_role}
use Rattle.drf_lines.specs.declared.fault.LineFault.{LineFault}
use Rattle.drf_lines.specs.declared.fault.LineFault.TheVariants.{BadText}
use Rattle.drf_lines.specs.Fault.{◌>>=◌}

-- the name of an agent, a framework or a task
unfoldable pub name_in : List ℕ → Result (List ℕ) LineFault
name_in text = if is_name text then Ok text else Err BadText

-- a role, as a list of its components
unfoldable pub role_in : List ℕ → Result (List (List ℕ)) LineFault
role_in text = if is_role text then Ok (parts_of text) else Err BadText

-- a list of roles, with duplicates
unfoldable pub roles_in : List (List ℕ) → Result (List (List (List ℕ))) LineFault
roles_in [] = Ok []
roles_in (text ∷ texts) = role_in text >>= λ role. roles_in texts >>= λ roles. Ok (role ∷ roles)
