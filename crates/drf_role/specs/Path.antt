-- The paths of clients and nodes, as lists of parts.
use Rattle.std.specs.Prelude.{◌≡◌, ◌≢◌, ◌-◌, Bool, List, [], ◌∷◌, ◌++◌, length, slice_index_or, take, codes}
use Rattle.std.specs.List.{starts_with}
use Rattle.std.specs.Cmp.Lexicographic.{pointwise}
use Rattle.drf_role.specs.Text.{Text, same_text}
use Rattle.drf_role.specs.Name.{IsName}
use Rattle.drf_role.specs.Parts.{BeginsWith}
use Rattle.drf_role.specs.Role.{IsRole}

-- a path or a role is the list of its parts
abbrev pub Path : Type 0
Path = List Text

-- the two paths have the same parts
abbrev pub same_path : Path → Path → Bool
same_path = pointwise same_text

-- the node is a prefix of the path
abbrev pub begins_with : Path → Path → Bool
begins_with path node = starts_with same_text path node

-- the path of a client: the parts of its role, then `.`, then its framework
abbrev pub client_path : Path → Text → Path
client_path role framework = role ++ codes "." ∷ framework ∷ []

-- a valid role and a valid name of a framework, from which a client path is made
pub record IsNamed (role : Path) (framework : Text) : Type 0 where
  pub right_role : IsRole role
  pub right_name : IsName framework

-- the path of some framework in some role
pub record IsClientPath (path : Path) : Type 0 where
  pub role : Path
  pub framework : Text
  pub right_role : IsRole role
  pub right_name : IsName framework
  pub joined : path ≡ client_path role framework

-- a non-empty prefix of some client path
pub record IsNodePath (node : Path) : Type 0 where
  pub path : Path
  pub right_path : IsClientPath path
  pub not_empty : node ≢ []
  pub begins : BeginsWith path node

-- the role of a client path: all but the last two parts
abbrev pub role_part : Path → Path
role_part path = take (length path - 2) path

-- the framework of a client path: the last part
abbrev pub framework_part : Path → Text
framework_part path = slice_index_or path (length path - 1) []
