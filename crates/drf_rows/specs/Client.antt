-- Clients: frameworks in their roles.
use Rattle.drf_role.specs.Text.{Text}
use Rattle.drf_role.specs.Path.{Path, client_path}

-- a client is a framework in one of its roles
pub record Client : Type 0 where
  pub role : Path
  pub framework : Text

-- the path of the client in the tree of roles, such as `eng/web/./f2`
abbrev pub path_of : Client → Path
path_of client = client_path client.role client.framework
