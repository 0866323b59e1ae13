-- Which clients pass over a client: those before it in the turn that are granted a part of what it would be granted if it were tried first.
use Rattle.std.specs.Prelude.{◌≡◌, ◌↔◌, Bool, true, false, List, ◌∷◌, ◌++◌, Some, None, Contains}
use Rattle.std.specs.List.{list_any}
use Rattle.drf_role.specs.Path.{Path, same_path}
use Rattle.drf_bundle.specs.declared.resource.Resource.{Resource}
use Rattle.drf_explain.specs.Each.{turn_on}
use Rattle.drf_explain.specs.EachLaws.{IsOpen}
use Rattle.drf_rows.specs.Client.{Client, path_of}
use Rattle.drf_rows.specs.Cycle.{all_tried, grant, turn_order}
use Rattle.drf_rows.specs.declared.rows.AgentRow.{AgentRow}
use Rattle.drf_rows.specs.declared.rows.Rows.{Rows}
use Rattle.drf_why.specs.Passers.{is_passed, passers_on, takes_of}

-- the client has this path
abbrev pub is_at : Path → Client → Bool
is_at path client = same_path (path_of client) path

-- In the turn of an agent on which something is free, the passer comes before the client, which is the first with its path. The passer is
-- granted a part of what the client would be granted if it were tried first, and the client is granted nothing when it is tried.
pub record IsPassedBy (rows : Rows) (agent : AgentRow) (path passer : Path) : Type 0 where
  pub opened : IsOpen rows agent
  pub before : List Client
  pub taker : Client
  pub between : List Client
  pub client : Client
  pub later : List Client
  pub order : turn_order rows ≡ (before ++ taker ∷ between) ++ client ∷ later
  pub its : path_of client ≡ path
  pub first : list_any (is_at path) (before ++ taker ∷ between) ≡ false
  pub another : path_of taker ≡ passer
  pub taken : List Resource
  pub takes : grant (all_tried rows agent before) agent taker ≡ Some taken
  pub bundle : List Resource
  pub due : grant rows agent client ≡ Some bundle
  pub of_it : takes_of taken bundle ≡ true
  pub nothing : grant (all_tried rows agent (before ++ taker ∷ between)) agent client ≡ None

-- exactly these clients pass over a client
abbrev pub EachPasserPasses : Type 0
EachPasserPasses =
    (rows : Rows) (agent : AgentRow) (path passer : Path)
    → Contains (passers_on path (turn_on rows agent)) passer ↔ IsPassedBy rows agent path passer

-- some client passes over it
pub record IsPassed (rows : Rows) (agent : AgentRow) (path : Path) : Type 0 where
  pub passer : Path
  pub passes : IsPassedBy rows agent path passer

-- a client is reported as passed over exactly if some client passes over it
abbrev pub EachIsPassedBySomebody : Type 0
EachIsPassedBySomebody =
    (rows : Rows) (agent : AgentRow) (path : Path) → (is_passed path (turn_on rows agent) ≡ true) ↔ IsPassed rows agent path
