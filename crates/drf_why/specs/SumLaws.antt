-- The counts of a summary add up to the agents. A client that is passed over would be granted something if it were tried first.
use Rattle.std.specs.Prelude.{◌≡◌, ◌≢◌, ℕ, ◌+◌, ◌^◌, ◌<◌, Bool, true, ◌||◌, List, [], Some, length, slice_get}
use Rattle.std.specs.List.{list_all}
use Rattle.drf_role.specs.Path.{Path}
use Rattle.drf_bundle.specs.declared.resource.Resource.{Resource}
use Rattle.drf_explain.specs.Each.{turn_on, turns_by_agent}
use Rattle.drf_rows.specs.Client.{Client, path_of}
use Rattle.drf_rows.specs.Cycle.{grant, turn_order}
use Rattle.drf_rows.specs.declared.rows.AgentRow.{AgentRow}
use Rattle.drf_rows.specs.declared.rows.Rows.{Rows}
use Rattle.drf_why.specs.Passers.{Turn, is_passed}
use Rattle.drf_why.specs.Pick.{bars_all, is_of_client}
use Rattle.drf_why.specs.Tally.{tally_of, tells_of}
use Rattle.drf_why.specs.declared.tally.Tally.{Tally}

-- no client is tried on the agent, or this client is
abbrev pub is_accounted : Path → Turn → Bool
is_accounted path turn = tells_of bars_all turn || tells_of (is_of_client path) turn

-- the sum of the counts
abbrev pub accounted : Tally → ℕ
accounted t =
    t.granted + t.held_back + t.over_limit + t.below_threshold + t.nothing_left + t.reserved + t.inactive + t.nothing_free

-- for a client that is tried wherever any client is, the counts add up to the number of agents
abbrev pub CountsAddUp : Type 0
CountsAddUp = (rows : Rows) (at : ℕ) (path : Path) → length rows.agents < 2 ^ 64
    → list_all (is_accounted path) (turns_by_agent rows at) ≡ true → accounted (tally_of (turns_by_agent rows at) path) ≡ length rows.agents

-- a client is counted as passed over exactly if some client passes over it
pub record HasItsPassers (t : Tally) : Type 0 where
  pub some : 0 < t.passed → t.passers ≢ []
  pub none : t.passed ≡ 0 → t.passers ≡ []

abbrev pub EachHasItsPassers : Type 0
EachHasItsPassers = (turns : List Turn) (path : Path) → HasItsPassers (tally_of turns path)

-- the cycle would grant a bundle to a client of the turn if it were tried first
pub record WouldBeGranted (rows : Rows) (agent : AgentRow) (path : Path) : Type 0 where
  pub place : ℕ
  pub client : Client
  pub stands : slice_get (turn_order rows) place ≡ Some client
  pub its : path_of client ≡ path
  pub bundle : List Resource
  pub granted : grant rows agent client ≡ Some bundle

-- a client that is passed over on an agent could have been granted something there
abbrev pub EachIsPassedRightly : Type 0
EachIsPassedRightly = (rows : Rows) (agent : AgentRow) (path : Path) → is_passed path (turn_on rows agent) ≡ true → WouldBeGranted rows agent path
