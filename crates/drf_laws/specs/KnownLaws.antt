-- How clients and lists of nodes are identified, and when a total covers everything held on an agent.
use Rattle.std.specs.Prelude.{◌≡◌, true, false, not, List, Some}
use Rattle.std.specs.List.{list_any}
use Rattle.drf_role.specs.Text.{Text}
use Rattle.drf_role.specs.Path.{Path, same_path}
use Rattle.drf_bundle.specs.Bundle.{IsBundle, covers, rest}
use Rattle.drf_bundle.specs.declared.resource.Resource.{Resource}
use Rattle.drf_rows.specs.Client.{Client, path_of}
use Rattle.drf_rows.specs.Consistent.{IsConsistent}
use Rattle.drf_rows.specs.Cycle.{free_of}
use Rattle.drf_rows.specs.Holdings.{held_where, holdings_of, is_of}
use Rattle.drf_rows.specs.Members.{has_framework}
use Rattle.drf_rows.specs.Totals.{agent_at, is_below_held}
use Rattle.drf_rows.specs.declared.rows.AgentRow.{AgentRow}
use Rattle.drf_rows.specs.declared.rows.Rows.{Rows}
use Rattle.drf_row_laws.specs.Laws.{are_in_order}

-- clients with the same path are equal
abbrev pub PathsIdentifyClients : Type 0
PathsIdentifyClients = (c d : Client) → path_of c ≡ path_of d → c ≡ d

-- two lists of nodes in order are equal if they have the same members
abbrev pub MembersIdentifyNodes : Type 0
MembersIdentifyNodes =
    (ps qs : List Path)
    → are_in_order ps ≡ true
    → are_in_order qs ≡ true
    → ((node : Path) → list_any (same_path node) ps ≡ list_any (same_path node) qs)
    → ps ≡ qs

-- a client whose framework is not registered holds no scalar
abbrev pub StrangersHoldNothing : Type 0
StrangersHoldNothing =
    (rows : Rows) (client : Client) (label : Text)
    → IsConsistent rows
    → has_framework rows client.framework ≡ false
    → held_where (is_of (path_of client)) (holdings_of rows) label ≡ 0

-- a total does not cover everything held on an agent exactly if it does not cover everything that is not free there
abbrev pub HeldIsNotFree : Type 0
HeldIsNotFree =
    (rows : Rows) (name : Text) (a : AgentRow) (total : List Resource)
    → IsConsistent rows
    → agent_at rows name ≡ Some a
    → IsBundle total
    → not (covers total (rest a.total (free_of rows a))) ≡ is_below_held rows name total
