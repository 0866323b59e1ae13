-- Statements that each client is served: an order that is picked client by client has each of them.
use Rattle.std.specs.Prelude.{◌≤◌, List, length, map, IsTrue}
use Rattle.std.specs.List.{AllByRecursion, IsDistinct}
use Rattle.std.specs.List.Sorted.{IsPermutation}
use Rattle.drf_role.specs.Path.{Path, IsClientPath, same_path}
use Rattle.drf_rows.specs.Client.{Client, path_of}
use Rattle.drf_rows.specs.Share.{Standing, is_serving_order}
use Rattle.drf_rows.specs.Cycle.{serving_order, turn_order}
use Rattle.drf_rows.specs.Held.{active_clients}
use Rattle.drf_rows.specs.Consistent.{IsConsistent}
use Rattle.drf_rows.specs.declared.rows.Rows.{Rows}

-- different clients with client paths
pub record AreClients (clients : List Client) : Type 0 where
  pub each : AllByRecursion (λ c. IsClientPath (path_of c)) clients
  pub distinct : IsDistinct same_path (map path_of clients)

-- every node has a weight
abbrev pub Weighs : Standing → Type 0
Weighs s = (node : Path) → 1 ≤ s.weight node

-- the order has each client exactly once
abbrev pub EachIsServedOnce : Type 0
EachIsServedOnce =
    (s : Standing) (clients : List Client)
    → Weighs s
    → AreClients clients
    → IsPermutation clients (serving_order s (length clients) clients)

-- each client comes before all later ones
abbrev pub EachBeforeAllLater : Type 0
EachBeforeAllLater =
    (s : Standing) (clients : List Client)
    → Weighs s
    → AreClients clients
    → IsTrue (is_serving_order s (map path_of (serving_order s (length clients) clients)))

-- an agent's turn tries each active client exactly once
abbrev pub EachHasItsTurn : Type 0
EachHasItsTurn =
    (rows : Rows) → IsConsistent rows → IsPermutation (active_clients rows) (turn_order rows)
