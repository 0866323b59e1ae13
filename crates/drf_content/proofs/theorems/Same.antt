-- A sorter that holds what the rows say, with its clients in any order: what it says about the rows, and that adding and removing clients keeps it
-- so.
use Rattle.std.specs.Prelude.{List, [], ◌∷◌}
use Rattle.std.proofs.Common.{sym, ◌∙◌}
use Rattle.drf_role.specs.Path.{Path}
use Rattle.drf_rows.specs.Report.{nodes_of}
use Rattle.drf_rows.specs.declared.rows.Rows.{Rows}
use Rattle.drf_sorter.specs.Content.{Content, HasNodes, IsSame, with_client, without_client}
use Rattle.drf_sorter.proofs.theorems.SameLaws.{AreLinesOf-same, HasNodes-same, IsOrderOf-same, IsSame-sym, IsSame-with_client, IsSame-without_client, IsSound-same, has_client-same}
use Rattle.drf_content.specs.Content.{content_of}
use Rattle.drf_content.specs.ContentLaws.{ContentIsSound, OrderIsTheTurns, LinesAreTheReports}
use Rattle.drf_content.specs.Registering.{AreKnown, AreNew, with_all, without_all}
use Rattle.drf_content.proofs.theorems.Order.{IsOrderOf-turn_order}
use Rattle.drf_content.proofs.theorems.Report.{HasNodes-content_of, report_of-lines}
use Rattle.drf_content.proofs.theorems.Sound.{IsSound-content_of}

-- ---- the theorems on the order and the lines, with clients in any order

pub sound_of_rows : ContentIsSound
sound_of_rows rows content same consistent few_agents few_offers =
    IsSound-same (content_of rows) content (IsSame-sym content (content_of rows) same) (IsSound-content_of rows consistent few_agents few_offers)

pub order_of_rows : OrderIsTheTurns
order_of_rows rows content paths same consistent order =
    IsOrderOf-turn_order rows paths consistent (IsOrderOf-same content (content_of rows) same paths order)

pub lines_of_rows : LinesAreTheReports
lines_of_rows rows content total lines same consistent total_is are =
    report_of-lines rows total lines consistent total_is (AreLinesOf-same content (content_of rows) same lines are)

pub nodes_of_rows : (rows : Rows) (content : Content) → IsSame content (content_of rows) → HasNodes content (nodes_of rows)
nodes_of_rows rows content same =
    HasNodes-same (content_of rows) content (IsSame-sym content (content_of rows) same) (nodes_of rows) (HasNodes-content_of rows)

-- ---- clients are added and removed

pub IsSame-with_all : (a b : Content) (paths : List Path) → IsSame a b → IsSame (with_all a paths) (with_all b paths)
IsSame-with_all a b [] same = same
IsSame-with_all a b (path ∷ paths) same = IsSame-with_all (with_client a path) (with_client b path) paths (IsSame-with_client a b same path)

pub AreNew-same : (a b : Content) (paths : List Path) → IsSame a b → AreNew a paths → AreNew b paths
AreNew-same a b [] same new = tt
AreNew-same a b (path ∷ paths) same new = (
  sym (has_client-same a b same path) ∙ new.0,
  AreNew-same (with_client a path) (with_client b path) paths (IsSame-with_client a b same path) new.1,
)

pub IsSame-without_all : (a b : Content) (paths : List Path) → IsSame a b → IsSame (without_all a paths) (without_all b paths)
IsSame-without_all a b [] same = same
IsSame-without_all a b (path ∷ paths) same =
    IsSame-without_all (without_client a path) (without_client b path) paths (IsSame-without_client a b same path)

pub AreKnown-same : (a b : Content) (paths : List Path) → IsSame a b → AreKnown a paths → AreKnown b paths
AreKnown-same a b [] same known = tt
AreKnown-same a b (path ∷ paths) same known = (
  sym (has_client-same a b same path) ∙ known.0,
  AreKnown-same (without_client a path) (without_client b path) paths (IsSame-without_client a b same path) known.1,
)
