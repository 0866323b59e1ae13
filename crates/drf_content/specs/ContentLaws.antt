-- The theorems on a sorter that holds what the rows say, with its clients in any order.
use Rattle.std.specs.Prelude.{◌≡◌, ◌^◌, ◌<◌, ◌≤◌, false, List, [], length, map, find, not, Some}
use Rattle.drf_role.specs.Text.{Text, same_text}
use Rattle.drf_role.specs.Path.{Path, client_path}
use Rattle.drf_bundle.specs.Quantities.{without_zeros}
use Rattle.drf_bundle.specs.declared.quantities.Entry.{Entry}
use Rattle.drf_rows.specs.Client.{path_of}
use Rattle.drf_rows.specs.Consistent.{IsConsistent}
use Rattle.drf_rows.specs.Cycle.{turn_order}
use Rattle.drf_rows.specs.Held.{cluster_total}
use Rattle.drf_rows.specs.Report.{report_of}
use Rattle.drf_rows.specs.Roles.{framework_set}
use Rattle.drf_rows.specs.declared.report.NodeLine.{NodeLine}
use Rattle.drf_rows.specs.declared.report.Report.{Report}
use Rattle.drf_rows.specs.declared.rows.ClientRow.{ClientRow}
use Rattle.drf_rows.specs.declared.rows.FrameworkRow.{FrameworkRow}
use Rattle.drf_rows.specs.declared.rows.Rows.{Rows}
use Rattle.drf_saved.specs.Saved.{begun, with_row}
use Rattle.drf_saved.specs.declared.saved.Head.{Head}
use Rattle.drf_saved.specs.declared.saved.SavedRow.{SavedRow}
use Rattle.drf_saved.specs.declared.saved.SavedRow.TheVariants.{Framework}
use Rattle.drf_sorter.specs.Content.{Content, IsSame, IsSound, IsOrderOf, activated, charged, empty, has_client, with_change, with_client}
use Rattle.drf_sorter.specs.Lines.{AreLinesOf}
use Rattle.drf_content.specs.Content.{content_of}
use Rattle.drf_content.specs.Registering.{AreKnown, AreNew, paths_joined, paths_left, with_all, without_all}
use Rattle.drf_content.specs.Putting.{CanAllBeBack, IsNew, put_back, with_last, with_put}

-- clients hold no more than the total, and no number overflows
abbrev pub ContentIsSound : Type 0
ContentIsSound =
    (rows : Rows) (content : Content) → IsSame content (content_of rows)
    → IsConsistent rows → length rows.agents ≤ 4096 → rows.next_offer < 2 ^ 64
    → IsSound content

-- the sorter's order of the active clients is the order of a turn
abbrev pub OrderIsTheTurns : Type 0
OrderIsTheTurns =
    (rows : Rows) (content : Content) (paths : List Path) → IsSame content (content_of rows)
    → IsConsistent rows → IsOrderOf content paths
    → paths ≡ map path_of (turn_order rows)

-- the cluster's total and the sorter's lines are the report
abbrev pub LinesAreTheReports : Type 0
LinesAreTheReports =
    (rows : Rows) (content : Content) (total : List Entry) (lines : List NodeLine) → IsSame content (content_of rows)
    → IsConsistent rows
    → total ≡ without_zeros (cluster_total rows.agents)
    → AreLinesOf content lines
    → let report : Report = record { total = total; nodes = lines } in
    report ≡ report_of rows

-- ---- the roles of a framework change

-- the clients that are added are unknown, those that are removed are known, and then the content is what the rows say after the framework gets these
-- roles
pub record FollowsRoles (rows : Rows) (content : Content) (framework : Text) (roles : List Path) (clients : List ClientRow) : Type 0 where
  pub new : AreNew content (paths_joined framework roles clients)
  pub known : AreKnown (with_all content (paths_joined framework roles clients)) (paths_left framework roles clients)
  pub same : IsSame (without_all (with_all content (paths_joined framework roles clients)) (paths_left framework roles clients))
      (content_of (framework_set rows framework roles))

-- `FollowsRoles` holds for a framework of consistent rows and its clients
abbrev pub RolesAreFollowed : Type 0
RolesAreFollowed =
    (rows : Rows) (content : Content) (framework : Text) (roles : List Path) (f : FrameworkRow)
    → IsSame content (content_of rows)
    → IsConsistent rows
    → find (λ g. same_text g.name framework) rows.frameworks ≡ Some f
    → FollowsRoles rows content framework roles f.clients

-- ---- saved rows are added

-- before the first row is added, the content is empty
abbrev pub HeadIsEmpty : Type 0
HeadIsEmpty = (head : Head) → content_of (begun head) ≡ empty

-- adding a row changes the content by exactly the content of the row
abbrev pub ContentFollowsRow : Type 0
ContentFollowsRow =
    (rows : Rows) (row : SavedRow) → IsConsistent rows → IsNew rows row
    → content_of (with_row rows row) ≡ with_put (content_of rows) row

-- a saved client is restored by adding it, setting whether it is active, and charging its count
abbrev pub ClientIsPutBack : Type 0
ClientIsPutBack =
    (content : Content) (framework : Text) (c : ClientRow)
    → let path : Path = client_path c.role framework in
    let added : Content = with_client content path in
    has_client content path ≡ false
    → with_change (with_change added path (activated (not c.suppressed))) path (charged [] c.count)
    ≡ with_last content (put_back framework c)

-- the clients of a new framework can be added one by one
abbrev pub ClientsCanBeBack : Type 0
ClientsCanBeBack =
    (rows : Rows) (f : FrameworkRow) → IsConsistent rows → IsConsistent (with_row rows (Framework f))
    → length rows.agents ≤ 4096 → rows.next_offer < 2 ^ 64
    → IsNew rows (Framework f)
    → CanAllBeBack (content_of rows) f.name f.clients
