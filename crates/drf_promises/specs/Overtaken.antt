-- The promise to a client that waits while others are made offers: no other client overtakes it.
use Rattle.std.specs.Prelude.{◌≡◌, true, false, List}
use Rattle.drf_role.specs.Path.{Path, begins_with}
use Rattle.drf_role.specs.Text.{Text}
use Rattle.drf_rows.specs.Client.{Client, path_of}
use Rattle.drf_rows.specs.Consistent.{IsConsistent}
use Rattle.drf_rows.specs.Held.{count_of, held_by, standing_of}
use Rattle.drf_rows.specs.LimitNumbers.{LimitNumbers}
use Rattle.drf_rows.specs.Share.{stands_before}
use Rattle.drf_rows.specs.Step.{rows_after_all}
use Rattle.drf_rows.specs.declared.event.Event.{Event}
use Rattle.drf_rows.specs.declared.rows.Rows.{Rows}
use Rattle.drf_laws.specs.RunLaws.{AreGiven}
use Rattle.drf_promises.specs.Apart.{AllKeepAll}

-- between the two states, the clients of the node received no offer, and they hold the same
pub record GotNothing (rows after : Rows) (node : Path) : Type 0 where
  pub held : (label : Text) → held_by after node label ≡ held_by rows node label
  pub count : count_of after node ≡ count_of rows node

-- In a run of cycles, reports, accepts of whole offers and activations of agents, a client that is served before
-- another stays before it as long as it gets nothing, and the nodes that only it is under get nothing: roles that the
-- other is not in, and the `.` node of its role if the other is in a different role.
abbrev pub NobodyOvertakes : Type 0
NobodyOvertakes =
    (limits : LimitNumbers) (rows : Rows) (events : List Event) (first second : Client)
    → IsConsistent rows
    → AreGiven events
    → AllKeepAll limits rows events
    → let after : Rows = rows_after_all limits rows events in
    ((node : Path) → begins_with (path_of first) node ≡ true → begins_with (path_of second) node ≡ false → GotNothing rows after node)
    → stands_before (standing_of rows) (path_of first) (path_of second) ≡ true
    → stands_before (standing_of after) (path_of first) (path_of second) ≡ true
