use Rattle.std.proofs.Common.{◌≡◌, ◌≤◌, ◌++◌, length}
use Rattle.std.specs.Prelude.{vec_capacity}
use Rattle.std.specs.Vec.Iter.{into_iter_items}
use Rattle.drf_drive.specs.Scripts.{AreWhole}
use Rattle.drf_drive.proofs.script.all_whole.Given as goal

-- all lines of the files so far are events, and there is room for all files
abbrev pub invariant-loop-script : goal.invariant-loop-script
invariant-loop-script l =
    (l.fn.scripts.items ≡ l.yielded ++ into_iter_items l.script-iterator)
    × (AreWhole l.yielded l.events.items × (length l.fn.scripts.items ≤ vec_capacity l.events))
