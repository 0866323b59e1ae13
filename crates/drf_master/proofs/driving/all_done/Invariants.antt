use Rattle.std.proofs.Common.{◌≡◌, ◌≤◌, ◌++◌, length}
use Rattle.std.specs.Prelude.{vec_capacity}
use Rattle.std.specs.Vec.Iter.{into_iter_items}
use Rattle.drf_master.specs.Scripts.{AreDone}
use Rattle.drf_master.proofs.driving.all_done.Given as goal

-- the results so far are of jobs that succeeded, and there is room for all
abbrev pub invariant-loop-result : goal.invariant-loop-result
invariant-loop-result l =
    (l.fn.results.items ≡ l.yielded ++ into_iter_items l.result-iterator)
    × (AreDone l.yielded l.passes.items l.replies.items
    × ((length l.fn.results.items ≤ vec_capacity l.passes) × (length l.fn.results.items ≤ vec_capacity l.replies)))
