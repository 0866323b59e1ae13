use Rattle.std.proofs.Common.{◌≡◌, ◌≤◌, ◌++◌, length}
use Rattle.std.specs.Prelude.{vec_capacity}
use Rattle.std.specs.Vec.Iter.{into_iter_items}
use Rattle.drf_master.specs.Scripts.{IsAsked, IsThrough}
use Rattle.drf_master.proofs.driving.run_script.Given as goal

-- the events so far were called and replied to, and there is room for all replies
abbrev pub invariant-loop-event : goal.invariant-loop-event
invariant-loop-event g l =
    (l.fn.script.items ≡ l.yielded ++ into_iter_items l.event-iterator)
    × (IsThrough (IsAsked (g.G.Gate.lets l.fn.gate) (g.G.Gate.sees l.fn.gate) l.fn.worker) l.fn.pass l.yielded l.replies.items l.pass
    × (length l.fn.script.items ≤ vec_capacity l.replies))
