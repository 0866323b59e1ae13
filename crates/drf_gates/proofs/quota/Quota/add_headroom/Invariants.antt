use Rattle.std.proofs.Common.{drop}
use Rattle.drf_gates.specs.quota.Allowance.{used_at}
use Rattle.drf_gates.proofs.quota.Room.{IsLessening}
use Rattle.drf_gates.proofs.quota.Quota.add_headroom.Given as goal

abbrev pub invariant-loop-entry : goal.invariant-loop-entry
invariant-loop-entry l =
    IsLessening (used_at l.self.used) l.limited l.limit l.initial.room l.room (drop l.entry-index l.entry-items)
