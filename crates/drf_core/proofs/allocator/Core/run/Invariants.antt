use Rattle.std.specs.List.{list_any}
use Rattle.std.specs.Prelude.{vec_capacity}
use Rattle.std.proofs.Common.{◌≡◌, ◌≤◌, ◌++◌, false, take}
use Rattle.drf_rows.specs.Step.{live_rows, replies_to}
use Rattle.drf_sorter.specs.Work.{Spends}
use Rattle.drf_core.specs.Machine.{IsAfterAll, IsSafe}
use Rattle.drf_core.specs.Working.{allowance_of_all, may_make_keys}
use Rattle.drf_core.proofs.allocator.Core.run.Given as goal

-- the events before this one were applied, and their replies appended
abbrev pub invariant-loop-event : goal.invariant-loop-event
invariant-loop-event g l = record {
  after : IsAfterAll l.initial.self l.self (take l.event-index l.events);
  safe : IsSafe (live_rows l.self.rows);
  spends : Spends g.S.Sorter.COUNTED l.initial.self.work l.self.work
      (allowance_of_all l.initial.self.limits l.initial.self.rows (take l.event-index l.events));
  reported : l.replies.items ≡ l.initial.replies.items ++ replies_to l.initial.self.limits l.initial.self.rows (take l.event-index l.events);
  capacity : vec_capacity l.initial.replies ≤ vec_capacity l.replies;
  keys : list_any may_make_keys (take l.event-index l.events) ≡ false → l.self.work.made ≡ l.initial.self.work.made;
}
