use Rattle.std.proofs.Common.{◌≡◌, ◌+◌, ◌++◌, map, length}
use Rattle.drf_rows.specs.Offers.{AreNew}
use Rattle.drf_holdings.specs.Listed.{task_row, AreTasksKept}
use Rattle.drf_holdings.proofs.tasks.renumbered.Given as goal

abbrev pub invariant-loop-task : goal.invariant-loop-task
invariant-loop-task l = record {
  rows : map task_row l.copy ++ map task_row l.task-iterator ≡ map task_row l.tasks;
  new : AreNew (map task_row l.copy) (map task_row l.task-iterator);
  kept : AreTasksKept l.index l.copy l.serial;
  number : l.serial ≡ length l.copy;
  total : l.serial + length l.task-iterator ≡ length l.tasks;
}
