use Rattle.std.proofs.Common.{◌≡◌, take, false}
use Rattle.std.specs.List.{list_any}
use Rattle.drf_rows.specs.Offers.{is_empty}
use Rattle.drf_rows.specs.Tasks.{Start}
use Rattle.drf_rows.proofs.tasks.has_empty.Given as goal

abbrev pub invariant-loop-task : goal.invariant-loop-task
invariant-loop-task l = list_any (λ (s : Start). is_empty s.1) (take l.task-index l.tasks) ≡ false
