use Rattle.std.proofs.Common.{◌≡◌, take, true, not}
use Rattle.std.specs.List.{list_all}
use Rattle.drf_rows.specs.Offers.{has_task}
use Rattle.drf_rows.specs.Tasks.{Start}
use Rattle.drf_core.proofs.refusal.are_new.Given as goal

abbrev pub invariant-loop-task : goal.invariant-loop-task
invariant-loop-task l = list_all (λ (s : Start). not (has_task l.tables.rows l.framework s.0)) (take l.task-index l.tasks) ≡ true
