use Rattle.std.proofs.Common.{◌≡◌, ◌+◌, drop}
use Rattle.drf_bundle.specs.Bundle.{key_of, units}
use Rattle.drf_bundle.specs.Taken.{units_of_all}
use Rattle.drf_bundle.specs.Value.{Thousandths}
use Rattle.drf_rows.specs.Tasks.{uses}
use Rattle.drf_rows.proofs.tasks.is_enough.Given as goal

abbrev pub invariant-loop-task : goal.invariant-loop-task
invariant-loop-task l =
    units_of_all (uses l.tasks) (key_of l.resource) Thousandths + l.left
    ≡ units l.whole (key_of l.resource) Thousandths + units_of_all (uses (drop l.task-index l.tasks)) (key_of l.resource) Thousandths
