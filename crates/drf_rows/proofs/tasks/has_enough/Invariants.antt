use Rattle.std.proofs.Common.{◌≡◌, take, true}
use Rattle.std.specs.List.{list_all}
use Rattle.drf_rows.specs.TaskLaws.{is_enough}
use Rattle.drf_rows.specs.Tasks.{uses}
use Rattle.drf_rows.proofs.tasks.has_enough.Given as goal

abbrev pub invariant-loop-resource : goal.invariant-loop-resource
invariant-loop-resource l = list_all (is_enough l.whole (uses l.tasks)) (take l.resource-index l.resources) ≡ true
