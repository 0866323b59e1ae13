use Rattle.std.proofs.Common.{take}
use Rattle.std.specs.Prelude.{All}
use Rattle.drf_role.specs.Name.{IsLabel}
use Rattle.drf_kinds.proofs.items.recall.Given as goal

abbrev pub invariant-loop-label : goal.invariant-loop-label
invariant-loop-label l = All IsLabel (take l.label-index l.labels)
