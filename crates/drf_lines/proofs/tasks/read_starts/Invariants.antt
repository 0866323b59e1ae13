use Rattle.std.proofs.Common.{◌≡◌, map, drop}
use Rattle.drf_lines.specs.TaskTexts.{each_in, start_in}
use Rattle.drf_lines.specs.declared.tasks.TaskText.{TaskText}
use Rattle.drf_lines.proofs.EachIn.{each_after}
use Rattle.drf_lines.proofs.tasks.read_starts.Given as goal

abbrev pub invariant-loop-text : goal.invariant-loop-text
invariant-loop-text l =
    each_after start_in l.starts.items (map (λ (t : TaskText). (t.name.now, t.used.now)) (drop l.text-index l.texts))
    ≡ each_in start_in (map (λ (t : TaskText). (t.name.now, t.used.now)) l.texts)
