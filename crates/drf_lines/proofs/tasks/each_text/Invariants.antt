use Rattle.std.proofs.Common.{◌≡◌, map, drop}
use Rattle.drf_lines.specs.LineValue.{line_view}
use Rattle.drf_lines.specs.TaskTexts.{each_in, task_text}
use Rattle.drf_lines.specs.declared.tasks.TaskText.{TaskText}
use Rattle.drf_lines.proofs.EachIn.{each_after}
use Rattle.drf_lines.proofs.tasks.each_text.Given as goal

abbrev pub invariant-loop-value : goal.invariant-loop-value
invariant-loop-value l =
    each_after task_text (map (λ (t : TaskText). (t.name.now, t.used.now)) l.texts.items) (map line_view (drop l.value-index l.values))
    ≡ each_in task_text (map line_view l.values)
