use Rattle.std.proofs.Common.{◌≡◌, map, drop}
use Rattle.drf_lines.specs.FrameworkRows.{client_text}
use Rattle.drf_lines.specs.LineValue.{line_view}
use Rattle.drf_lines.specs.TaskTexts.{each_in}
use Rattle.drf_lines.specs.declared.clients.ClientText.{ClientText}
use Rattle.drf_lines.proofs.EachIn.{each_after}
use Rattle.drf_lines.proofs.clients.client_texts.Given as goal

abbrev pub invariant-loop-value : goal.invariant-loop-value
invariant-loop-value l =
    each_after client_text (map (λ (t : ClientText). (t.role.now, t.count, t.suppressed)) l.clients.items) (map line_view (drop l.value-index l.values))
    ≡ each_in client_text (map line_view l.values)
