use Rattle.std.proofs.Common.{◌≡◌, map, drop}
use Rattle.drf_lines.specs.FrameworkRows.{client_in}
use Rattle.drf_lines.specs.TaskTexts.{each_in}
use Rattle.drf_lines.specs.declared.clients.ClientText.{ClientText}
use Rattle.drf_lines.proofs.EachIn.{each_after}
use Rattle.drf_lines.proofs.clients.read_clients.Given as goal

abbrev pub invariant-loop-text : goal.invariant-loop-text
invariant-loop-text l =
    each_after client_in l.clients.items (map (λ (t : ClientText). (t.role.now, t.count, t.suppressed)) (drop l.text-index l.texts))
    ≡ each_in client_in (map (λ (t : ClientText). (t.role.now, t.count, t.suppressed)) l.texts)
