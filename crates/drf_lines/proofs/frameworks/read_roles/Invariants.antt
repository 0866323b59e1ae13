use Rattle.std.proofs.Common.{◌≡◌, map, drop}
use Rattle.drf_lines.specs.TaskTexts.{each_in}
use Rattle.drf_lines.specs.Words.{role_in}
use Rattle.drf_lines.proofs.EachIn.{each_after}
use Rattle.drf_lines.proofs.frameworks.read_roles.Given as goal

abbrev pub invariant-loop-text : goal.invariant-loop-text
invariant-loop-text l =
    each_after role_in l.roles.items (map (λ text. text.now) (drop l.text-index l.texts))
    ≡ each_in role_in (map (λ text. text.now) l.texts)
