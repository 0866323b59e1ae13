use Rattle.std.proofs.Common.{◌≡◌, ◌++◌, drop}
use Rattle.std.specs.List.{flat_map}
use Rattle.drf_explain.specs.ExplainedText.{finding_text}
use Rattle.drf_explain.proofs.line.write_explained_lines.Given as goal

abbrev pub invariant-loop-finding : goal.invariant-loop-finding
invariant-loop-finding l =
    l.text.items ++ flat_map finding_text (drop l.finding-index l.findings) ≡ flat_map finding_text l.findings
