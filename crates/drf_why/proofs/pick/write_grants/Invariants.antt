use Rattle.std.proofs.Common.{◌≡◌, ◌++◌, drop}
use Rattle.std.specs.Prelude.{filter}
use Rattle.drf_explain.specs.ExplainedText.{explained_text}
use Rattle.drf_why.specs.Pick.{is_grant}
use Rattle.drf_why.proofs.pick.write_grants.Given as goal

abbrev pub invariant-loop-finding : goal.invariant-loop-finding
invariant-loop-finding l =
    l.text.items ++ explained_text (filter is_grant (drop l.finding-index l.findings)) ≡ l.fn.text.items ++ explained_text (filter is_grant l.findings)
