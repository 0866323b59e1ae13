use Rattle.std.proofs.Common.{◌≡◌, ◌+◌, Bool, drop}
use Rattle.drf_role.specs.Text.{Text}
use Rattle.drf_role.specs.Path.{Path}
use Rattle.drf_rows.specs.Quota.{reserved_for}
use Rattle.drf_gates.specs.quota.Allowance.{used_where}
use Rattle.drf_show.proofs.consumption.consume_agents.Given as goal

-- what is counted, and what remains, is all
abbrev pub invariant-loop-agent : goal.invariant-loop-agent
invariant-loop-agent l =
    (test : Path → Bool) (label : Text) → used_where test l.consumption label + reserved_for test (drop l.agent-index l.agents) label
    ≡ used_where test l.initial.consumption label + reserved_for test l.agents label
