use Rattle.std.proofs.Common.{◌≡◌, drop}
use Rattle.std.specs.List.{list_any}
use Rattle.drf_role.specs.Text.{same_text}
use Rattle.drf_rows.specs.declared.rows.AgentRow.{AgentRow}
use Rattle.drf_why.proofs.whom.pick_agent.Given as goal

abbrev pub invariant-loop-agent : goal.invariant-loop-agent
invariant-loop-agent l =
    list_any (λ (a : AgentRow). same_text a.name l.name) (drop l.agent-index l.agents) ≡ list_any (λ (a : AgentRow). same_text a.name l.name) l.agents
