use Rattle.std.proofs.Common.{◌≡◌, map, take}
use Rattle.drf_show.specs.Shown.{agent_line}
use Rattle.drf_show.proofs.agents.agent_lines.Given as goal

abbrev pub invariant-loop-place : goal.invariant-loop-place
invariant-loop-place g l = l.lines.items ≡ map (agent_line l.rows) (take l.place l.agents)
