use Rattle.std.proofs.Common.{◌≡◌, Bool, Some, true, ap, sym, ◌∙◌}
use Rattle.std.specs.Cmp.Lexicographic.{bytes_decides}
use Rattle.drf_role.specs.Text.{Text, same_text}
use Rattle.drf_rows.specs.declared.rows.AgentRow.{AgentRow}
use Rattle.drf_why.specs.declared.pick.Pick.TheVariants as pick
use Rattle.drf_why.proofs.Found.{any_found, any_over, any_passed, none_if, picked_if}
use Rattle.drf_why.proofs.whom.pick_agent.Goals as goal

abbrev named : Text → AgentRow → Bool
named name a = same_text a.name name

pub loop-agent-preserved : goal.loop-agent-preserved
loop-agent-preserved c =
    any_passed (named c.args.name.now) c.args.agents.now c.loop-agent.agent-index c.loop-agent.invariant c.agent-item.result
    c.loop-agent-test.true c.agent-item.is (sym c.is_named.ensures ∙ c.if-is_named.false)

pub returns-then-is_named : goal.returns-then-is_named
returns-then-is_named c =
    let name = c.args.name.now in
    let same : same_text c.agent-item.result.name name ≡ true = sym c.is_named.ensures ∙ c.if-is_named.true in
    let copied = c.in_ok-name.ensures ∙ (bytes_decides c.agent-item.result.name name).0 same in
    let found = any_found (named name) c.args.agents.now c.loop-agent.agent-index c.loop-agent.invariant c.agent-item.result
    c.loop-agent-test.true c.agent-item.is same in
    ap (λ (n : Text). Some (pick.Agent n)) copied ∙ picked_if (pick.Agent name) _ found

pub returns : goal.returns
returns c =
    none_if (pick.Agent c.args.name.now) _
    (any_over (named c.args.name.now) c.args.agents.now c.loop-agent.agent-index c.loop-agent.invariant c.loop-agent-test.false)
