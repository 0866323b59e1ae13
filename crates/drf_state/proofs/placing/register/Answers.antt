use Rattle.std.proofs.Common.{◌≡◌, false, ◌∷◌, ◌++◌, [], sym, ap, ◌∙◌}
use Rattle.drf_role.specs.Text.{Text}
use Rattle.drf_rows.specs.Members.{with_activity, with_agent}
use Rattle.drf_rows.specs.declared.rows.Rows.{Rows}
use Rattle.drf_state.proofs.Placed.{inactive_last}
use Rattle.drf_state.proofs.placing.register.Goals as goal

pub returns-clause-rows : goal.returns-clause-rows
returns-clause-rows c =
    let rows : Rows = c.args.tables.now.rows in
    let agent = c.args.agent in
    let added : c.add_agent-2.new.self.rows ≡ record rows { agents = with_agent rows agent.name agent.total } =
    c.in_ok-add_agent-2.ensures.ok ∙ ap (λ (n : Text). record rows { agents = with_agent rows n agent.total }) c.in_ok-copy.ensures in
    c.set_active.ensures.rows
    ∙ ap (λ (r : Rows). record r { agents = with_activity r agent.name false }) added
    ∙ (λ i. record rows { agents = inactive_last rows.agents agent.name agent.total c.requires.new i })
    ∙ (λ i. record rows { agents = rows.agents ++ record agent { active = sym c.if-active.false i } ∷ [] })
