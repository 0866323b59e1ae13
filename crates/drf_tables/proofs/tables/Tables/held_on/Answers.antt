use Rattle.std.proofs.Common.{◌≡◌, Option, Some, true, is_some, sym, ap, ◌∙◌}
use Rattle.std.specs.Map.{lookup}
use Rattle.std.specs.Option.{option_copied, option_map}
use Rattle.drf_tables.proofs.registry.Entries.{is_some-copied}
use Rattle.drf_tables.proofs.tables.Names.{Text, same_text, rest, has_agent, agent_at, AgentRow, rows_in, agent_row, Stored, Agent}
use Rattle.drf_rows.specs.Cycle.{free_of}
use Rattle.drf_tables.proofs.tables.Fields.{agent_at-rows_in, has_agent-rows_in}
use Rattle.drf_tables.proofs.registry.Known.{known_in, left_free}
use Rattle.drf_tables.proofs.tables.Tables.held_on.Goals as goal

pub unwrap-found-requires : goal.unwrap-found-requires
unwrap-found-requires c =
    let t = c.self.inside in
    let name : Text = c.args.agent.now in
    let known : is_some (lookup (same_text name) t.agents.entries) ≡ true =
    sym (has_agent-rows_in t name) ∙ ap (λ (s : Stored). has_agent s.rows name) c.self.view_is ∙ c.requires in
    sym (is_some-copied c.get.result) ∙ ap is_some c.get.ensures.value ∙ known

pub free_left-requires : goal.free_left-requires
free_left-requires c =
    known_in c.self.inside c.args.agent.now c.unwrap-found.result.now c.self.invariant.kept.free
    (sym c.get.ensures.value ∙ ap option_copied c.unwrap-found.ensures)

pub returns : goal.returns
returns c = λ row at.
    let t = c.self.inside in
    let name : Text = c.args.agent.now in
    let a : Agent = c.unwrap-found.result.now in
    let found : lookup (same_text name) t.agents.entries ≡ Some a = sym c.get.ensures.value ∙ ap option_copied c.unwrap-found.ensures in
    let rows : ◌≡◌ {A = Option AgentRow} (Some (agent_row (name, a))) (Some row) =
    sym (agent_at-rows_in t name ∙ ap (option_map (λ (v : Agent). agent_row (name, v))) found)
    ∙ ap (λ (s : Stored). agent_at s.rows name) c.self.view_is ∙ at in
    let its : agent_row (name, a) ≡ row = cc in
    c.in_ok-held.ensures
    ∙ ap (rest a.total) (c.in_ok-free.ensures ∙ left_free t name a)
    ∙ (λ i. rest (its i).total (free_of (rows_in t) (its i)))
    ∙ ap (λ (s : Stored). rest row.total (free_of s.rows row)) c.self.view_is
