use Rattle.std.proofs.Common.{◌≡◌, List, None, Some, sym, ap, ◌∙◌}
use Rattle.std.specs.Map.{lookup}
use Rattle.std.specs.Option.{option_map}
use Rattle.drf_tables.proofs.tables.Names.{Text, same_text, Resource, agent_at, rows_in, agent_row, Stored, Agent}
use Rattle.drf_rows.specs.Cycle.{free_of}
use Rattle.drf_tables.proofs.tables.Fields.{agent_at-rows_in}
use Rattle.drf_tables.proofs.registry.Known.{known_in, left_free}
use Rattle.drf_tables.proofs.tables.Tables.free_on.Goals as goal

pub free_left-requires : goal.free_left-requires
free_left-requires c = known_in c.self.inside c.args.agent.now c.in-Some.found.now c.self.invariant.kept.free (sym c.in-Some.ensures.value)

pub returns-in_ok-free_left-in-Some : goal.returns-in_ok-free_left-in-Some
returns-in_ok-free_left-in-Some c =
    let t = c.self.inside in
    let name : Text = c.args.agent.now in
    let a : Agent = c.in-Some.found.now in
    let found : lookup (same_text name) t.agents.entries ≡ Some a = sym c.in-Some.ensures.value in
    ap (λ (free : List Resource). Some free) (c.in_ok-free_left-in-Some.ensures ∙ left_free t name a)
    ∙ sym (ap (option_map (free_of (rows_in t))) (agent_at-rows_in t name ∙ ap (option_map (λ (a : Agent). agent_row (name, a))) found))
    ∙ ap (λ (s : Stored). option_map (free_of s.rows) (agent_at s.rows name)) c.self.view_is

pub returns-in-None : goal.returns-in-None
returns-in-None c =
    let t = c.self.inside in
    let name : Text = c.args.agent.now in
    let none : lookup (same_text name) t.agents.entries ≡ None = sym c.in-None.ensures.value in
    sym (ap (option_map (free_of (rows_in t))) (agent_at-rows_in t name ∙ ap (option_map (λ (a : Agent). agent_row (name, a))) none))
    ∙ ap (λ (s : Stored). option_map (free_of s.rows) (agent_at s.rows name)) c.self.view_is
