use Rattle.std.proofs.Common.{◌≡◌, ◌≤◌, List, Option, Some, None, map, find, refl, sym, ap, ◌∙◌, subst, IfSome}
use Rattle.std.specs.Option.{option_copied, option_map, option_map_or}
use Rattle.drf_tables.proofs.tables.Names.{Path, same_path, Text, same_text, reserved_in, AgentRow, used_by, agent_row, IsRaisedIf, Agent}
use Rattle.drf_tables.proofs.registry.Entries.{found-lookup}
use Rattle.drf_tables.proofs.limits.Recounted.{raised_nothing}
use Rattle.drf_tables.proofs.limits.recounting.release_agent.Goals as goal

pub returns-in_default-clause-raised : goal.returns-in_default-clause-raised
returns-in_default-clause-raised c =
    let name : Text = c.args.name.now in
    let entries : List (Text × Agent) = c.args.agents.now.entries in
    let none : find (λ a. same_text a.name name) (map agent_row entries) ≡ None =
    found-lookup agent_row (λ a. a.name) name entries (λ e. refl)
    ∙ ap (option_map (λ (v : Agent). agent_row (name, v))) (sym c.get.ensures.value ∙ ap option_copied c.in_default.is) in
    subst (λ (o : Option AgentRow). IsRaisedIf c.args.consumption.now c.args.consumption.now
    (λ test label. option_map_or (λ (a : AgentRow). reserved_in test label a.total) o 0)) (sym none) (raised_nothing c.args.consumption.now)

pub release_total-requires : goal.release_total-requires
release_total-requires c =
    let name : Text = c.args.name.now in
    let entries : List (Text × Agent) = c.args.agents.now.entries in
    let found : find (λ a. same_text a.name name) (map agent_row entries) ≡ Some (agent_row (name, c.in-Some.agent.now)) =
    found-lookup agent_row (λ a. a.name) name entries (λ e. refl)
    ∙ ap (option_map (λ (v : Agent). agent_row (name, v))) (sym c.get.ensures.value ∙ ap option_copied c.in-Some.is) in
    subst (λ (o : Option AgentRow). IfSome c.args.consumption.now (λ used. (role : Path) (label : Text)
    → option_map_or (λ (a : AgentRow). reserved_in (same_path role) label a.total) o 0 ≤ used_by used role label)) found c.requires

pub returns-clause-raised : goal.returns-clause-raised
returns-clause-raised c =
    let name : Text = c.args.name.now in
    let entries : List (Text × Agent) = c.args.agents.now.entries in
    let found : find (λ a. same_text a.name name) (map agent_row entries) ≡ Some (agent_row (name, c.in-Some.agent.now)) =
    found-lookup agent_row (λ a. a.name) name entries (λ e. refl)
    ∙ ap (option_map (λ (v : Agent). agent_row (name, v))) (sym c.get.ensures.value ∙ ap option_copied c.in-Some.is) in
    subst (λ (o : Option AgentRow). IsRaisedIf c.release_total.new.consumption c.args.consumption.now
    (λ test label. option_map_or (λ (a : AgentRow). reserved_in test label a.total) o 0)) (sym found) c.release_total.ensures.raised
