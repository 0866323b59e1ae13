use Rattle.std.proofs.Common.{◌≡◌, List, None, Some, true, is_some, sym, ap, ◌∙◌}
use Rattle.std.specs.Map.{lookup}
use Rattle.std.specs.Option.{option_copied, option_map}
use Rattle.drf_tables.proofs.tables.Names.{Text, same_text, covers, Resource, agent_at, rows_in, agent_row, is_settled, Stored, Agent}
use Rattle.drf_rows.specs.Cycle.{free_of}
use Rattle.drf_rows.proofs.TaskLaws.{covers_from}
use Rattle.drf_tables.proofs.tables.Fields.{agent_at-rows_in}
use Rattle.drf_tables.proofs.registry.Known.{free_found}
use Rattle.drf_tables.proofs.tables.PutBack.{usable_free}
use Rattle.drf_tables.proofs.tables.Tables.is_usable.Goals as goal

pub returns-in_default : goal.returns-in_default
returns-in_default c =
    let t = c.self.inside in
    let name : Text = c.args.agent.now in
    let none : lookup (same_text name) t.agents.entries ≡ None = sym c.in_default.ensures.value in
    usable_free c.args.self.now.rows name c.args.role.now c.args.bundle.now None
    (sym (ap (option_map (free_of (rows_in t))) (agent_at-rows_in t name ∙ ap (option_map (λ (a : Agent). agent_row (name, a))) none))
    ∙ ap (λ (s : Stored). option_map (free_of s.rows) (agent_at s.rows name)) c.self.view_is)

pub unwrap-requires : goal.unwrap-requires
unwrap-requires c =
    let t = c.self.inside in
    let settled : is_settled t.agents.entries ≡ true = ap (λ (s : Stored). s.settled) c.self.view_is ∙ c.requires in
    c.as_ref.ensures.variant
    ∙ ap is_some (free_found (rows_in t) c.args.agent.now t.agents.entries c.in-Some.found.now settled c.self.invariant.kept.free
    (sym c.in-Some.ensures.value))

pub returns : goal.returns
returns c =
    let t = c.self.inside in
    let name : Text = c.args.agent.now in
    let a : Agent = c.in-Some.found.now in
    let part = c.in_ok-part.part in
    let bundle = c.args.bundle.now in
    let found : lookup (same_text name) t.agents.entries ≡ Some a = sym c.in-Some.ensures.value in
    let settled : is_settled t.agents.entries ≡ true = ap (λ (s : Stored). s.settled) c.self.view_is ∙ c.requires in
    let there : a.free ≡ Some c.unwrap.result.now = sym c.as_ref.ensures.value ∙ ap option_copied c.unwrap.ensures in
    let known : Some c.bundle-free.result.now ≡ option_map (free_of c.args.self.now.rows) (agent_at c.args.self.now.rows name) =
    ap (λ (free : List Resource). Some free) c.bundle-free.ensures
    ∙ sym there
    ∙ free_found (rows_in t) name t.agents.entries a settled c.self.invariant.kept.free found
    ∙ sym (ap (option_map (free_of (rows_in t))) (agent_at-rows_in t name ∙ ap (option_map (λ (a : Agent). agent_row (name, a))) found))
    ∙ ap (λ (s : Stored). option_map (free_of s.rows) (agent_at s.rows name)) c.self.view_is in
    covers_from c.covers.result part bundle c.covers.ensures.given.0 c.covers.ensures.given.1 c.covers.ensures.covers
    ∙ ap (λ (p : List Resource). covers p bundle) c.in_ok-part.ensures
    ∙ usable_free c.args.self.now.rows name c.args.role.now bundle (Some c.bundle-free.result.now) known
