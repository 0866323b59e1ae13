use Rattle.std.proofs.Common.{◌≡◌, Some, slice_get, sym, ap, ◌∙◌, true, map}
use Rattle.std.specs.Option.{option_copied}
use Rattle.drf_rows.specs.Cycle.{free_of}
use Rattle.drf_tables.specs.Inside.{rows_of, rows_in, agent_row, is_settled}
use Rattle.drf_tables.specs.Stored.{Stored}
use Rattle.drf_tables.proofs.registry.Entries.{value_at}
use Rattle.drf_tables.proofs.tables.Fields.{free_of-at}
use Rattle.drf_tables.proofs.registry.Known.{settled_at}
use Rattle.drf_tables.proofs.tables.Tables.free.Goals as goal

pub unwrap-requires : goal.unwrap-requires
unwrap-requires c =
    let entries = c.self.inside.agents.entries in
    let settled : is_settled entries ≡ true = ap (λ (s : Stored). s.settled) c.self.view_is ∙ c.requires.settled in
    c.as_ref.ensures.variant ∙ settled_at entries c.args.place c.at.result.now.1 settled (value_at entries c.args.place c.at.result.now c.at.ensures)

pub returns : goal.returns
unfolding rows_of
returns c = λ a at.
    let t = c.self.inside in
    let row : slice_get (map agent_row t.agents.entries) c.args.place ≡ Some a =
    ap (λ (s : Stored). slice_get s.rows.agents c.args.place) c.self.view_is ∙ at in
    let there : c.at.result.now.1.free ≡ Some c.unwrap.result.now =
    sym c.as_ref.ensures.value ∙ ap option_copied c.unwrap.ensures in
    c.bundle.ensures
    ∙ free_of-at (rows_in t) t.agents.entries c.args.place c.at.result.now.1 a c.unwrap.result.now
    c.self.invariant.kept.free (value_at t.agents.entries c.args.place c.at.result.now c.at.ensures) row there
    ∙ ap (λ (s : Stored). free_of s.rows a) c.self.view_is
