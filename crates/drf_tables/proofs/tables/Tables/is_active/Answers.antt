use Rattle.std.proofs.Common.{◌≡◌, Some, slice_get, ap, ◌∙◌, map}
use Rattle.drf_tables.specs.Inside.{rows_of, agent_row}
use Rattle.drf_tables.specs.Stored.{Stored}
use Rattle.drf_tables.proofs.registry.Entries.{value_at}
use Rattle.drf_tables.proofs.tables.Fields.{active_at}
use Rattle.drf_tables.proofs.tables.Tables.is_active.Goals as goal

pub returns : goal.returns
unfolding rows_of
returns c = λ a at.
    let row : slice_get (map agent_row c.self.inside.agents.entries) c.args.place ≡ Some a =
    ap (λ (t : Stored). slice_get t.rows.agents c.args.place) c.self.view_is ∙ at in
    active_at c.self.inside.agents.entries c.args.place c.at.result.now.1 a
    (value_at c.self.inside.agents.entries c.args.place c.at.result.now c.at.ensures) row
