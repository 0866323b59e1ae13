use Rattle.std.proofs.Common.{sym, ap, ◌∙◌}
use Rattle.drf_rows.specs.Weights.{has_weight}
use Rattle.drf_tables.specs.Stored.{Stored}
use Rattle.drf_tables.proofs.tables.Weighed.{has_weight-rows_in}
use Rattle.drf_tables.proofs.tables.Tables.has_weight.Goals as goal

pub returns : goal.returns
returns c =
    c.contains_key.ensures
    ∙ sym (has_weight-rows_in c.self.inside c.args.role.now)
    ∙ ap (λ (t : Stored). has_weight t.rows c.args.role.now) c.self.view_is
