use Rattle.std.proofs.Common.{sym, ap, ◌∙◌}
use Rattle.drf_tables.proofs.tables.Names.{has_framework, Stored}
use Rattle.drf_tables.proofs.tables.Fields.{has_framework-rows_in}
use Rattle.drf_tables.proofs.tables.Tables.has_framework.Goals as goal

pub returns : goal.returns
returns c =
    c.has.ensures
    ∙ sym (has_framework-rows_in c.self.inside c.args.name.now)
    ∙ ap (λ (t : Stored). has_framework t.rows c.args.name.now) c.self.view_is
