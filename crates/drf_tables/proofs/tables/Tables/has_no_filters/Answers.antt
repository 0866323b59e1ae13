use Rattle.std.proofs.Common.{◌==◌, ap, ◌∙◌}
use Rattle.drf_tables.proofs.tables.Names.{is_empty, Stored}
use Rattle.drf_tables.specs.Inside.{rows_of}
use Rattle.drf_tables.proofs.tables.Standing.{none_there}
use Rattle.drf_tables.proofs.tables.Tables.has_no_filters.Goals as goal

pub returns : goal.returns
unfolding rows_of
returns c =
    ap (λ n. n == 0) c.len.ensures ∙ none_there c.self.inside.filters ∙ ap (λ (s : Stored). is_empty s.rows.filters) c.self.view_is
