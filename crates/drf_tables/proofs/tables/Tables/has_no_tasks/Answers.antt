use Rattle.std.proofs.Common.{◌≡◌, ◌==◌, ◌&&◌, ap, ◌∙◌}
use Rattle.drf_tables.proofs.tables.Names.{is_empty, Stored}
use Rattle.drf_tables.specs.Inside.{rows_of}
use Rattle.drf_tables.proofs.tables.Standing.{none_there}
use Rattle.drf_tables.proofs.tables.Tables.has_no_tasks.Goals as goal

pub returns : goal.returns
unfolding rows_of
returns c =
    let here : (c.task_count.result == 0) ≡ is_empty c.args.self.now.rows.tasks =
    ap (λ n. n == 0) c.task_count.ensures ∙ none_there c.self.inside.holdings.tasks
    ∙ ap (λ (s : Stored). is_empty s.rows.tasks) c.self.view_is in
    λ i. here i && c.has_no_filters.ensures i
