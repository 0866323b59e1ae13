use Rattle.std.proofs.Common.{Some, not, sym, ap, ◌∙◌}
use Rattle.drf_rows.proofs.TaskLaws.{covers_from}
use Rattle.drf_core.proofs.refusing.Late.{not_free}
use Rattle.drf_core.proofs.refusal.late.is_not_free.Goals as goal

pub returns-in-Some : goal.returns-in-Some
returns-in-Some c =
    let free = c.in-Some.free in
    let resources = c.args.resources.now in
    ap not (covers_from c.covers.result free resources c.covers.ensures.given.0 c.covers.ensures.given.1 c.covers.ensures.covers)
    ∙ not_free c.args.tables.now.rows c.args.agent.now resources (Some free) (sym c.in-Some.is ∙ c.in_ok-free.ensures)
