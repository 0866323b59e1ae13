use Rattle.std.proofs.Common.{◌&&◌, List, map, ap, sym, ◌∙◌}
use Rattle.drf_rows.specs.Consistent.{are_distinct_roles}
use Rattle.drf_rows.specs.declared.rows.ClientRow.{ClientRow}
use Rattle.drf_state.proofs.Fits.{distinct_first}
use Rattle.drf_state.proofs.fitting.+are_distinct.Goals as goal

pub returns : goal.returns
returns t c =
    (λ i. c.are_apart.ensures i && c.are_distinct.ensures i)
    ∙ distinct_first c.in-Some.first.now c.in-Some.rest.now
    ∙ ap (λ (cs : List ClientRow). are_distinct_roles (map (λ (d : ClientRow). d.role) cs)) (sym c.in-Some.ensures.cases.0)
