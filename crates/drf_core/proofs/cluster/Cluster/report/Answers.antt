use Rattle.std.proofs.Common.{◌∙◌, ap}
use Rattle.drf_bundle.specs.Quantities.{without_zeros}
use Rattle.drf_rows.specs.declared.rows.Rows.{Rows}
use Rattle.drf_content.proofs.theorems.Same.{lines_of_rows, sound_of_rows}
use Rattle.drf_core.proofs.cluster.Cluster.report.Goals as goal

pub lines-requires : goal.lines-requires
lines-requires g c =
    let rows : Rows = c.self.inside.tables.rows in
    sound_of_rows rows (g.S.Sorter.content c.self.inside.sorter) c.self.invariant
    (rw (← c.self.view_is) at c.requires.consistent) (rw (← c.self.view_is) at c.requires.few_agents) (rw (← c.self.view_is) at c.requires.few_offers)

pub returns : goal.returns
returns g c =
    let rows : Rows = c.self.inside.tables.rows in
    let lines = c.in_ok-lines.field-0.items in
    rw (← c.self.view_is) (
    ap (λ nodes. record { total = c.remove_zeros.new.self; nodes = nodes }) c.in_ok-from_vec.ensures.rows
    ∙ lines_of_rows rows (g.S.Sorter.content c.self.inside.sorter) c.remove_zeros.new.self lines c.self.invariant
    (rw (← c.self.view_is) at c.requires.consistent)
    (c.remove_zeros.ensures.value ∙ ap without_zeros (c.in_ok-total.ensures ∙ c.total.ensures)) c.in_ok-lines.ensures
    )
