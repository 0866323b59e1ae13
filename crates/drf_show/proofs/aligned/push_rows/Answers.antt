use Rattle.std.proofs.Common.{ℕ, List, ◌∷◌, ◌++◌, [], flat_map, get_or, take, sym, ap, ◌∙◌}
use Rattle.std.proofs.lemmas.List.{flat_map_more, take_more}
use Rattle.drf_show.specs.Aligned.{Cells, row_text}
use Rattle.drf_show.proofs.aligned.push_rows.Goals as goal

pub loop-row-preserved : goal.loop-row-preserved
loop-row-preserved c =
    let write : Cells → List ℕ = row_text (λ q. get_or c.args.widths.now q 0) in
    let start = c.args.text.now.items in
    let rows = c.args.rows.now in
    let i = c.loop-row.row-index in
    let row = c.row-item.result in
    c.in_ok-push_row.ensures
    ∙ ap (λ (text : List ℕ). text ++ write row) c.loop-row.invariant
    ∙ flat_map_more write start (take i rows) row
    ∙ ap (λ (rs : List Cells). start ++ flat_map write rs)
    (ap (λ (r : Cells). take i rows ++ r ∷ []) c.row-item.is ∙ sym (take_more rows i row c.loop-row-test.true))
