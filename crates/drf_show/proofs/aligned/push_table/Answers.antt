use Rattle.std.proofs.Common.{◌≡◌, ℕ, List, ◌++◌, ap, ◌∙◌, get_or}
use Rattle.std.specs.List.{flat_map}
use Rattle.std.proofs.lemmas.Result.{on_ok_weaker}
use Rattle.drf_show.specs.Aligned.{row_text, width_at}
use Rattle.drf_show.proofs.aligned.push_table.Goals as goal

pub returns : goal.returns
returns c =
    let rows = c.args.rows.now in
    let widths : (λ (q : ℕ). get_or c.as_slice.result.now q 0) ≡ width_at rows =
    λ i q. (ap (λ (ws : List ℕ). get_or ws q 0) c.as_slice.ensures.value ∙ c.in_ok-widths.ensures q) i in
    on_ok_weaker c.push_rows.result
    (λ wrote. wrote ∙ ap (λ (width : ℕ → ℕ). c.args.text.now.items ++ flat_map (row_text width) rows) widths)
    c.push_rows.ensures
