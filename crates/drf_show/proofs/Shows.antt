-- The text that is written for an allocator.
use Rattle.std.specs.Prelude.{◌≡◌, ℕ, List, [], ◌∷◌, ◌++◌, fold}
use Rattle.std.specs.List.{flat_map}
use Rattle.std.proofs.Common.{refl, sym, ◌∙◌, append_assoc, append-nil}
use Rattle.drf_rows.specs.Report.{report_of}
use Rattle.drf_rows.specs.Held.{standing_of}
use Rattle.drf_rows.specs.Step.{live_rows}
use Rattle.drf_rows.specs.declared.rows.Rows.{Rows}
use Rattle.drf_content.specs.Content.{content_of}
use Rattle.drf_show.specs.ShownText.{ShownTable, behind}
use Rattle.drf_show.specs.declared.form.Form.{Form}

-- the current state has the same report
pub report_live : (rows : Rows) → report_of rows ≡ report_of (live_rows rows)
unfolding report_of standing_of
report_live rows = refl

-- and the same content of a sorter
pub content_live : (rows : Rows) → content_of rows ≡ content_of (live_rows rows)
unfolding content_of
content_live rows = refl

-- appending tables one after the other appends their texts
behind_text : (form : Form) (text : List ℕ) (tables : List ShownTable)
    → fold (λ text table. text ++ behind form table) text tables ≡ text ++ flat_map (behind form) tables
behind_text form text [] = sym (append-nil text)
behind_text form text (t ∷ ts) =
    behind_text form (text ++ behind form t) ts ∙ append_assoc text (behind form t) (flat_map (behind form) ts)

pub all_behind : (form : Form) (start first : List ℕ) (tables : List ShownTable)
    → fold (λ text table. text ++ behind form table) (start ++ first) tables ≡ start ++ (first ++ flat_map (behind form) tables)
all_behind form start first tables =
    behind_text form (start ++ first) tables ∙ append_assoc start first (flat_map (behind form) tables)
