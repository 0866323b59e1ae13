-- The cells of a row, one after the other: the text so far, followed by the remaining cells, is the text of all cells.
use Rattle.std.specs.Prelude.{◌≡◌, ℕ, ◌+◌, ◌<◌, List, ◌∷◌, ◌++◌, drop, get_or, length, map}
use Rattle.std.proofs.Common.{sym, ap, ◌∙◌, append_assoc}
use Rattle.std.proofs.lemmas.List.{at_drop_more}
use Rattle.drf_role.specs.Text.{Text}
use Rattle.drf_show.specs.Aligned.{cells_text, padded}

module _ {X : Type 0} (text_in : X → Text) (width : ℕ → ℕ) (cells : List X) where
  abbrev left : ℕ → List ℕ
  left i = cells_text width i (map text_in (drop i cells))

  -- a cell that is not the last
  pub cell_more : (old new whole : List ℕ) (i : ℕ) (cell : X) → i < length cells → i + 1 < length cells → cell ≡ get_or cells i cell
      → old ++ left i ≡ whole → new ≡ old ++ padded (width i) (text_in cell) → new ++ left (i + 1) ≡ whole
  cell_more old new whole i cell inside another is so_far added =
      let rest : List X = drop (i + 1 + 1) cells in
      let next : X = get_or cells (i + 1) cell in
      let here : left (i + 1) ≡ cells_text width (i + 1) (map text_in (next ∷ rest)) =
      at_drop_more (λ (cs : List X). cells_text width (i + 1) (map text_in cs)) cells (i + 1) cell another in
      let whole_left : left i ≡ padded (width i) (text_in cell) ++ cells_text width (i + 1) (map text_in (next ∷ rest)) =
      at_drop_more (λ (cs : List X). cells_text width i (map text_in cs)) cells i cell inside
      ∙ at_drop_more (λ (cs : List X). cells_text width i (map text_in (get_or cells i cell ∷ cs))) cells (i + 1) cell another
      ∙ ap (λ (c : X). padded (width i) (text_in c) ++ cells_text width (i + 1) (map text_in (next ∷ rest))) (sym is) in
      (λ j. added j ++ here j)
      ∙ append_assoc old (padded (width i) (text_in cell)) (cells_text width (i + 1) (map text_in (next ∷ rest)))
      ∙ ap (λ (t : List ℕ). old ++ t) (sym whole_left)
      ∙ so_far
