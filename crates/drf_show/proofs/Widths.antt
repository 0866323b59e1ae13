-- The widths of columns, and the text of a row.
use Rattle.std.specs.Prelude.{◌≡◌, ◌≢◌, ℕ, ◌+◌, ◌-◌, ◌<◌, max, List, [], ◌∷◌, ◌++◌, get_or, length, map, set, take}
use Rattle.std.specs.Prelude.{◌⊎◌}
use Rattle.std.proofs.Common.{sym, ap, subst, ◌∙◌, arith, inl, inr, length-append}
use Rattle.std.proofs.Math.Nat.{max-zero, zero-max}
use Rattle.std.proofs.lemmas.Bool.{cases_order}
use Rattle.std.proofs.lemmas.List.{get_or-append_right, get_or_append_left, get_or-set_other, get_or-set_same, get_or_past, length-map, length-set, length-take-le, map-append, take_more}
use Rattle.std.proofs.lemmas.List.Sums.{fold-append}
use Rattle.drf_role.specs.Text.{Text}
use Rattle.drf_show.specs.Aligned.{Cells, IsWidenedAt, width_at}

-- ---- widths

-- one more row
pub width_more : (rows : List Cells) (i : ℕ) (row : Cells) (column : ℕ) → i < length rows → row ≡ get_or rows i row
    → width_at (take (i + 1) rows) column ≡ max (width_at (take i rows) column) (length (get_or row column []))
width_more rows i row column inside is =
    ap (λ (rs : List Cells). width_at rs column) (take_more rows i row inside)
    ∙ fold-append (λ width (row : Cells). max width (length (get_or row column []))) 0 (take i rows) (get_or rows i row ∷ [])
    ∙ ap (λ (r : Cells). max (width_at (take i rows) column) (length (get_or r column []))) (sym is)

-- each column is as wide as before, or as wide as its cell in these cells of the row if that is wider
abbrev pub AreWidened : List ℕ → List ℕ → Cells → Type 0
AreWidened old new cells = (q : ℕ) → get_or new q 0 ≡ max (get_or old q 0) (length (get_or cells q []))

pub widened_there : (old : List ℕ) (column width : ℕ) → column < length old
    → IsWidenedAt old (set old column (max (get_or old column 0) width)) column width
widened_there old column width inside = record {
  there = get_or-set_same old column (max (get_or old column 0) width) 0 inside;
  others = λ q other. get_or-set_other old column q (max (get_or old column 0) width) 0 other;
  reached = omega (arith, length-set old column (max (get_or old column 0) width), inside);
}

pub widened_last : (old : List ℕ) (column width : ℕ) → length old ≡ column
    → IsWidenedAt old (old ++ width ∷ []) column width
widened_last old column width past = record {
  there =
      get_or-append_right old (width ∷ []) column column 0 past (omega arith)
      ∙ ap (λ n. get_or (width ∷ []) n 0) nothing
      ∙ sym (zero-max width)
      ∙ ap (λ n. max n width) (sym (get_or_past old column 0 (omega (arith, past))));
  others = λ q other. beside q other (cases_order q column);
  reached = omega (arith, length-append old (width ∷ []), past);
}
  where
    nothing : column - column ≡ 0
    nothing = omega arith

    beside : (q : ℕ) → q ≢ column → (q ≡ column) ⊎ ((q < column) ⊎ (column < q)) → get_or (old ++ width ∷ []) q 0 ≡ get_or old q 0
    beside q other (inl same) = absurd (other same)
    beside q other (inr (inl before)) = get_or_append_left old (width ∷ []) 0 q (omega (arith, before, past))
    beside q other (inr (inr behind)) =
        get_or_past (old ++ width ∷ []) q 0 (omega (arith, behind, past, length-append old (width ∷ [])))
        ∙ sym (get_or_past old q 0 (omega (arith, behind, past)))

pub widened_more : (old now new : List ℕ) (cells : Cells) (column : ℕ) (cell : Text) → length cells ≡ column
    → AreWidened old now cells → IsWidenedAt now new column (length cell) → AreWidened old new (cells ++ cell ∷ [])
widened_more old now new cells column cell prefix so_far widened = λ q. by q (cases_order q column)
  where
    by : (q : ℕ) → (q ≡ column) ⊎ ((q < column) ⊎ (column < q))
        → get_or new q 0 ≡ max (get_or old q 0) (length (get_or (cells ++ cell ∷ []) q []))
    by q (inl same) =
        ap (λ n. get_or new n 0) same
        ∙ widened.there
        ∙ ap (λ n. max n (length cell)) (so_far column ∙ ap (λ (t : Text). max (get_or old column 0) (length t)) (get_or_past cells column [] (omega (arith, prefix))) ∙ max-zero (get_or old column 0))
        ∙ (λ i. max (get_or old (same' i) 0) (length (there i)))
      where
        same' : column ≡ q
        same' = sym same

        nothing : q - column ≡ 0
        nothing = omega (arith, same)

        there : cell ≡ get_or (cells ++ cell ∷ []) q []
        there = sym (get_or-append_right cells (cell ∷ []) column q [] prefix (omega (arith, same)) ∙ ap (λ n. get_or (cell ∷ []) n []) nothing)
    by q (inr (inl before)) =
        widened.others q (λ same. absurd (omega (arith, same, before)))
        ∙ so_far q
        ∙ ap (λ (t : Text). max (get_or old q 0) (length t)) (sym (get_or_append_left cells (cell ∷ []) [] q (omega (arith, before, prefix))))
    by q (inr (inr behind)) =
        widened.others q (λ same. absurd (omega (arith, same, behind)))
        ∙ so_far q
        ∙ ap (λ (t : Text). max (get_or old q 0) (length t))
        (get_or_past cells q [] (omega (arith, behind, prefix)) ∙ sym (get_or_past (cells ++ cell ∷ []) q [] (omega (arith, behind, prefix, length-append cells (cell ∷ [])))))

-- one more text of a list
module _ {X : Type 0} (text_in : X → Text) (cells : List X) (i : ℕ) (cell : X) (inside : i < length cells) (is : cell ≡ get_or cells i cell) where
  prefix_more : map text_in (take (i + 1) cells) ≡ map text_in (take i cells) ++ text_in cell ∷ []
  prefix_more =
      ap (map text_in) (take_more cells i cell inside)
      ∙ map-append text_in (take i cells) (get_or cells i cell ∷ [])
      ∙ ap (λ (c : X). map text_in (take i cells) ++ text_in c ∷ []) (sym is)

  prefix_length : length (map text_in (take i cells)) ≡ i
  prefix_length = length-map (take i cells) text_in ∙ length-take-le i cells (omega (arith, inside))

  pub widened_next : (old now new : List ℕ) → AreWidened old now (map text_in (take i cells))
      → IsWidenedAt now new i (length (text_in cell)) → AreWidened old new (map text_in (take (i + 1) cells))
  widened_next old now new so_far widened =
      subst (λ (cs : Cells). AreWidened old new cs) (sym prefix_more)
      (widened_more old now new (map text_in (take i cells)) i (text_in cell) prefix_length so_far widened)
