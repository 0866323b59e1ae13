-- Tables with aligned columns.
use Rattle.std.specs.Prelude.{◌≡◌, ◌≢◌, ◌≤◌, ℕ, ◌+◌, ◌-◌, max, min, List, [], ◌∷◌, ◌++◌, length, get_or, replicate, fold, flat_map}
use Rattle.drf_role.specs.Text.{Text}

-- a row: a text for each column
abbrev pub Cells : Type 0
Cells = List Text

-- the length in bytes of the widest cell of a column
abbrev pub width_at : List Cells → ℕ → ℕ
width_at rows column = fold (λ width row. max width (length (get_or row column []))) 0 rows

-- the greatest width of a column: a longer cell shifts only the cells after it in its own row
abbrev pub widest : ℕ
widest = 48

-- a cell with spaces up to the width of its column, and two more
abbrev pub padded : ℕ → Text → Text
padded width cell = cell ++ replicate (2 + (min width widest - length cell)) 32

-- the cells from a column on; the last one is not padded
abbrev pub cells_text : (ℕ → ℕ) → ℕ → Cells → List ℕ
cells_text width column [] = []
cells_text width column (cell ∷ []) = cell
cells_text width column (cell ∷ next ∷ cells) = padded (width column) cell ++ cells_text width (column + 1) (next ∷ cells)

-- a row of a table, with its line feed
abbrev pub row_text : (ℕ → ℕ) → Cells → List ℕ
row_text width cells = cells_text width 0 cells ++ 10 ∷ []

-- the rows of a table
abbrev pub table_text : List Cells → List ℕ
table_text rows = flat_map (row_text (width_at rows)) rows

-- one column has at least this width, the others are unchanged, and all columns up to it exist
pub record IsWidenedAt (old new : List ℕ) (column width : ℕ) : Type 0 where
  pub there : get_or new column 0 ≡ max (get_or old column 0) width
  pub others : (q : ℕ) → q ≢ column → get_or new q 0 ≡ get_or old q 0
  pub reached : column + 1 ≤ length new
