-- The lines of a report, as a sorter's content determines them.
use Rattle.std.specs.Prelude.{◌≡◌, ◌≤◌, ℕ, Bool, true, IsTrue, List, [], ◌∷◌, ◌++◌, ⊤, map, length, slice_set, take, drop}
use Rattle.std.specs.List.{AllByRecursion, list_any}
use Rattle.std.specs.Ordering.{match_ordering}
use Rattle.std.specs.declared.cmp.Ordering.TheVariants.{Less}
use Rattle.drf_bundle.specs.Quantities.{HasNoZeros, amount_of}
use Rattle.drf_bundle.specs.declared.quantities.Entry.{Entry}
use Rattle.drf_role.specs.Text.{Text}
use Rattle.drf_role.specs.Path.{Path, same_path}
use Rattle.drf_row_laws.specs.Laws.{are_in_order}
use Rattle.drf_rows.specs.Report.{line_by, path_cmp, terms_of}
use Rattle.drf_rows.specs.Share.{share_of, weighted_share_of}
use Rattle.drf_rows.specs.declared.report.NodeLine.{NodeLine}
use Rattle.drf_sorter.specs.Content.{Content, has_node, standing_in}

abbrev pub paths_of : List NodeLine → List Path
paths_of lines = map (λ l. l.path) lines

-- the node has a line
abbrev pub has_line : List NodeLine → Path → Bool
has_line lines node = list_any (same_path node) (paths_of lines)

-- the line is that of a node with clients, and says what they hold
pub record IsLineOf (content : Content) (line : NodeLine) : Type 0 where
  pub some : 1 ≤ length line.path
  pub clients : has_node content line.path ≡ true
  pub no_zeros : HasNoZeros line.held
  pub held : (label : Text) → amount_of line.held label ≡ (standing_in content).held line.path label
  pub share : line.share ≡ terms_of (share_of (standing_in content) line.path)
  pub weighted : line.weighted ≡ terms_of (weighted_share_of (standing_in content) line.path)
  pub count : line.count ≡ (standing_in content).count line.path

-- the lines of all nodes with clients, in order of path
pub record AreLinesOf (content : Content) (lines : List NodeLine) : Type 0 where
  pub each : AllByRecursion (IsLineOf content) lines
  pub every : (node : Path) → 1 ≤ length node → has_node content node ≡ true → has_line lines node ≡ true
  pub in_order : IsTrue (are_in_order (paths_of lines))

-- a line is inserted into lines in order of path; it replaces a line with the same path
abbrev pub with_line : List NodeLine → NodeLine → List NodeLine
with_line [] line = line ∷ []
with_line (l ∷ ls) line = match_ordering (path_cmp line.path l.path) (line ∷ l ∷ ls) (line ∷ ls) (l ∷ with_line ls line)

-- the paths of the lines are increasing
abbrev pub AreRising : List NodeLine → Type 0
AreRising [] = ⊤
AreRising (l ∷ ls) = AllByRecursion (λ x. path_cmp l.path x.path ≡ Less) ls × AreRising ls

-- a line with this path replaces the line at a position
abbrev pub StandsAt : Path → List NodeLine → ℕ → Type 0
StandsAt path lines at = (line : NodeLine) → line.path ≡ path → with_line lines line ≡ slice_set lines at line

-- a line with this path is inserted after the first `n` lines
abbrev pub BelongsBehind : Path → List NodeLine → ℕ → Type 0
BelongsBehind path lines n =
    (line : NodeLine) → line.path ≡ path → with_line lines line ≡ take n lines ++ line ∷ drop n lines

-- the line of a node, from its weight in thousandths, what it holds of the total, and its count of offers
abbrev pub line_with : List Entry → ℕ → Path → List Entry → ℕ → NodeLine
line_with total weight path held count =
    line_by (record { held = λ _. amount_of held; count = λ _. count; total = total; weight = λ _. weight }) path held
