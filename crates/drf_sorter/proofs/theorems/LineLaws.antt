-- Theorems about the lines of nodes, for the crates that compute them.
use Rattle.std.specs.Prelude.{◌≡◌, ℕ, ◌≤◌, Bool, true, false, ◌||◌, IsTrue, List, [], ◌∷◌, length}
use Rattle.std.specs.List.{AllByRecursion}
use Rattle.std.specs.Ordering.{nat_cmp, is_eq, match_ordering}
use Rattle.std.specs.Cmp.Lexicographic.{slice_cmp, lists_ties, texts_ties}
use Rattle.std.specs.declared.cmp.Ordering.{Ordering}
use Rattle.std.specs.declared.cmp.Ordering.TheVariants.{Less, Equal, Greater}
use Rattle.std.proofs.Common.{refl, ap, ◌∙◌}
use Rattle.std.proofs.lemmas.Bool.{or_right}
use Rattle.drf_bundle.specs.Quantities.{amount_of, is_in_order}
use Rattle.drf_bundle.proofs.theorems.QuantitiesLaws.{amount-without_zeros, no_zeros-without_zeros}
use Rattle.drf_bundle.specs.declared.quantities.Entry.{Entry}
use Rattle.drf_role.specs.Text.{Text}
use Rattle.drf_role.specs.Path.{Path, same_path}
use Rattle.drf_role.specs.PathLaws.{same_path-true, same_path_itself}
use Rattle.drf_rows.specs.Report.{path_cmp, terms_of}
use Rattle.drf_rows.specs.declared.report.NodeLine.{NodeLine}
use Rattle.drf_sorter.specs.Content.{Content, has_node, standing_in}
use Rattle.drf_sorter.specs.Fractions.{dominant_of, weigh}
use Rattle.drf_sorter.specs.Lines.{IsLineOf, has_line, line_with, with_line}

-- a line that is computed from the sums of a node is the line of its clients
pub IsLineOf-with : (content : Content) (weight : ℕ) (path : Path) (held : List Entry) (count : ℕ) → 1 ≤ length path
    → has_node content path ≡ true → IsTrue (is_in_order held)
    → ((label : Text) → amount_of held label ≡ (standing_in content).held path label)
    → count ≡ (standing_in content).count path → weight ≡ (standing_in content).weight path
    → IsLineOf content (line_with content.total weight path held count)
unfolding standing_in
IsLineOf-with content weight path held count some clients ordered amounts counted weighs = record {
  some = some;
  clients = clients;
  no_zeros = no_zeros-without_zeros held ordered;
  held = λ label. amount-without_zeros held label ordered ∙ amounts label;
  share = λ i. terms_of (dominant_of (λ (label : Text). amounts label i) content.total);
  weighted = λ i. terms_of (weigh (dominant_of (λ (label : Text). amounts label i) content.total) (weighs i));
  count = counted;
}

-- ---- one more line

pub each-with : (P : NodeLine → Type 0) (ls : List NodeLine) (line : NodeLine) → AllByRecursion P ls → P line
    → AllByRecursion P (with_line ls line)
each-with P [] line all here = (here, tt)
each-with P (l ∷ ls) line all here = by (path_cmp line.path l.path) (each-with P ls line all.1 here)
  where
    by : (o : Ordering) → AllByRecursion P (with_line ls line)
        → AllByRecursion P (match_ordering o (line ∷ l ∷ ls) (line ∷ ls) (l ∷ with_line ls line))
    by Less later = (here, all)
    by Equal later = (here, all.1)
    by Greater later = (all.0, later)

pub same_from_tie : (a b : Path) → path_cmp a b ≡ Equal → a ≡ b
same_from_tie a b equal = same_path-true a b (lists_ties (slice_cmp nat_cmp) texts_ties a b ∙ ap is_eq equal)

-- the new line is in the list
pub has_line-new : (ls : List NodeLine) (line : NodeLine) → has_line (with_line ls line) line.path ≡ true
has_line-new [] line = ap (λ (b : Bool). b || has_line [] line.path) (same_path_itself line.path)
has_line-new (l ∷ ls) line = by (path_cmp line.path l.path) (has_line-new ls line)
  where
    by : (o : Ordering) → has_line (with_line ls line) line.path ≡ true
        → has_line (match_ordering o (line ∷ l ∷ ls) (line ∷ ls) (l ∷ with_line ls line)) line.path ≡ true
    by Less later = ap (λ (b : Bool). b || has_line (l ∷ ls) line.path) (same_path_itself line.path)
    by Equal later = ap (λ (b : Bool). b || has_line ls line.path) (same_path_itself line.path)
    by Greater later = or_right (same_path line.path l.path) (has_line (with_line ls line) line.path) later

-- the other nodes still have lines
pub has_line-others : (ls : List NodeLine) (line : NodeLine) (node : Path) → has_line ls node ≡ true
    → has_line (with_line ls line) node ≡ true
has_line-others [] line node had = or_right (same_path node line.path) (has_line [] node) had
has_line-others (l ∷ ls) line node had = by (path_cmp line.path l.path) refl (has_line-others ls line node)
  where
    stays : (a b c : Bool) → (a || b) ≡ true → (b ≡ true → c ≡ true) → (a || c) ≡ true
    stays true b c some step = refl
    stays false b c some step = step some

    by : (o : Ordering) → path_cmp line.path l.path ≡ o → (has_line ls node ≡ true → has_line (with_line ls line) node ≡ true)
        → has_line (match_ordering o (line ∷ l ∷ ls) (line ∷ ls) (l ∷ with_line ls line)) node ≡ true
    by Less is later = or_right (same_path node line.path) (has_line (l ∷ ls) node) had
    by Equal is later =
        ap (λ (p : Path). same_path node p || has_line ls node) (same_from_tie line.path l.path is) ∙ had
    by Greater is later = stays (same_path node l.path) (has_line ls node) (has_line (with_line ls line) node) had later
