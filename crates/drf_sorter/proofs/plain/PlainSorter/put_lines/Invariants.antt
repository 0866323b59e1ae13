use Rattle.std.proofs.Common.{◌≡◌, ◌≤◌, true}
use Rattle.std.specs.List.{AllByRecursion}
use Rattle.std.specs.Prelude.{ℕ, take}
use Rattle.drf_role.specs.Path.{Path}
use Rattle.drf_sorter.specs.Lines.{IsLineOf, has_line}
use Rattle.drf_sorter.specs.Plain.{plain_content}
use Rattle.drf_sorter.proofs.plain.PlainSorter.put_lines.Given as goal

abbrev pub invariant-loop-i : goal.invariant-loop-i
invariant-loop-i l = record {
  each : AllByRecursion (IsLineOf (plain_content l.self)) l.lines;
  stay : (node : Path) → has_line l.fn.lines node ≡ true → has_line l.lines node ≡ true;
  put : (k : ℕ) → 1 ≤ k → k ≤ l.i → has_line l.lines (take k l.path) ≡ true;
}
