use Rattle.std.proofs.Common.{◌≡◌, ◌≤◌, true}
use Rattle.std.specs.List.{AllByRecursion, list_any}
use Rattle.std.specs.Prelude.{length, take}
use Rattle.drf_role.specs.Path.{Path, begins_with}
use Rattle.drf_sorter.specs.Lines.{IsLineOf, has_line}
use Rattle.drf_sorter.specs.Plain.{plain_content}
use Rattle.drf_sorter.proofs.plain.PlainSorterSorter.lines.Given as goal

abbrev pub invariant-loop-client : goal.invariant-loop-client
invariant-loop-client l = record {
  each : AllByRecursion (IsLineOf (plain_content l.self)) l.lines;
  every : (node : Path) → 1 ≤ length node
      → list_any (λ c. begins_with c.path node) (take l.client-index l.self.clients.items) ≡ true
      → has_line l.lines node ≡ true;
}
