use Rattle.std.proofs.Common.{◌≡◌, ◌==◌, ℕ, take, true}
use Rattle.std.specs.List.{AllByRecursion, list_any}
use Rattle.drf_tree.proofs.Names.{has_node, ledger_content, is_live, path_at}
use Rattle.drf_sorter.specs.Lines.{IsLineOf, has_line}
use Rattle.drf_tree.proofs.tree.Tree.lines.Given as goal

abbrev pub invariant-loop-node : goal.invariant-loop-node
invariant-loop-node l = record {
  each : AllByRecursion (IsLineOf (ledger_content l.ledger)) l.lines;
  every : (k : ℕ) → list_any (λ n. n == k) (take l.node-index l.node-items) ≡ true → is_live l.self.places.items k ≡ true
      → has_node (ledger_content l.ledger) (path_at l.self.places.items k) ≡ true
      → has_line l.lines (path_at l.self.places.items k) ≡ true;
}
