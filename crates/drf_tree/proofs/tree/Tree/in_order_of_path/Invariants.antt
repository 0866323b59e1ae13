use Rattle.std.proofs.Common.{◌≡◌, ◌<◌, ◌==◌, ℕ, true}
use Rattle.std.specs.List.{list_any}
use Rattle.drf_tree.specs.Lines.{AreListed}
use Rattle.drf_tree.proofs.tree.Tree.in_order_of_path.Given as goal

abbrev pub invariant-loop-node : goal.invariant-loop-node
invariant-loop-node l = record {
  every : (k : ℕ) → k < l.node → list_any (λ n. n == k) l.order.items ≡ true;
  listed : AreListed l.is_listed.items l.order.items;
}
