use Rattle.std.proofs.Common.{◌≡◌, ◌<◌, ℕ, true, false, length, slice_index_or}
use Rattle.drf_tree.specs.Nodes.{is_holding}
use Rattle.drf_tree.proofs.marks.Marks.mark_all.Given as goal

abbrev pub invariant-loop-node : goal.invariant-loop-node
invariant-loop-node l = record {
  long : length l.self.stale ≡ length l.fn.self.stale;
  done : (i : ℕ) → i < l.node → is_holding l.places l.sums i ≡ true → slice_index_or l.self.stale i false ≡ true;
  others : (i : ℕ) → is_holding l.places l.sums i ≡ false → slice_index_or l.self.stale i false ≡ slice_index_or l.fn.self.stale i false;
  made : l.self.made ≡ l.fn.self.made;
}
