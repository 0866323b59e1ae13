use Rattle.std.proofs.Common.{rules}
use Rattle.std.proofs.lemmas.Fn.{always_returns_same}
use Rattle.std.specs.Ordering.{nat_cmp}
use Rattle.std.specs.Cmp.Lexicographic.{slice_cmp}
use Rattle.drf_bundle.proofs.PlaceLemmas.{searched}
use Rattle.drf_bundle.proofs.quantities.Quantities.search.Goals as goal

-- the closure compares an entry's label with the one that is looked for, and the slice is the entries
pub returns : goal.returns
returns c =
    let facts = c.binary_search_by.ensures in
    let by_label = facts.position (λ e. slice_cmp nat_cmp e.label c.args.label.now) (always_returns_same _ _ _ (λ a r g called. (search rules, search rules))) in
    rw (← c.self.view_is, ← c.deref.ensures.value) (searched _ c.args.label.now (rw c.deref.ensures.value c.self.invariant) _ facts.bound by_label)
