use Rattle.std.proofs.Common.{rules}
use Rattle.std.proofs.lemmas.List.Sorted.{IsNonDecreasingBy-from_sort_by_key}
use Rattle.smallvec.proofs.SmallVecLemmas.{items-with_items}
use Rattle.drf_kinds.proofs.ranges.sorted.Goals as goal

pub returns-clause-intervals : goal.returns-clause-intervals
returns-clause-intervals c =
    rw (items-with_items c.in_ok-intervals.intervals c.sort_unstable_by_key.new.self (search rules), ← c.in_ok-intervals.ensures, ← c.deref_mut.ensures.value) c.sort_unstable_by_key.ensures.permutation

pub returns-clause-sorted : goal.returns-clause-sorted
returns-clause-sorted c =
    rw (items-with_items c.in_ok-intervals.intervals c.sort_unstable_by_key.new.self (search rules))
    (IsNonDecreasingBy-from_sort_by_key (λ i. i.first) _ c.sort_unstable_by_key.ensures.sorted (λ a r q k. search rules))
