use Rattle.std.proofs.Common.{◌≡◌, ◌≤◌, ap, ◌∙◌, rules}
use Rattle.std.specs.List.{All}
use Rattle.std.specs.FinSet as set
use Rattle.drf_kinds.specs.Intervals.{is_in}
use Rattle.drf_kinds.proofs.IntervalLaws.{contains-members, in_pairs}
use Rattle.drf_kinds.proofs.Merged.{ordered_intervals, in_sorted}
use Rattle.drf_kinds.proofs.ranges.Ranges.from_pairs.Goals as goal

pub merged-requires-clause-ordered : goal.merged-requires-clause-ordered
merged-requires-clause-ordered c =
    let ordered : All (λ pair. pair.0 ≤ pair.1) c.args.pairs.now = search rules in
    rw c.deref.ensures (ordered_intervals _ _ c.in_ok-intervals.ensures.intervals ordered)

pub returns-clause-members : goal.returns-clause-members
returns-clause-members c n =
    let contained : set.contains c.new.result n ≡ is_in c.in_ok-merged.field-0.items n = ap (λ s. set.contains s n) c.new.ensures ∙ contains-members _ n in
    in_pairs c.args.pairs.now n (set.contains c.new.result n)
    (contained ∙ c.in_ok-merged.ensures.members n ∙ ap (λ is. is_in is n) c.deref.ensures ∙ in_sorted _ _ n c.in_ok-intervals.ensures.intervals)
