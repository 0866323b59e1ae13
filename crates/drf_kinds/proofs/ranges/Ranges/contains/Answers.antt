use Rattle.std.proofs.Common.{◌≡◌, ◌<◌, ◌≤◌, length, get_or, leb, ltb, sym, ap, ◌∙◌, subst, rules}
use Rattle.std.specs.FinSet as set
use Rattle.std.proofs.lemmas.Bool.{ltb-true, ltb-false}
use Rattle.std.proofs.lemmas.List.Sorted.{IsPartitionPoint-from_clause, IsPartitionedBy-ltb}
use Rattle.drf_kinds.specs.Intervals.{AreMaximal, members}
use Rattle.drf_kinds.proofs.IntervalLaws.{contains-members}
use Rattle.drf_kinds.proofs.Members.{lasts_ascend, found_at, not_found}
use Rattle.drf_kinds.proofs.ranges.Ranges.contains.Goals as goal

pub returns-in-Some : goal.returns-in-Some
returns-in-Some c =
    let maximal : AreMaximal c.deref.result.now = subst AreMaximal (sym c.deref.ensures) c.self.invariant.maximal in
    let point = IsPartitionPoint-from_clause (λ i. ltb i.last c.args.number) _ _ c.partition_point-place.ensures.partitioned (IsPartitionedBy-ltb (λ i. i.last) _ c.args.number (lasts_ascend 0 _ maximal)) (λ a r q k. search rules) in
    let same : c.deref-2.result.now ≡ c.deref.result.now = c.deref-2.ensures ∙ sym c.deref.ensures in
    let lookup = c.in-Some.ensures.lookup in
    let within : c.partition_point-place.result < length c.deref.result.now = rw (← same) (ltb-true _ _ (sym lookup.0)) in
    let found = found_at 0 c.deref.result.now c.args.number c.partition_point-place.result c.in-Some.interval.now maximal point within in
    ap (λ i. leb i.first c.args.number) (lookup.1 ∙ ap (λ is. get_or is c.partition_point-place.result c.in-Some.interval.now) same)
    ∙ sym (ap (λ s. set.contains s c.args.number) (sym c.self.view_is ∙ ap members (sym c.deref.ensures)) ∙ contains-members c.deref.result.now c.args.number ∙ found)

pub returns-in-None : goal.returns-in-None
returns-in-None c =
    let maximal : AreMaximal c.deref.result.now = subst AreMaximal (sym c.deref.ensures) c.self.invariant.maximal in
    let point = IsPartitionPoint-from_clause (λ i. ltb i.last c.args.number) _ _ c.partition_point-place.ensures.partitioned (IsPartitionedBy-ltb (λ i. i.last) _ c.args.number (lasts_ascend 0 _ maximal)) (λ a r q k. search rules) in
    let same : c.deref-2.result.now ≡ c.deref.result.now = c.deref-2.ensures ∙ sym c.deref.ensures in
    let past : length c.deref.result.now ≤ c.partition_point-place.result = rw (← same) (ltb-false _ _ (sym c.in-None.ensures.lookup.0)) in
    sym
    (ap (λ s. set.contains s c.args.number) (sym c.self.view_is ∙ ap members (sym c.deref.ensures))
    ∙ contains-members c.deref.result.now c.args.number
    ∙ not_found 0 c.deref.result.now c.args.number c.partition_point-place.result maximal point past)
