use Rattle.std.proofs.Common.{◌+◌, take_all, sym, ap, ◌∙◌, subst, arith}
use Rattle.std.specs.List.{sum_by}
use Rattle.std.specs.FinSet as set
use Rattle.drf_kinds.specs.Intervals.{AreMaximal}
use Rattle.drf_kinds.proofs.Members.{size_of, size_more, size_small, ordered_at, len-members}
use Rattle.drf_kinds.proofs.ranges.RangesAlgebra.amount.Goals as goal

pub overflow_sub-interval : goal.overflow_sub-interval
overflow_sub-interval c =
    let maximal : AreMaximal c.as_slice-interval-items.result.now = subst AreMaximal (sym c.as_slice-interval-items.ensures) c.self.invariant.maximal in
    ordered_at 0 _ _ _ maximal c.loop-interval-test.true

pub overflow_add-amount-in-loop-interval : goal.overflow_add-amount-in-loop-interval
overflow_add-amount-in-loop-interval c =
    let maximal : AreMaximal c.as_slice-interval-items.result.now = subst AreMaximal (sym c.as_slice-interval-items.ensures) c.self.invariant.maximal in
    omega (arith, size_more _ c.loop-interval.interval-index (record { first = 0; last = 0 }) maximal c.loop-interval-test.true, size_small _ (c.loop-interval.interval-index + 1) maximal, c.from.ensures, c.loop-interval.invariant)

pub loop-interval-preserved : goal.loop-interval-preserved
loop-interval-preserved c =
    let maximal : AreMaximal c.as_slice-interval-items.result.now = subst AreMaximal (sym c.as_slice-interval-items.ensures) c.self.invariant.maximal in
    omega (arith, size_more _ c.loop-interval.interval-index (record { first = 0; last = 0 }) maximal c.loop-interval-test.true, c.from.ensures, c.loop-interval.invariant)

pub returns-clause-amount : goal.returns-clause-amount
returns-clause-amount c =
    c.loop-interval.invariant
    ∙ ap (sum_by size_of) (take_all _ _ c.loop-interval-test.false ∙ c.as_slice-interval-items.ensures)
    ∙ sym (len-members _ c.self.invariant.maximal)
    ∙ ap set.len c.self.view_is

pub returns-clause-small : goal.returns-clause-small
returns-clause-small c =
    let maximal : AreMaximal c.as_slice-interval-items.result.now = subst AreMaximal (sym c.as_slice-interval-items.ensures) c.self.invariant.maximal in
    omega (arith, size_small _ c.loop-interval.interval-index maximal, c.loop-interval.invariant)
