use Rattle.std.proofs.Common.{◌∷◌, ◌≤◌, subst, sym, arith}
use Rattle.std.specs.List.{All}
use Rattle.std.specs.List.Sorted.{IsNonDecreasingBy}
use Rattle.std.proofs.lemmas.Bool.{eqb-false}
use Rattle.drf_kinds.proofs.Merged.{prefix_of, rest_of, prefix_rest, sorted_rest, first_least, ordered_rest, merging_start, merging_touch, merging_apart, merged_all, merged_maximal}
use Rattle.drf_kinds.proofs.ranges.merged.Goals.{then-first-saturating_add, else-first-saturating_add+in_ok-push}
use Rattle.drf_kinds.proofs.ranges.merged.Goals as goal

pub loop-first-init : goal.loop-first-init
loop-first-init c =
    let is = prefix_rest c.args.intervals.now (eqb-false _ _ (sym c.if-is_empty.ensures)) in
    let sorted : IsNonDecreasingBy (λ j. j.first) (prefix_of c.args.intervals.now ∷ rest_of c.args.intervals.now) = subst (IsNonDecreasingBy (λ j. j.first)) is c.requires.sorted in
    let ordered : All (λ j. j.first ≤ j.last) (prefix_of c.args.intervals.now ∷ rest_of c.args.intervals.now) = subst (All (λ j. j.first ≤ j.last)) is c.requires.ordered in
    rw c.new-merged.ensures.items (merging_start _ _ (ordered 0 (prefix_of c.args.intervals.now) (omega arith)) (omega arith) (first_least _ _ sorted))

pub loop-first-preserved : goal.loop-first-preserved
loop-first-preserved c =
    let is = prefix_rest c.args.intervals.now (eqb-false _ _ (sym c.if-is_empty.ensures)) in
    let sorted : IsNonDecreasingBy (λ j. j.first) (prefix_of c.args.intervals.now ∷ rest_of c.args.intervals.now) = subst (IsNonDecreasingBy (λ j. j.first)) is c.requires.sorted in
    let ordered : All (λ j. j.first ≤ j.last) (prefix_of c.args.intervals.now ∷ rest_of c.args.intervals.now) = subst (All (λ j. j.first ≤ j.last)) is c.requires.ordered in
    let known = c.loop-first.invariant in
    let next_ordered = ordered_rest _ _ ordered c.loop-first.first-index (record { first = 0; last = 0 }) c.loop-first-test.true in
    elim c.if-first-saturating_add.branch [
      | then-first-saturating_add w ↦
          rw (w.merged-is, w.start-is, w.end-is, w.max-end.ensures)
          (merging_touch _ _ _ _ _ (record { first = 0; last = 0 }) known c.loop-first-test.true (omega arith) next_ordered (omega arith))
      | else-first-saturating_add+in_ok-push w ↦
          rw (w.merged-is, w.start-is, w.end-is, w.in_ok-push.ensures.ok)
          (merging_apart _ _ _ _ _ (record { first = 0; last = 0 }) known c.loop-first-test.true (sorted_rest _ _ sorted) (omega arith) next_ordered (omega arith))
    ]

pub returns-clause-maximal : goal.returns-clause-maximal
returns-clause-maximal c = rw c.in_ok-push-2.ensures.ok (merged_maximal _ _ _ _ _ c.loop-first.invariant)

pub returns-clause-members : goal.returns-clause-members
returns-clause-members c n =
    rw (c.in_ok-push-2.ensures.ok, prefix_rest c.args.intervals.now (eqb-false _ _ (sym c.if-is_empty.ensures))) (merged_all _ _ _ _ _ c.loop-first.invariant c.loop-first-test.false n)
