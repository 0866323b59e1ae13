use Rattle.std.proofs.Common.{◌≡◌, ◌≤◌, List, ap, arith, refl, subst, sym, ◌∙◌}
use Rattle.std.proofs.lemmas.Bool.{false≢true}
use Rattle.drf_tree.proofs.Names.{amount_of, Entry, Text, ledger_content, IsSumOf, IsTreeOf}
use Rattle.drf_sorter.specs.Fractions.{dominant_of, weigh}
use Rattle.drf_tree.specs.declared.ledger.Ledger.{Ledger}
use Rattle.drf_tree.specs.Sorter.{Sorted}
use Rattle.drf_tree.proofs.keys.Renew.{weighs_within}
use Rattle.drf_tree.proofs.sums.Share.{held_within, nobody, shares_are, somebody, sum_is}
use Rattle.drf_tree.proofs.sorter.TreeSorterSorter.share.Goals.{After-find, After-sum-sum}
use Rattle.drf_tree.proofs.sorter.TreeSorterSorter.share.Goals as goal

of_at : (c : After-find) → IsTreeOf (ledger_content c.args.self.now.ledger) c.self.inside.tree
of_at c =
    subst (λ (l : Ledger). IsTreeOf (ledger_content l) c.self.inside.tree) (ap (λ (s : Sorted). s.ledger) c.self.view_is)
    c.self.invariant.of_ledger

pub returns-in_err-find-clause-known : goal.returns-in_err-find-clause-known
returns-in_err-find-clause-known c =
    let of = of_at (goal.at.returns-in_err-find-clause-known c).After-find in
    rw c.from_residual.ensures (λ some. absurd (false≢true some), λ some. c.in_err-find.ensures.every (ledger_content c.args.self.now.ledger) of some)

pub returns-then-sum-eq0-clause-known : goal.returns-then-sum-eq0-clause-known
returns-then-sum-eq0-clause-known c =
    let of = of_at (goal.at.returns-then-sum-eq0-clause-known c).After-find in
    let none =
    nobody (ledger_content c.args.self.now.ledger) c.self.inside.tree of c.in_ok-find.field-0 c.args.node.now c.in_ok-find.ensures.live c.in_ok-find.ensures.found.1
    c.sum-sum.result.now c.sum-sum.ensures c.if-sum-eq0.true in
    (λ some. absurd (false≢true some), λ some. sym none ∙ some)

within_at : (c : After-sum-sum) → IsTreeOf (ledger_content c.args.self.now.ledger) c.self.inside.tree → (total : List Entry)
    → total ≡ c.self.inside.ledger.total → (label : Text) → amount_of c.sum-sum.result.now.held label ≤ amount_of total label
within_at c of total is label =
    subst (λ (t : List Entry). amount_of c.sum-sum.result.now.held label ≤ amount_of t label) (sym (is ∙ ap (λ (s : Sorted). s.ledger.total) c.self.view_is))
    (held_within (ledger_content c.args.self.now.ledger) c.self.inside.tree of c.in_ok-find.field-0 c.args.node.now c.in_ok-find.ensures.live
    c.in_ok-find.ensures.found.1 c.sum-sum.result.now c.sum-sum.ensures c.requires label)

pub of-share-requires-clause-within : goal.of-share-requires-clause-within
of-share-requires-clause-within c =
    let at = goal.at.of-share-requires-clause-within c in
    within_at at.After-sum-sum (of_at at.After-find) _ c.total.ensures

pub of-weighted-requires-clause-within : goal.of-weighted-requires-clause-within
of-weighted-requires-clause-within c =
    let at = goal.at.of-weighted-requires-clause-within c in
    within_at at.After-sum-sum (of_at at.After-find) _ c.total-2.ensures

is_at : (c : After-sum-sum) → IsSumOf (ledger_content c.self.inside.ledger) c.args.node.now c.sum-sum.result.now
is_at c =
    sum_is (ledger_content c.self.inside.ledger) c.self.inside.tree c.self.invariant.of_ledger c.in_ok-find.field-0 c.args.node.now
    c.in_ok-find.ensures.live c.in_ok-find.ensures.found.1 c.sum-sum.result.now c.sum-sum.ensures

pub of-weighted-requires-clause-weighs : goal.of-weighted-requires-clause-weighs
of-weighted-requires-clause-weighs c =
    let is = is_at (goal.at.of-weighted-requires-clause-weighs c).After-sum-sum in
    omega (arith, is.weight, (weighs_within c.self.inside.ledger c.args.node.now).0)

pub of-weighted-requires-clause-light : goal.of-weighted-requires-clause-light
of-weighted-requires-clause-light c =
    let is = is_at (goal.at.of-weighted-requires-clause-light c).After-sum-sum in
    omega (arith, is.weight, (weighs_within c.self.inside.ledger c.args.node.now).1)

pub returns-clause-known : goal.returns-clause-known
returns-clause-known c =
    let of = of_at (goal.at.returns-clause-known c).After-find in
    let some =
    somebody (ledger_content c.args.self.now.ledger) c.self.inside.tree of c.in_ok-find.field-0 c.args.node.now c.in_ok-find.ensures.live c.in_ok-find.ensures.found.1
    c.sum-sum.result.now c.sum-sum.ensures (omega (arith, c.if-sum-eq0.false)) in
    (λ is. some, λ is. refl)

pub returns-clause-share : goal.returns-clause-share
returns-clause-share c =
    let of = of_at (goal.at.returns-clause-share c).After-find in
    let sum = c.sum-sum.result.now in
    let total = c.total.ensures ∙ ap (λ (s : Sorted). s.ledger.total) c.self.view_is in
    let again = c.total-2.ensures ∙ ap (λ (s : Sorted). s.ledger.total) c.self.view_is in
    shares_are (ledger_content c.args.self.now.ledger) c.self.inside.tree of c.in_ok-find.field-0 c.args.node.now c.in_ok-find.ensures.live c.in_ok-find.ensures.found.1
    sum c.sum-sum.ensures c.of-share.result c.of-weighted.result
    (c.of-share.ensures ∙ ap (λ (t : List Entry). weigh (dominant_of (amount_of sum.held) t) 1000) total)
    (c.of-weighted.ensures ∙ ap (λ (t : List Entry). weigh (dominant_of (amount_of sum.held) t) sum.weight) again)
