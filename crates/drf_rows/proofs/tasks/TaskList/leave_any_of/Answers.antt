use Rattle.std.proofs.Common.{◌≡◌, ℕ, ◌-◌, ◌≤◌, List, length, drop, sum_by, subst, ◌∙◌, arith}
use Rattle.std.specs.List.{AllByRecursion}
use Rattle.std.proofs.lemmas.List.{at_drop_all}
use Rattle.drf_bundle.specs.Bundle.{IsBundle, amount}
use Rattle.drf_rows.proofs.TaskLaws.{leaves}
use Rattle.drf_rows.specs.Tasks.{Start, uses}
use Rattle.drf_rows.proofs.tasks.TaskList.leave_any_of.Goals as goal

pub returns : goal.returns
returns c =
    let tasks : List Start = c.args.self.now in
    let whole = c.args.whole.now in
    let of : List Start → ℕ = λ ss. sum_by amount (uses ss) in
    let i = c.loop-task.task-index in
    let same : c.deref-task-items.result.now ≡ tasks = c.deref-task-items.ensures.value ∙ c.self.view_is in
    let past : length tasks ≤ i = subst (λ (ss : List Start). length ss ≤ i) same c.loop-task-test.false in
    let none : of (drop i tasks) ≡ 0 = at_drop_all of tasks i past in
    let reported : c.loop-task.left ≡ amount whole - of tasks = omega (arith, c.loop-task.invariant, none) in
    leaves whole (uses tasks) c.loop-task.left c.amount-left.ensures.given
    (subst (λ (ss : List Start). AllByRecursion IsBundle (uses ss)) c.self.view_is c.self.invariant.bundles) c.requires reported
