use Rattle.std.proofs.Common.{◌≡◌, ℕ, ◌+◌, ◌<◌, ◌≤◌, ◌∷◌, List, drop, sym, ap, ◌∙◌, arith}
use Rattle.std.proofs.lemmas.List.{at_drop_more, at_drop_all}
use Rattle.drf_bundle.specs.Bundle.{key_of, units}
use Rattle.drf_bundle.specs.Taken.{units_of_all}
use Rattle.drf_bundle.specs.Value.{Thousandths}
use Rattle.drf_rows.proofs.TaskLaws.{enough-left, enough-lacking, more_taken}
use Rattle.drf_rows.specs.Tasks.{Start, uses}
use Rattle.drf_rows.proofs.tasks.is_enough.Goals as goal

pub returns-in_default : goal.returns-in_default
returns-in_default c =
    let key = key_of c.args.resource.now in
    let of : List Start → ℕ = λ starts. units_of_all (uses starts) key Thousandths in
    let i = c.loop-task.task-index in
    let tasks : List Start = c.args.tasks.now in
    let task : Start = c.task-item.result in
    let step : of (drop i tasks) ≡ of (task ∷ drop (i + 1) tasks) =
    at_drop_more of tasks i task c.loop-task-test.true ∙ ap (λ (s : Start). of (s ∷ drop (i + 1) tasks)) (sym c.task-item.is) in
    let here : c.scalar_in.result ≡ units task.1 key Thousandths = c.scalar_in.ensures in
    let below : c.loop-task.left < units task.1 key Thousandths = lacking c.scalar_in.result c.loop-task.left (units task.1 key Thousandths) (λ le. c.in_default.ensures le) here in
    enough-lacking c.args.whole.now task.1 (uses tasks) (uses (drop (i + 1) tasks)) c.args.resource.now c.loop-task.left
    (c.loop-task.invariant ∙ ap (λ (n : ℕ). units c.args.whole.now key Thousandths + n) step) below
  where
    lacking : (n left m : ℕ) → (n ≤ left → ⊥) → n ≡ m → left < m
    lacking n left m fails same = grind (arith, fails, same)

pub loop-task-preserved : goal.loop-task-preserved
loop-task-preserved c =
    let key = key_of c.args.resource.now in
    let of : List Start → ℕ = λ starts. units_of_all (uses starts) key Thousandths in
    let i = c.loop-task.task-index in
    let tasks : List Start = c.args.tasks.now in
    let task : Start = c.task-item.result in
    let step : of (drop i tasks) ≡ of (task ∷ drop (i + 1) tasks) =
    at_drop_more of tasks i task c.loop-task-test.true ∙ ap (λ (s : Start). of (s ∷ drop (i + 1) tasks)) (sym c.task-item.is) in
    let here : c.scalar_in.result ≡ units task.1 key Thousandths = c.scalar_in.ensures in
    let less = c.in-Some.ensures in
    omega (arith, c.loop-task.invariant, step, here, less.0, less.1, more_taken task.1 (uses (drop (i + 1) tasks)) key Thousandths)

pub returns : goal.returns
returns c =
    let key = key_of c.args.resource.now in
    let of : List Start → ℕ = λ starts. units_of_all (uses starts) key Thousandths in
    let none : of (drop c.loop-task.task-index c.args.tasks.now) ≡ 0 = at_drop_all of c.args.tasks.now c.loop-task.task-index c.loop-task-test.false in
    enough-left c.args.whole.now (uses c.args.tasks.now) c.args.resource.now c.loop-task.left (omega (arith, c.loop-task.invariant, none))
