use Rattle.std.proofs.Common.{◌≡◌, Bool, true, false, get_or, sym, ap, ◌∙◌, rules, take_all}
use Rattle.std.specs.List.{list_all}
use Rattle.std.proofs.lemmas.Bool.{and_from}
use Rattle.std.proofs.lemmas.List.Folds.{list_all_at, list_all_more}
use Rattle.drf_bundle.specs.Bundle.{covers}
use Rattle.drf_rows.specs.Tasks.{Start}
use Rattle.drf_rows.proofs.tasks.covers_each.Goals as goal

pub loop-task-preserved : goal.loop-task-preserved
loop-task-preserved c =
    let test : Start → Bool = λ s. covers c.args.whole.now s.1 in
    let i = c.loop-task.task-index in
    let passes : c.covers.result ≡ true = search rules in
    let here : test (get_or c.args.tasks.now i c.task-item.result) ≡ true = ap test (sym c.task-item.is) ∙ sym c.covers.ensures ∙ passes in
    list_all_more test c.args.tasks.now i c.task-item.result c.loop-task-test.true ∙ and_from _ _ c.loop-task.invariant here

pub returns-then-not-covers : goal.returns-then-not-covers
returns-then-not-covers c =
    let test : Start → Bool = λ s. covers c.args.whole.now s.1 in
    let i = c.loop-task.task-index in
    let fails : c.covers.result ≡ false = search rules in
    let here : test (get_or c.args.tasks.now i c.task-item.result) ≡ false = ap test (sym c.task-item.is) ∙ sym c.covers.ensures ∙ fails in
    sym (list_all_at test c.args.tasks.now i c.task-item.result c.loop-task-test.true here)

pub returns : goal.returns
returns c =
    let test : Start → Bool = λ s. covers c.args.whole.now s.1 in
    sym (ap (list_all test) (sym (take_all c.loop-task.task-index c.args.tasks.now c.loop-task-test.false)) ∙ c.loop-task.invariant)
