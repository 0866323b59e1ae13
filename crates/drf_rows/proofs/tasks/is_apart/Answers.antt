use Rattle.std.proofs.Common.{◌≡◌, Bool, true, false, is_some, get_or, sym, ap, ◌∙◌, rules, take_all}
use Rattle.std.specs.List.{list_all}
use Rattle.std.proofs.lemmas.Bool.{and_from}
use Rattle.std.proofs.lemmas.List.Folds.{list_all_at, list_all_more}
use Rattle.drf_bundle.specs.Bundle.{join}
use Rattle.drf_rows.specs.Tasks.{Start}
use Rattle.drf_rows.proofs.tasks.is_apart.Goals as goal

pub loop-task-preserved : goal.loop-task-preserved
loop-task-preserved c =
    let test : Start → Bool = λ s. is_some (join c.args.part.now s.1) in
    let i = c.loop-task.task-index in
    let passes : c.have_join.result ≡ true = search rules in
    let here : test (get_or c.args.tasks.now i c.task-item.result) ≡ true = ap test (sym c.task-item.is) ∙ sym c.have_join.ensures ∙ passes in
    list_all_more test c.args.tasks.now i c.task-item.result c.loop-task-test.true ∙ and_from _ _ c.loop-task.invariant here

pub returns-then-not-have_join : goal.returns-then-not-have_join
returns-then-not-have_join c =
    let test : Start → Bool = λ s. is_some (join c.args.part.now s.1) in
    let i = c.loop-task.task-index in
    let fails : c.have_join.result ≡ false = search rules in
    let here : test (get_or c.args.tasks.now i c.task-item.result) ≡ false = ap test (sym c.task-item.is) ∙ sym c.have_join.ensures ∙ fails in
    sym (list_all_at test c.args.tasks.now i c.task-item.result c.loop-task-test.true here)

pub returns : goal.returns
returns c =
    let test : Start → Bool = λ s. is_some (join c.args.part.now s.1) in
    sym (ap (list_all test) (sym (take_all c.loop-task.task-index c.args.tasks.now c.loop-task-test.false)) ∙ c.loop-task.invariant)
