use Rattle.std.proofs.Common.{◌≡◌, Bool, true, false, not, get_or, sym, ap, ◌∙◌, rules, take_all}
use Rattle.std.specs.List.{list_all}
use Rattle.std.proofs.lemmas.Bool.{and_from}
use Rattle.std.proofs.lemmas.List.Folds.{list_all_at, list_all_more}
use Rattle.drf_rows.specs.Offers.{has_task}
use Rattle.drf_rows.specs.Tasks.{Start}
use Rattle.drf_core.proofs.refusal.are_new.Goals as goal

pub loop-task-preserved : goal.loop-task-preserved
loop-task-preserved c =
    let test : Start → Bool = λ s. not (has_task c.args.tables.now.rows c.args.framework.now s.0) in
    let i = c.loop-task.task-index in
    let past : c.has_task.result ≡ false = search rules in
    let here : test (get_or c.args.tasks.now i c.task-item.result) ≡ true = ap test (sym c.task-item.is) ∙ ap not (sym c.has_task.ensures ∙ past) in
    list_all_more test c.args.tasks.now i c.task-item.result c.loop-task-test.true ∙ and_from _ _ c.loop-task.invariant here

pub returns-then-has_task : goal.returns-then-has_task
returns-then-has_task c =
    let test : Start → Bool = λ s. not (has_task c.args.tables.now.rows c.args.framework.now s.0) in
    let i = c.loop-task.task-index in
    let known : c.has_task.result ≡ true = search rules in
    let here : test (get_or c.args.tasks.now i c.task-item.result) ≡ false = ap test (sym c.task-item.is) ∙ ap not (sym c.has_task.ensures ∙ known) in
    sym (list_all_at test c.args.tasks.now i c.task-item.result c.loop-task-test.true here)

pub returns : goal.returns
returns c =
    let test : Start → Bool = λ s. not (has_task c.args.tables.now.rows c.args.framework.now s.0) in
    sym (ap (list_all test) (sym (take_all c.loop-task.task-index c.args.tasks.now c.loop-task-test.false)) ∙ c.loop-task.invariant)
