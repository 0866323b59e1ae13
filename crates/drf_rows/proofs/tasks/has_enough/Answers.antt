use Rattle.std.proofs.Common.{◌≡◌, Bool, true, false, get_or, sym, ap, ◌∙◌, rules, take_all}
use Rattle.std.specs.List.{list_all}
use Rattle.std.proofs.lemmas.Bool.{and_from}
use Rattle.std.proofs.lemmas.List.Folds.{list_all_at, list_all_more}
use Rattle.drf_bundle.specs.declared.resource.Resource.{Resource}
use Rattle.drf_rows.specs.TaskLaws.{is_enough}
use Rattle.drf_rows.specs.Tasks.{uses}
use Rattle.drf_rows.proofs.tasks.has_enough.Goals as goal

pub loop-resource-preserved : goal.loop-resource-preserved
loop-resource-preserved c =
    let test : Resource → Bool = is_enough c.args.whole.now (uses c.args.tasks.now) in
    let i = c.loop-resource.resource-index in
    let passes : c.is_enough.result ≡ true = search rules in
    let here : test (get_or c.args.resources.now i c.resource-item.result) ≡ true = ap test (sym c.resource-item.is) ∙ sym c.is_enough.ensures ∙ passes in
    list_all_more test c.args.resources.now i c.resource-item.result c.loop-resource-test.true ∙ and_from _ _ c.loop-resource.invariant here

pub returns-then-not-is_enough : goal.returns-then-not-is_enough
returns-then-not-is_enough c =
    let test : Resource → Bool = is_enough c.args.whole.now (uses c.args.tasks.now) in
    let i = c.loop-resource.resource-index in
    let fails : c.is_enough.result ≡ false = search rules in
    let here : test (get_or c.args.resources.now i c.resource-item.result) ≡ false = ap test (sym c.resource-item.is) ∙ sym c.is_enough.ensures ∙ fails in
    sym (list_all_at test c.args.resources.now i c.resource-item.result c.loop-resource-test.true here)

pub returns : goal.returns
returns c =
    let test : Resource → Bool = is_enough c.args.whole.now (uses c.args.tasks.now) in
    sym (ap (list_all test) (sym (take_all c.loop-resource.resource-index c.args.resources.now c.loop-resource-test.false)) ∙ c.loop-resource.invariant)
