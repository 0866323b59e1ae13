use Rattle.std.proofs.Common.{arith, ap, sym, ◌∙◌, ◌++◌, ◌∷◌, []}
use Rattle.std.specs.List.{position}
use Rattle.std.proofs.lemmas.Bool.{false≢true}
use Rattle.drf_role.specs.Path.{same_path}
use Rattle.drf_rows.specs.declared.rows.WeightRow.{WeightRow}
use Rattle.drf_bundle.proofs.theorems.ListLaws.{position-none}
use Rattle.drf_sorter.proofs.WeightLemmas.{weights-stay, weights-set, weights-push}
use Rattle.drf_sorter.proofs.weights.Weights.set.Goals as goal

pub invariant_of-self : goal.invariant_of-self
invariant_of-self c = record {
  weighs = weights-stay c.args.self.now.rows.items c.in-Some.at _ (omega (arith, c.requires.weighs)) (omega (arith, c.requires.light)) c.args.self.now.weighs;
}

pub returns-in_err-role-in-None-clause-replaced : goal.returns-in_err-role-in-None-clause-replaced
returns-in_err-role-in-None-clause-replaced c there =
    let is_row = λ (w : WeightRow). same_path w.role c.args.role.now in
    let none =
    position-none is_row c.args.self.now.rows.items
    (c.in-None.ensures ∙ ap (position is_row) c.deref.ensures.value) in
    absurd (false≢true (sym none ∙ there))

pub returns-in_err-push-in-None-clause-replaced : goal.returns-in_err-push-in-None-clause-replaced
returns-in_err-push-in-None-clause-replaced c there =
    let is_row = λ (w : WeightRow). same_path w.role c.args.role.now in
    let none =
    position-none is_row c.args.self.now.rows.items
    (c.in-None.ensures ∙ ap (position is_row) c.deref.ensures.value) in
    absurd (false≢true (sym none ∙ there))

pub returns-in-Some-clause-ok : goal.returns-in-Some-clause-ok
returns-in-Some-clause-ok c =
    let rows = c.args.self.now.rows.items in
    let is_row = λ (w : WeightRow). same_path w.role c.args.role.now in
    let at = c.in-Some.ensures ∙ ap (position is_row) c.deref.ensures.value in
    weights-set c.args.role.now c.args.weight rows c.in-Some.at c.index_mut-row.result.now at c.index_mut-row.ensures.value

pub returns-in_ok-push-in-None-clause-ok : goal.returns-in_ok-push-in-None-clause-ok
returns-in_ok-push-in-None-clause-ok c =
    let rows = c.args.self.now.rows.items in
    let is_row = λ (w : WeightRow). same_path w.role c.args.role.now in
    let none = position-none is_row rows (c.in-None.ensures ∙ ap (position is_row) c.deref.ensures.value) in
    c.in_ok-push-in-None.ensures.items
    ∙ (λ j. rows ++ record { role = c.in_ok-role-in-None.ensures j; weight = c.args.weight } ∷ [])
    ∙ weights-push c.args.role.now c.args.weight rows none
