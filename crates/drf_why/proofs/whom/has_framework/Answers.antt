use Rattle.std.proofs.Common.{rules, tests, Bool, ap, ◌∙◌}
use Rattle.std.specs.List.{list_any}
use Rattle.std.proofs.lemmas.Iterator.{YieldsList-from_slice}
use Rattle.std.proofs.lemmas.Iterator.Search.{any_from_yields_List}
use Rattle.drf_role.specs.Text.{same_text}
use Rattle.drf_rows.specs.declared.rows.FrameworkRow.{FrameworkRow}
use Rattle.drf_why.proofs.whom.has_framework.Goals as goal

pub returns : goal.returns
returns c =
    let test : FrameworkRow → Bool = λ f. same_text f.name c.args.framework.now in
    any_from_yields_List test _ _ c.any.result c.any.ensures.ran (YieldsList-from_slice c.as_slice-frameworks.result.now c.iter.ensures.rest) (λ x b q k. search (rules, tests))
    ∙ ap (list_any test) c.as_slice-frameworks.ensures
