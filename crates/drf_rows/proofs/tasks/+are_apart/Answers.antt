use Rattle.std.proofs.Common.{List, is_some, sym, ap, ◌∙◌}
use Rattle.std.specs.Prelude.{◌&&◌}
use Rattle.std.proofs.lemmas.List.Folds.{list_all-map}
use Rattle.drf_bundle.specs.Bundle.{join}
use Rattle.drf_bundle.specs.declared.resource.Resource.{Resource}
use Rattle.drf_rows.specs.TaskLaws.{are_apart}
use Rattle.drf_rows.specs.Tasks.{Start, uses}
use Rattle.drf_rows.proofs.tasks.+are_apart.Goals as goal

pub returns : goal.returns
returns t c =
    let first : Start = c.in-Some.first.now in
    let others = c.in-Some.others.now in
    (λ i. c.is_apart.ensures i && c.are_apart.ensures i)
    ∙ ap (λ b. b && are_apart (uses others)) (sym (list_all-map (λ (part : List Resource). is_some (join first.1 part)) (λ (s : Start). s.1) others))
    ∙ sym (ap (λ starts. are_apart (uses starts)) c.in-Some.ensures.cases.0)
