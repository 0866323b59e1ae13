use Rattle.std.proofs.Common.{sym, ap, ◌∙◌, not}
use Rattle.std.specs.Prelude.{◌&&◌}
use Rattle.std.proofs.lemmas.List.Folds.{list_all-map}
use Rattle.drf_role.specs.Text.{Text, same_text}
use Rattle.drf_rows.specs.Consistent.{are_distinct}
use Rattle.drf_rows.specs.Tasks.{Start, names_of}
use Rattle.drf_rows.proofs.tasks.+are_distinct.Goals as goal

pub returns : goal.returns
returns t c =
    let first : Start = c.in-Some.first.now in
    let others = c.in-Some.others.now in
    (λ i. c.is_new.ensures i && c.are_distinct.ensures i)
    ∙ ap (λ b. b && are_distinct (names_of others)) (sym (list_all-map (λ (text : Text). not (same_text first.0 text)) (λ (s : Start). s.0) others))
    ∙ sym (ap (λ starts. are_distinct (names_of starts)) c.in-Some.ensures.cases.0)
