use Rattle.std.proofs.Common.{Bool, List, not, sym, ap, ◌∙◌}
use Rattle.std.specs.Prelude.{◌||◌}
use Rattle.std.specs.List.{list_all}
use Rattle.drf_rows.specs.Consistent.{are_distinct}
use Rattle.drf_rows.specs.Offers.{has_task}
use Rattle.drf_rows.specs.Tasks.{Start, names_of}
use Rattle.drf_core.proofs.refusing.Tests.{any_not}
use Rattle.drf_core.proofs.refusal.is_task_known.Goals as goal

pub returns : goal.returns
returns c =
    let tasks = c.args.tasks.now in
    let known : Start → Bool = λ s. has_task c.args.tables.now.rows c.args.framework.now s.0 in
    (λ i. not (c.are_new.ensures i) || not (c.are_distinct.ensures i))
    ∙ ap (λ (starts : List Start). not (list_all (λ s. not (known s)) starts) || not (are_distinct (names_of tasks))) c.as_slice.ensures.value
    ∙ ap (λ (b : Bool). b || not (are_distinct (names_of tasks))) (sym (any_not known tasks))
