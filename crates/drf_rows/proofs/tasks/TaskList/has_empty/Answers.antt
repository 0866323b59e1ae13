use Rattle.std.proofs.Common.{List, sym, ap, ◌∙◌}
use Rattle.std.specs.List.{list_any}
use Rattle.drf_bundle.specs.declared.resource.Resource.{Resource}
use Rattle.drf_bundle.proofs.ListLaws.{list_any-map}
use Rattle.drf_rows.specs.Offers.{is_empty}
use Rattle.drf_rows.specs.Tasks.{Start}
use Rattle.drf_rows.proofs.tasks.TaskList.has_empty.Goals as goal

pub returns : goal.returns
returns c =
    let Empty : List Start → _ = list_any (λ (s : Start). is_empty s.1) in
    c.has_empty.ensures ∙ ap Empty (c.deref.ensures.value ∙ c.self.view_is)
    ∙ sym (list_any-map (λ (rs : List Resource). is_empty rs) (λ (s : Start). s.1) c.args.self.now)
