use Rattle.std.proofs.Common.{◌≡◌, List, ◌∷◌, [], not, ap, ◌∙◌}
use Rattle.drf_bundle.specs.declared.resource.Resource.{Resource}
use Rattle.drf_rows.specs.Offers.{is_empty}
use Rattle.drf_rows.specs.Step.{first_case}
use Rattle.drf_rows.specs.declared.reply.Refusal.TheVariants.{HistoryFull, UnknownAgent, DefaultRole, Empty, NotUnreserved}
use Rattle.drf_core.proofs.refusing.Tests.{default_from, no_length}
use Rattle.drf_core.proofs.refusal.refuse_move.Goals as goal

pub returns : goal.returns
returns c =
    let empty : c.is_empty.result ≡ is_empty c.args.resources.now =
    c.is_empty.ensures ∙ no_length c.entries.result.now ∙ ap (λ (rs : List Resource). is_empty rs) c.entries.ensures.value in
    let default = default_from c.args.role.now c.is_default.result c.is_default.ensures in
    c.first_case.ensures ∙ (λ i. first_case ((c.is_full.ensures i, HistoryFull) ∷ (not (c.has_agent.ensures i), UnknownAgent) ∷ (default i, DefaultRole) ∷ (empty i, Empty) ∷ (not (c.is_unreserved.ensures i), NotUnreserved) ∷ []))
