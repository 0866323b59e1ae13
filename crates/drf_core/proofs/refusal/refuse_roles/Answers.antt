use Rattle.std.proofs.Common.{◌∷◌, [], ap, ◌∙◌}
use Rattle.std.specs.Prelude.{not}
use Rattle.drf_rows.specs.Roles.{is_role_in_use}
use Rattle.drf_rows.specs.Step.{first_case, refusal_of}
use Rattle.drf_core.proofs.refusing.Tests.{empty_from}
use Rattle.drf_rows.specs.declared.reply.Refusal.TheVariants.{Empty, HistoryFull, RoleInUse, TooMany, UnknownFramework}
use Rattle.drf_core.proofs.refusal.refuse_roles.Goals as goal

pub returns : goal.returns
unfolding refusal_of
returns c =
    let empty = empty_from c.args.roles.now c.is_empty.result c.is_empty.ensures in
    let held = c.is_role_in_use.ensures ∙ ap (is_role_in_use c.args.tables.now.rows c.args.framework.now) c.as_slice.ensures in
    c.first_case.ensures
    ∙ (λ i. first_case ((c.is_full.ensures i, HistoryFull) ∷ (not (c.has_framework.ensures i), UnknownFramework) ∷ (empty i, Empty) ∷ (c.too_many_roles.ensures i, TooMany) ∷ (held i, RoleInUse) ∷ []))
