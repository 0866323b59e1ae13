use Rattle.std.proofs.Common.{◌≡◌, ◌∷◌, [], length, nat_lt, ◌∙◌}
use Rattle.drf_bundle.specs.Quantities.{plus}
use Rattle.drf_rows.specs.Step.{first_case, too_many_names}
use Rattle.drf_rows.specs.Totals.{with_other_total}
use Rattle.drf_rows.specs.declared.reply.Refusal.TheVariants.{TooMany}
use Rattle.drf_rows.specs.declared.rows.Rows.{Rows}
use Rattle.drf_core.proofs.refusing.Late.{names-other_total}
use Rattle.drf_core.proofs.refusal.late.refuse_names.Goals as goal

pub returns : goal.returns
returns c =
    let limits = c.args.limits.now in
    let rows : Rows = c.args.tables.now.rows in
    let counted : nat_lt c.scalar_names.result c.count_with-names.result ≡ too_many_names limits (with_other_total rows c.args.agent.now c.args.total.now) =
    (λ i. nat_lt (c.scalar_names.ensures.value i) (c.count_with-names.ensures i))
    ∙ (λ i. nat_lt limits.scalar_names (length (plus (c.in_ok-others.ensures i) (c.quantities.ensures.value i))))
    ∙ names-other_total limits rows c.args.agent.now c.args.total.now c.requires.known c.requires.consistent c.requires.right c.quantities.ensures.bundle in
    c.first_case.ensures ∙ (λ i. first_case ((counted i, TooMany) ∷ []))
