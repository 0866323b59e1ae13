use Rattle.std.proofs.Common.{◌≡◌, List, not, nat_lt, length, ◌&&◌, ◌||◌, ap, ◌∙◌}
use Rattle.std.specs.Prelude.{nat_le}
use Rattle.drf_bundle.specs.declared.quantities.Entry.{Entry}
use Rattle.drf_rows.specs.Offers.{is_empty}
use Rattle.drf_rows.specs.Quota.{has_limit}
use Rattle.drf_core.proofs.refusing.Tests.{no_length, too_many_rows}
use Rattle.drf_core.proofs.refusal.too_many_limits.Goals as goal

pub returns : goal.returns
returns c =
    let limits = c.args.limits.now in
    let rows = c.args.tables.now.rows in
    let entries : c.entries-entries.result.now ≡ c.args.limit.now = c.entries-entries.ensures.value in
    let empty : c.is_empty.result ≡ is_empty c.args.limit.now =
    c.is_empty.ensures ∙ no_length c.entries-entries.result.now ∙ ap (λ (es : List Entry). is_empty es) entries in
    (λ i. ((not (empty i) && not (c.has_limit.ensures i)) && nat_le (c.limits.ensures.value i) (c.limit_count.ensures i))
    || nat_lt (c.scalar_names.ensures.value i) (length (entries i)))
    ∙ too_many_rows (is_empty c.args.limit.now) (has_limit rows c.args.role.now) (nat_lt limits.scalar_names (length c.args.limit.now)) limits.limits (length rows.limits)
