use Rattle.std.proofs.Common.{sym, ap, ◌∙◌}
use Rattle.std.specs.Option.{option_copied}
use Rattle.drf_gates.proofs.quota.Total.{kept_is}
use Rattle.drf_gates.proofs.quota.totals.kept.Goals as goal

pub returns : goal.returns
returns c = λ used exact.
    c.get-2.ensures
    ∙ kept_is used c.args.totals.now.entries c.args.role.now c.in_ok-total.total.now c.args.label.now
    c.recall.ensures.right (sym c.get.ensures.value ∙ ap option_copied c.in_ok-total.was) c.if-not-total.false exact.exact
