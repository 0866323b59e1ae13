use Rattle.std.proofs.Common.{List, sym, subst}
use Rattle.drf_bundle.specs.declared.quantities.Entry.{Entry}
use Rattle.drf_gates.specs.quota.Totals.{IsExact}
use Rattle.drf_gates.proofs.quota.totals.copy_total.Goals as goal

pub returns : goal.returns
returns c = λ used its.
    c.put_total.ensures used
    (subst (λ (es : List Entry). IsExact used c.args.role.now (record { is_known = c.args.total.now.is_known; amounts = es })) (sym c.in-Ok.ensures) its)
