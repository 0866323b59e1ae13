use Rattle.std.proofs.Common.{List, sym, ap, ◌∙◌}
use Rattle.drf_bundle.specs.Quantities.{amount_of}
use Rattle.drf_bundle.specs.declared.quantities.Entry.{Entry}
use Rattle.drf_gates.proofs.quota.Resources.{sums-unreserved}
use Rattle.drf_gates.proofs.quota.consumed.sums_if_unreserved.Goals as goal

pub returns : goal.returns
returns c = λ label.
    ap (λ (es : List Entry). amount_of es label) c.quantities.ensures.value
    ∙ sums-unreserved c.args.bundle.now label (sym c.is_unreserved.ensures ∙ c.if-not-is_unreserved.false)
