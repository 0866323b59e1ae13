use Rattle.std.proofs.Common.{◌≡◌, List, ap, arith}
use Rattle.drf_bundle.specs.Quantities.{amount_of}
use Rattle.drf_bundle.specs.declared.quantities.Entry.{Entry}
use Rattle.drf_gates.proofs.quota.totals.keep_total.Goals as goal

pub returns : goal.returns
returns c =
    c.put_total.ensures c.args.used.now.entries (record {
      known = λ is right label.
          let none : amount_of c.empty-amounts.result label ≡ 0 = ap (λ (es : List Entry). amount_of es label) c.empty-amounts.ensures in
          omega (arith, c.add_used-is_known.ensures is label, none);
    })
