use Rattle.std.proofs.Common.{◌+◌, ap, ◌∙◌, List}
use Rattle.drf_bundle.specs.Quantities.{amount_of}
use Rattle.drf_bundle.specs.declared.quantities.Entry.{Entry}
use Rattle.drf_gates.specs.quota.Allowance.{one_entry}
use Rattle.drf_gates.proofs.quota.Total.{entry_added}
use Rattle.drf_gates.proofs.quota.totals.add_entry.Goals as goal

-- the label had an entry
pub returns-then-add_to_named : goal.returns-then-add_to_named
returns-then-add_to_named c done label =
    entry_added c.args.sum.now c.add_to_named.new.self c.args.more.now c.thousandths-thousandths.result c.thousandths-thousandths.ensures
    (c.add_to_named.ensures.ok c.if-add_to_named.true) label

-- making room changed no amount
pub returns : goal.returns
returns c done label =
    entry_added c.make_room.new.sum c.add_to.new.self c.args.more.now c.thousandths-thousandths.result c.thousandths-thousandths.ensures (c.add_to.ensures.ok done) label
    ∙ ap (λ n. n + amount_of (one_entry c.args.more.now.label c.args.more.now.amount) label)
    (c.make_room.ensures label ∙ ap (λ (es : List Entry). amount_of es label) (c.add_to_named.ensures.not c.if-add_to_named.false))
