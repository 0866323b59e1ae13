use Rattle.std.proofs.Common.{◌≡◌, List, ap, false, sym, ◌∙◌}
use Rattle.drf_tree.proofs.Names.{is_named, with_amount, Entry}
use Rattle.drf_tree.proofs.change.Label.{named_few, named_now, named_still, named_zero}
use Rattle.drf_tree.proofs.charge.name.Goals as goal

pub returns-clause-same : goal.returns-clause-same
returns-clause-same c other =
    let made : c.set.new.self ≡ with_amount c.args.held.now c.args.label.now 0 = cc (c.in_ok-set.ensures.ok, c.in_ok-copy.ensures) in
    let missing : is_named c.args.held.now c.args.label.now ≡ false =
    ap (is_named c.args.held.now) (sym c.text.ensures.text) ∙ sym c.is_named.ensures ∙ c.if-is_named.false in
    rw made (named_zero c.args.held.now c.args.label.now missing other)

pub returns-clause-named : goal.returns-clause-named
returns-clause-named c =
    let made : c.set.new.self ≡ with_amount c.args.held.now c.args.label.now 0 = cc (c.in_ok-set.ensures.ok, c.in_ok-copy.ensures) in
    rw made (named_now c.args.held.now c.args.label.now)

pub returns-clause-stay : goal.returns-clause-stay
returns-clause-stay c other named =
    let made : c.set.new.self ≡ with_amount c.args.held.now c.args.label.now 0 = cc (c.in_ok-set.ensures.ok, c.in_ok-copy.ensures) in
    rw made (named_still c.args.held.now c.args.label.now other named)

pub returns-clause-few : goal.returns-clause-few
returns-clause-few c other named =
    let made : c.set.new.self ≡ with_amount c.args.held.now c.args.label.now 0 = cc (c.in_ok-set.ensures.ok, c.in_ok-copy.ensures) in
    named_few c.args.held.now c.args.label.now other (ap (λ (es : List Entry). is_named es other) (sym made) ∙ named)
