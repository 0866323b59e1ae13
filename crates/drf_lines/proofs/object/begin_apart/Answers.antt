use Rattle.std.proofs.Common.{◌≡◌, ◌+◌, ◌<◌, true, false, set, get_or, refl, sym, subst}
use Rattle.drf_lines.proofs.KeyStarts.{first, BeginApart, begun, gone_on, ended}
use Rattle.drf_lines.proofs.object.begin_apart.Goals as goal

pub loop-member-init : goal.loop-member-init
loop-member-init c = begun c.args.members.now _ refl

pub loop-member-preserved : goal.loop-member-preserved
loop-member-preserved c =
    let l = c.loop-member in
    let m = c.member-item.result in
    let place = c.first_byte-first.ensures in
    let byte : first m.0.now < 256 = subst (λ n. n < 256) place c.first_byte-first.type_inv in
    let new : get_or l.seen (first m.0.now) false ≡ false = subst (λ n. get_or l.seen n false ≡ false) place c.if-seen-first.false in
    subst (λ n. BeginApart c.args.members.now (set l.seen n true) (l.member-index + 1)) (sym place)
    (gone_on c.args.members.now l.seen l.member-index m c.loop-member-test.true c.member-item.is byte new l.invariant)

pub returns : goal.returns
returns c = λ _. ended c.args.members.now _ c.loop-member.member-index c.loop-member-test.false c.loop-member.invariant
