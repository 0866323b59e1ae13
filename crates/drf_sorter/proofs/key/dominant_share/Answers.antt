use Rattle.std.proofs.Common.{◌≡◌, ◌-◌, length, ap, arith}
use Rattle.std.proofs.lemmas.List.{drop_all}
use Rattle.drf_sorter.specs.Share.{IsUnweighted}
use Rattle.drf_sorter.proofs.ShareLemmas.{max-more, amount_at}
use Rattle.drf_sorter.proofs.key.dominant_share.Goals as goal

pub loop-i-init : goal.loop-i-init
loop-i-init g c =
    let total = c.args.total.now in
    let n = length c.entries-entries.result.now in
    let long = ap length c.entries-entries.ensures.value in
    rw (drop_all n total (omega arith)) c.unweighted-dominant.ensures

pub unweighted-requires-clause-of_whole : goal.unweighted-requires-clause-of_whole
unweighted-requires-clause-of_whole g c =
    let total = c.args.total.now in
    let e = c.index-entries-i.result in
    let long = ap length c.entries-entries.ensures.value in
    let whole =
    amount_at total (c.loop-i.i - 1) e c.entries-entries.ensures.in_order (omega arith)
    (rw c.entries-entries.ensures.value at c.index-entries-i.is) in
    let held = g.H.Holding.held c.args.holding.now in
    let part : c.amount-part.result ≡ held e.label = c.amount-part.ensures in
    omega (arith, whole, part, c.thousandths-whole.ensures, c.requires.within e.label)

pub unweighted-requires-clause-fits : goal.unweighted-requires-clause-fits
unweighted-requires-clause-fits g c =
    let total = c.args.total.now in
    let e = c.index-entries-i.result in
    let long = ap length c.entries-entries.ensures.value in
    let whole =
    amount_at total (c.loop-i.i - 1) e c.entries-entries.ensures.in_order (omega arith)
    (rw c.entries-entries.ensures.value at c.index-entries-i.is) in
    omega (arith, whole, c.thousandths-whole.ensures, c.requires.fits e.label)

pub loop-i-preserved-then-whole-gt0 : goal.loop-i-preserved-then-whole-gt0
loop-i-preserved-then-whole-gt0 g c =
    let held = g.H.Holding.held c.args.holding.now in
    let total = c.args.total.now in
    let e = c.index-entries-i.result in
    let long = ap length c.entries-entries.ensures.value in
    let part : c.amount-part.result ≡ held e.label = c.amount-part.ensures in
    let new : IsUnweighted (record { part = held e.label; whole = e.amount }) c.unweighted.result =
    rw (part, c.thousandths-whole.ensures) at c.unweighted.ensures in
    rw c.max-dominant.ensures
    (max-more held total c.loop-i.i e (omega arith) (omega arith)
    (rw c.entries-entries.ensures.value at c.index-entries-i.is)
    c.loop-i.dominant c.unweighted.result (omega (arith, c.thousandths-whole.ensures)) c.loop-i.invariant new)

pub returns : goal.returns
returns g c =
    let done : c.loop-i.i ≡ 0 = omega arith in
    rw done at c.loop-i.invariant
