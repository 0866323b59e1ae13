use Rattle.std.proofs.Common.{◌≡◌, ◌+◌, refl, arith}
use Rattle.std.proofs.lemmas.List.{drop_all}
use Rattle.drf_bundle.specs.Quantities.{amount_of, with_amount}
use Rattle.drf_bundle.proofs.ChangeLemmas.{sum_fits, added_whole, added_fits, added_in_order, named_now, named_on}
use Rattle.drf_bundle.proofs.quantities.Quantities.raise.Goals as goal

pub loop-entry-init : goal.loop-entry-init
loop-entry-init c = rw c.entries-entry-items.ensures.value (record {
  whole = refl;
  fits = c.requires.fits;
  in_order = c.entries-entry-items.ensures.in_order;
  named = c.requires.named;
})

pub raise_one-requires-clause-named : goal.raise_one-requires-clause-named
raise_one-requires-clause-named c =
    named_now c.loop-entry.self _ _ _ c.loop-entry-test.true c.entry-item.is c.loop-entry.invariant.named

pub raise_one-requires-clause-fits : goal.raise_one-requires-clause-fits
raise_one-requires-clause-fits c =
    let fits = sum_fits _ _ _ _ c.loop-entry-test.true c.entry-item.is c.loop-entry.invariant.fits in
    omega (arith, fits, c.thousandths.ensures)

pub loop-entry-preserved : goal.loop-entry-preserved
loop-entry-preserved c =
    let e = c.entry-item.result in
    let made : c.raise_one.new.self ≡ with_amount c.loop-entry.self e.label (amount_of c.loop-entry.self e.label + e.amount) = cc (c.raise_one.ensures, c.thousandths.ensures) in
    let so_far = c.loop-entry.invariant in
    rw made (record {
      whole = added_whole _ _ _ _ c.loop-entry-test.true c.entry-item.is _ so_far.whole;
      fits = added_fits _ _ _ _ c.loop-entry-test.true c.entry-item.is so_far.in_order so_far.fits;
      in_order = added_in_order c.loop-entry.self _ _ _ c.loop-entry-test.true c.entry-item.is so_far.in_order;
      named = named_on c.loop-entry.self _ _ _ c.loop-entry-test.true c.entry-item.is so_far.named;
    })

pub returns : goal.returns
returns c = rw (drop_all _ _ c.loop-entry-test.false) at c.loop-entry.invariant.whole
