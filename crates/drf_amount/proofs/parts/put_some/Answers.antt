use Rattle.std.proofs.Common.{◌+◌, take, length, sym, ap, ◌∙◌, arith}
use Rattle.std.proofs.Math.Seq.{take-append_seam}
use Rattle.drf_amount.specs.Pool.{numbered}
use Rattle.drf_amount.proofs.Split.{put_more, numbers_more}
use Rattle.drf_amount.proofs.parts.put_some.Goals as goal

pub returns-in_err-push-clause-before : goal.returns-in_err-push-clause-before
returns-in_err-push-clause-before g c =
    let start = c.args.parts.now.entries in
    let more = put_more start c.loop-amount.parts.entries c.insert.new.self.entries c.args.first c.loop-amount.amount-index c.loop-amount.number c.args.amounts.now c.amount-item.result c.in_ok-copy.field-0 c.loop-amount-test.true (sym c.amount-item.is) c.requires.rise c.loop-amount.invariant.number c.loop-amount.invariant.parts c.in_ok-copy.ensures.same c.in_ok-insert.ensures.entries in
    ap (take (length start)) more ∙ take-append_seam start (numbered c.args.first (take (c.loop-amount.amount-index + 1) c.args.amounts.now))

pub loop-amount-preserved : goal.loop-amount-preserved
loop-amount-preserved g c = record {
  number = omega arith;
  parts = put_more c.args.parts.now.entries c.loop-amount.parts.entries c.insert.new.self.entries c.args.first c.loop-amount.amount-index c.loop-amount.number c.args.amounts.now c.amount-item.result c.in_ok-copy.field-0 c.loop-amount-test.true (sym c.amount-item.is) c.requires.rise c.loop-amount.invariant.number c.loop-amount.invariant.parts c.in_ok-copy.ensures.same c.in_ok-insert.ensures.entries;
  numbers = numbers_more c.loop-amount.numbers.items c.push.new.self.items c.args.first c.loop-amount.amount-index c.loop-amount.number c.args.amounts.now c.amount-item.result c.loop-amount-test.true (sym c.amount-item.is) c.loop-amount.invariant.number c.loop-amount.invariant.numbers c.in_ok-push.ensures.items;
}
