use Rattle.std.proofs.Common.{◌≡◌, get_or, sym, subst, rules}
use Rattle.std.proofs.lemmas.List.Elements.{All-more}
use Rattle.drf_amount.proofs.Split.{joined_all-more, join_all_fault}
use Rattle.drf_amount.proofs.parts.join_all.Goals as goal

pub returns-in_err-whole-clause-fault : goal.returns-in_err-whole-clause-fault
returns-in_err-whole-clause-fault g c =
    let is : get_or c.args.amounts.now c.loop-amount.amount-index c.amount-item.result ≡ c.amount-item.result = sym c.amount-item.is in
    let fault = join_all_fault g.A.Algebra.join g.A.Algebra.refusal g.A.Algebra.empty c.loop-amount.whole c.args.amounts.now c.loop-amount.amount-index c.amount-item.result c.in_err-whole.field-0.0 c.loop-amount-test.true is c.loop-amount.invariant.joined c.in_err-whole.ensures.fault in
    search (rules, fault)

pub loop-amount-preserved : goal.loop-amount-preserved
loop-amount-preserved g c =
    let is : get_or c.args.amounts.now c.loop-amount.amount-index c.amount-item.result ≡ c.amount-item.result = sym c.amount-item.is in
    record {
      given = All-more g.A.Algebra.is_given c.args.amounts.now c.loop-amount.amount-index c.amount-item.result c.loop-amount-test.true c.loop-amount.invariant.given (subst g.A.Algebra.is_given (sym is) c.in_ok-whole.ensures.given.1);
      joined = joined_all-more g.A.Algebra.join g.A.Algebra.empty c.loop-amount.whole c.in_ok-whole.whole c.args.amounts.now c.loop-amount.amount-index c.amount-item.result c.loop-amount-test.true is c.loop-amount.invariant.joined c.in_ok-whole.ensures.joined;
    }
