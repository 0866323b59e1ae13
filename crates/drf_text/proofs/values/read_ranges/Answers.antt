use Rattle.std.proofs.Common.{Err, Ok, Any, ◌<◌, ap, sym, subst}
use Rattle.std.proofs.lemmas.Result.{err_from_is_err_and}
use Rattle.drf_text.specs.Pieces.{parts_between}
use Rattle.drf_text.specs.Steps.{ranges_in}
use Rattle.drf_text.proofs.RangeLemmas.{numbers_of_pairs, in_order, ranges_refused}
use Rattle.drf_text.proofs.values.read_ranges.Goals as goal

pub returns-in_err-from_pairs : goal.returns-in_err-from_pairs
returns-in_err-from_pairs c =
    let p = err_from_is_err_and c.from_residual-in_err-from_pairs.result c.from_residual-in_err-from_pairs.ensures.1 in
    rw (p.1, p.2) (ranges_refused c.in_err-from_pairs.field-0.0 _
    (λ e. in_order (parts_between c.args.text.now) c.in_ok-pairs.pairs.items c.in_ok-pairs.ensures
    (subst (Any (λ pair. pair.1 < pair.0)) c.deref.ensures.value (c.in_err-from_pairs.ensures.backwards.0 (ap Err e)))))

pub returns : goal.returns
unfolding ranges_in
returns c =
    rw (c.in_ok-pairs.ensures) (ap Ok (sym (numbers_of_pairs c.in_ok-pairs.pairs.items c.in_ok-from_pairs.field-0
    (rw c.deref.ensures.value at c.in_ok-from_pairs.ensures.members))))
