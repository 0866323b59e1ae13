use Rattle.std.proofs.Common.{◌≡◌, ℕ, ◌+◌, ◌-◌, ◌≤◌, length, take, drop, ap, arith}
use Rattle.std.proofs.lemmas.Bool.Decides.{nat_tests}
use Rattle.std.proofs.lemmas.List.{take_all, length-drop, length-take-le}
use Rattle.std.proofs.lemmas.Result.{err_from_is_err_and}
use Rattle.drf_journal.specs.State.{State}
use Rattle.drf_journal.proofs.Parts.{sent-begins, sent-more, sent-whole, stopped-far}
use Rattle.drf_journal.proofs.Pieces.{few_lines}
use Rattle.drf_journal.proofs.Served.{flushed-stopped}
use Rattle.drf_journal.proofs.engine.reply_to_chunk.Goals as goal

pub loop-rest-init : goal.loop-rest-init
loop-rest-init g c = record { prefix = sent-begins _ _ _ c.requires.sent; few = omega arith; sound = λ e. e; flushed = λ e. e }

pub loop-rest-preserved : goal.loop-rest-preserved
loop-rest-preserved g c =
    let rest = c.loop-rest.rest.now in
    let count = c.in_ok-count.count in
    let next = c.reply_to_part.new.session in
    let tail : take (length rest - count) (drop count rest) ≡ drop count rest =
    take_all _ _ (simp length-drop (omega arith)) in
    let more : next.lines ≤ c.loop-rest.session.lines + count =
    let same = ap (λ (s : State). s.lines) c.in_ok-count.ensures.ok in
    let few = few_lines c.loop-rest.session (take count rest) in
    let prefix : length (take count rest) ≡ count = length-take-le count rest c.in_ok-count.ensures.part.0 in
    omega arith in
    rw tail (record {
      prefix = sent-more _ _ _ _ _ _ _ c.loop-rest.invariant.prefix next count c.in_ok-count.ensures.ok
          c.in_ok-count.ensures.sent;
      few = let few = c.loop-rest.invariant.few in let part = c.in_ok-count.ensures.part.0 in simp length-drop (omega arith);
      sound = λ sound. (c.in_ok-count.ensures.cause (c.loop-rest.invariant.sound sound)).1;
      flushed = λ begun. c.in_ok-count.ensures.flushed (c.loop-rest.invariant.flushed begun);
    })

pub returns-in_err-count-clause-err : goal.returns-in_err-count-clause-err
returns-in_err-count-clause-err g c =
    let p = err_from_is_err_and c.from_residual.result c.from_residual.ensures.1 in
    rw (p.1, p.2) (stopped-far _ _ _ _ _ _ _ c.loop-rest.invariant.prefix _ _ c.in_err-count.ensures.err)

pub returns-clause-ok : goal.returns-clause-ok
returns-clause-ok g c =
    let rest = c.loop-rest.rest.now in
    let none : length rest ≡ 0 = grind (arith, nat_tests) in
    (sent-whole _ _ _ rest _ _ c.loop-rest.invariant.prefix none).0

pub returns-clause-sent : goal.returns-clause-sent
returns-clause-sent g c =
    let rest = c.loop-rest.rest.now in
    let none : length rest ≡ 0 = grind (arith, nat_tests) in
    (sent-whole _ _ _ rest _ _ c.loop-rest.invariant.prefix none).1

pub returns-in_err-count-clause-flushed : goal.returns-in_err-count-clause-flushed
returns-in_err-count-clause-flushed g c = λ begun.
    let p = err_from_is_err_and c.from_residual.result c.from_residual.ensures.1 in
    rw (p.1, p.2) (flushed-stopped ℕ (Unit {0}) _ _ (c.in_err-count.ensures.flushed (c.loop-rest.invariant.flushed begun)))

pub returns-clause-flushed : goal.returns-clause-flushed
returns-clause-flushed g c = λ begun. c.loop-rest.invariant.flushed begun
