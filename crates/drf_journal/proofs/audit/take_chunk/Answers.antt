use Rattle.std.proofs.Common.{◌≡◌, ◌+◌, ◌-◌, ◌≤◌, [], None, length, take, drop, ap, ◌∙◌, arith}
use Rattle.std.proofs.lemmas.Bool.Decides.{nat_tests}
use Rattle.std.proofs.lemmas.List.{take_all, length-drop, length-take-le}
use Rattle.drf_journal.specs.State.{State}
use Rattle.drf_journal.proofs.Parts.{sent-begins, sent-more, sent-whole}
use Rattle.drf_journal.proofs.Pieces.{few_lines}
use Rattle.drf_journal.proofs.audit.take_chunk.Goals as goal

pub loop-rest-init : goal.loop-rest-init
loop-rest-init g c = record { prefix = sent-begins _ _ None c.requires.sent; few = omega arith }

pub loop-rest-preserved : goal.loop-rest-preserved
loop-rest-preserved g c =
    let rest = c.loop-rest.rest.now in
    let count = c.in_ok-count.count in
    let next = c.forget.new.self in
    let is = c.forget.ensures ∙ ap (λ (s : State). record s { unsent = [] }) c.in_ok-count.ensures.ok in
    let tail : take (length rest - count) (drop count rest) ≡ drop count rest =
    take_all _ _ (simp length-drop (omega arith)) in
    let more : next.lines ≤ c.loop-rest.session.lines + count =
    let same = ap (λ (s : State). s.lines) is in
    let few = few_lines c.loop-rest.session (take count rest) in
    let prefix : length (take count rest) ≡ count = length-take-le count rest c.in_ok-count.ensures.part.0 in
    omega arith in
    rw tail (record {
      prefix = sent-more _ _ _ _ None None None c.loop-rest.invariant.prefix next count is tt;
      few = let few = c.loop-rest.invariant.few in let part = c.in_ok-count.ensures.part.0 in simp length-drop (omega arith);
    })

pub returns : goal.returns
returns g c =
    let rest = c.loop-rest.rest.now in
    let none : length rest ≡ 0 = grind (arith, nat_tests) in
    (sent-whole _ _ _ rest None None c.loop-rest.invariant.prefix none).0
