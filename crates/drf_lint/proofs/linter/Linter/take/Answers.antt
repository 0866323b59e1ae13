use Rattle.std.proofs.Common.{◌≡◌, ℕ, ◌+◌, ◌-◌, ◌<◌, List, None, length, take, drop, refl, ap, arith}
use Rattle.std.proofs.lemmas.List.{take_all, length-drop}
use Rattle.std.proofs.lemmas.Result.{err_from_is_err_and}
use Rattle.drf_lint.specs.Lint.{Lint, lint_of}
use Rattle.drf_lint.proofs.Pieces.{prefix-begins, prefix-line, prefix-memory, prefix-rest, prefix-stopped, judged-nothing, or_false, or_none}
use Rattle.drf_lint.proofs.linter.Linter.take.Goals as goal

-- what remains after a byte
tail_of : (rest : List ℕ) (at : ℕ) → at < length rest → take (length rest - (at + 1)) (drop (at + 1) rest) ≡ drop (at + 1) rest
tail_of rest at inside = take_all _ _ (simp length-drop (omega arith))

pub loop-at-init : goal.loop-at-init
loop-at-init g c = record {
  laws = record { feed = c.line_law.ensures.feed; within = c.line_law.ensures.within; stay = c.line_law.ensures.ended };
  prefix = prefix-begins (lint_of c.args.self.now) c.args.piece.now _ _ c.requires.counted;
  few = omega arith;
  counted = c.requires.counted;
  sound = λ one other. (one, other);
  flushed = λ begun. begun;
  errors_flushed = λ begun. begun;
}

pub loop-at-preserved : goal.loop-at-preserved
loop-at-preserved g c =
    let rest = c.loop-at.rest.now in
    let at = c.in-Some.at in
    let found = c.in-Some.ensures.found in
    let now = c.loop-at.invariant in
    let ends = c.in_ok-end_line.ensures in
    let prefix = prefix-line c.loop-at.invariant.laws (lint_of c.args.self.now) (lint_of c.loop-at.self) c.args.piece.now rest _ _ _ _ _ _ now.prefix
    at (lint_of c.end_line.new.self) found.0 found.1 found.2 ends.ok in
    let left : length (drop (at + 1) rest) ≡ length rest - (at + 1) = length-drop (at + 1) rest in
    rw (tail_of rest at found.0) (record {
      laws = now.laws;
      prefix = prefix;
      few = let few = now.few in let lines = ap (λ (l : Lint). l.lines) ends.ok.new_is in omega arith;
      counted = prefix.taken.counted;
      sound = λ one other. let sound = now.sound one other in or_false _ _ (ends.cause sound.0 sound.1).1;
      flushed = λ begun. ends.flushed (now.flushed begun);
      errors_flushed = λ begun. ends.reported_flushed (now.errors_flushed begun);
    })

pub returns-in_err-end_line-clause-err : goal.returns-in_err-end_line-clause-err
returns-in_err-end_line-clause-err g c =
    let p = err_from_is_err_and c.from_residual.result c.from_residual.ensures.1 in
    let found = c.in-Some.ensures.found in
    rw (p.1, p.2)
    (prefix-stopped c.loop-at.invariant.laws (lint_of c.args.self.now) (lint_of c.loop-at.self) c.args.piece.now c.loop-at.rest.now _ _ _ _ _ _ c.loop-at.invariant.prefix
    _ c.in-Some.at found.0 found.1 found.2 c.in_err-end_line.ensures.err)

pub returns-in_err-end_line-clause-cause : goal.returns-in_err-end_line-clause-cause
returns-in_err-end_line-clause-cause g c = λ one other.
    let p = err_from_is_err_and c.from_residual.result c.from_residual.ensures.1 in
    let sound = c.loop-at.invariant.sound one other in
    rw (p.1, p.2) (c.in_err-end_line.ensures.cause sound.0 sound.1)

pub returns-in_err-keep-clause-err : goal.returns-in_err-keep-clause-err
returns-in_err-keep-clause-err g c =
    let p = err_from_is_err_and c.from_residual-in_err-keep.result c.from_residual-in_err-keep.ensures.1 in
    rw (p.1, p.2)
    (prefix-memory c.loop-at.invariant.laws (lint_of c.args.self.now) (lint_of c.loop-at.self) c.args.piece.now c.loop-at.rest.now _ _ _ _ _ _ c.loop-at.invariant.prefix
    (judged-nothing _ _))

pub returns-in_err-keep-clause-cause : goal.returns-in_err-keep-clause-cause
returns-in_err-keep-clause-cause g c = λ one other.
    let p = err_from_is_err_and c.from_residual-in_err-keep.result c.from_residual-in_err-keep.ensures.1 in
    let sound = c.loop-at.invariant.sound one other in
    rw (p.1, p.2) (refl, or_none _ _ sound.0 sound.1)

pub returns-clause-ok : goal.returns-clause-ok
returns-clause-ok g c =
    let now = c.loop-at.self in
    prefix-rest c.loop-at.invariant.laws (lint_of c.args.self.now) (lint_of now) c.args.piece.now c.loop-at.rest.now _ _ None _ _ None c.loop-at.invariant.prefix
    _ c.in_default.ensures.none
    (λ i. record { write = now.write; prefix = c.in_ok-keep.ensures i; lines = now.lines; faults = now.faults })

pub returns-clause-cause : goal.returns-clause-cause
returns-clause-cause g c = λ one other. let sound = c.loop-at.invariant.sound one other in (refl, or_none _ _ sound.0 sound.1)
