use Rattle.std.proofs.Common.{◌≤◌, ◌<◌, None, [], length, take, refl, ap, arith}
use Rattle.std.proofs.KnownBytes.{Consumes-nil, Keeps-refl}
use Rattle.std.proofs.lemmas.List.{length-take-le}
use Rattle.std.proofs.lemmas.Result.{err_from_is_err_and}
use Rattle.drf_journal.specs.declared.fault.RunFault.TheVariants.{Memory}
use Rattle.drf_lint.specs.Lint.{Lint, lint_of}
use Rattle.drf_lint.proofs.Pieces.{Laws, judged-nothing, or_false, stopped-memory}
use Rattle.drf_lint.proofs.Streams.{cause-moved, linted-close_stops, linted-closed, linted-stops, linted-unread, linting-begins, linting-takes}
use Rattle.drf_lint.proofs.stream.lint.Goals as goal

pub returns-in_err-buffer-clause-linted : goal.returns-in_err-buffer-clause-linted
returns-in_err-buffer-clause-linted g c =
    let p = err_from_is_err_and c.from_residual.result c.from_residual.ensures.1 in
    let old = c.args.linter.now in
    let laws : Laws = record { feed = c.line_law.ensures.feed; within = c.line_law.ensures.within; stay = c.line_law.ensures.ended } in
    rw (p.1, p.2)
    (linted-stops laws old.write _ _ _ _ _ _ _ _ _ (lint_of old) (linting-begins old.write (lint_of old) _ _ _ c.requires.linter) Memory [] (omega arith)
    (Consumes-nil _) (stopped-memory laws [] (lint_of old) _ _ _ _ (judged-nothing _ _)))

pub loop-turn-init : goal.loop-turn-init
loop-turn-init g c =
    let lines = ap (λ (l : Lint). l.lines) c.requires.linter in
    let faults = ap (λ (l : Lint). l.faults) c.requires.linter in
    record {
      laws = record { feed = c.line_law.ensures.feed; within = c.line_law.ensures.within; stay = c.line_law.ensures.ended };
      linting = linting-begins c.args.linter.now.write (lint_of c.args.linter.now) _ _ _ c.requires.linter;
      reads = c.requires.reader.0;
      sound = c.requires.reader.1;
      writer_sound = c.requires.writer.1;
      errors_sound = c.requires.errors.1;
      flushed = λ begun. begun;
      errors_flushed = λ begun. begun;
      chunk = let a = c.as_mut_slice-chunk.ensures.len in let b = c.in_ok-buffer.ensures.len in omega arith;
      few = omega arith;
      counted = omega arith;
    }

pub returns-in_default-clause-linted : goal.returns-in_default-clause-linted
returns-in_default-clause-linted g c =
    linted-unread c.loop-turn.invariant.laws _ _ _ _ _ _ None _ _ None _ c.loop-turn.invariant.linting c.in_default.ensures.bytes

pub returns-in_err-close-clause-linted : goal.returns-in_err-close-clause-linted
returns-in_err-close-clause-linted g c =
    let p = err_from_is_err_and c.from_residual-in_err-close.result c.from_residual-in_err-close.ensures.1 in
    let bytes = rw c.if-count-eq0.true at c.in-Ok.ensures.bytes in
    let some : 0 < length c.read.new.buf = let a = c.read.auto.buf in let b = c.loop-turn.invariant.chunk in omega arith in
    rw (p.1, p.2)
    (linted-close_stops c.loop-turn.invariant.laws _ _ _ _ _ _ _ _ _ _ _ c.loop-turn.invariant.linting bytes.0 (bytes.1 refl some) _
    c.in_err-close.ensures.err)

pub returns-in_err-close-clause-cause : goal.returns-in_err-close-clause-cause
returns-in_err-close-clause-cause g c =
    let p = err_from_is_err_and c.from_residual-in_err-close.result c.from_residual-in_err-close.ensures.1 in
    let now = c.loop-turn.invariant in
    rw (p.1, p.2) (cause-moved _ _ _ _ (rw now.sound at c.in-Ok.ensures.failed) (c.in_err-close.ensures.cause now.writer_sound now.errors_sound))

pub returns-in_err-close-clause-flushed : goal.returns-in_err-close-clause-flushed
returns-in_err-close-clause-flushed g c = λ begun.
    let p = err_from_is_err_and c.from_residual-in_err-close.result c.from_residual-in_err-close.ensures.1 in
    rw (p.1, p.2) (c.in_err-close.ensures.flushed (c.loop-turn.invariant.flushed begun))

pub returns-in_err-close-clause-reported_flushed : goal.returns-in_err-close-clause-reported_flushed
returns-in_err-close-clause-reported_flushed g c = λ begun.
    let p = err_from_is_err_and c.from_residual-in_err-close.result c.from_residual-in_err-close.ensures.1 in
    rw (p.1, p.2) (c.in_err-close.ensures.reported_flushed (c.loop-turn.invariant.errors_flushed begun))

pub returns-then-count-eq0-clause-linted : goal.returns-then-count-eq0-clause-linted
returns-then-count-eq0-clause-linted g c =
    let bytes = rw c.if-count-eq0.true at c.in-Ok.ensures.bytes in
    let some : 0 < length c.read.new.buf = let a = c.read.auto.buf in let b = c.loop-turn.invariant.chunk in omega arith in
    rw c.faults.ensures
    (linted-closed c.loop-turn.invariant.laws _ _ _ _ _ _ _ _ _ _ _ c.loop-turn.invariant.linting bytes.0 (bytes.1 refl some)
    (lint_of c.close.new.self) c.in_ok-close.ensures.ok)

pub returns-then-count-eq0-clause-flushed : goal.returns-then-count-eq0-clause-flushed
returns-then-count-eq0-clause-flushed g c = λ begun. c.in_ok-close.ensures.flushed (c.loop-turn.invariant.flushed begun)

pub returns-then-count-eq0-clause-reported_flushed : goal.returns-then-count-eq0-clause-reported_flushed
returns-then-count-eq0-clause-reported_flushed g c = λ begun. c.in_ok-close.ensures.reported_flushed (c.loop-turn.invariant.errors_flushed begun)

pub returns-in_err-take-clause-linted : goal.returns-in_err-take-clause-linted
returns-in_err-take-clause-linted g c =
    let p = err_from_is_err_and c.from_residual-in_err-take.result c.from_residual-in_err-take.ensures.1 in
    let piece = take c.in-Ok.count c.read.new.buf in
    let short : length piece ≤ 65536 =
    let bound = c.in-Ok.ensures.bound in
    let whole = length-take-le c.in-Ok.count c.read.new.buf (omega arith) in
    let a = c.read.auto.buf in let b = c.loop-turn.invariant.chunk in omega arith in
    rw (p.1, p.2)
    (linted-stops c.loop-turn.invariant.laws _ _ _ _ _ _ _ _ _ _ _ c.loop-turn.invariant.linting _ piece short c.in-Ok.ensures.bytes.0
    c.in_err-take.ensures.err)

pub returns-in_err-take-clause-cause : goal.returns-in_err-take-clause-cause
returns-in_err-take-clause-cause g c =
    let p = err_from_is_err_and c.from_residual-in_err-take.result c.from_residual-in_err-take.ensures.1 in
    let now = c.loop-turn.invariant in
    rw (p.1, p.2) (cause-moved _ _ _ _ (rw now.sound at c.in-Ok.ensures.failed) (c.in_err-take.ensures.cause now.writer_sound now.errors_sound))

pub returns-in_err-take-clause-flushed : goal.returns-in_err-take-clause-flushed
returns-in_err-take-clause-flushed g c = λ begun.
    let p = err_from_is_err_and c.from_residual-in_err-take.result c.from_residual-in_err-take.ensures.1 in
    rw (p.1, p.2) (c.in_err-take.ensures.flushed (c.loop-turn.invariant.flushed begun))

pub returns-in_err-take-clause-reported_flushed : goal.returns-in_err-take-clause-reported_flushed
returns-in_err-take-clause-reported_flushed g c = λ begun.
    let p = err_from_is_err_and c.from_residual-in_err-take.result c.from_residual-in_err-take.ensures.1 in
    rw (p.1, p.2) (c.in_err-take.ensures.reported_flushed (c.loop-turn.invariant.errors_flushed begun))

pub loop-turn-preserved : goal.loop-turn-preserved
loop-turn-preserved g c =
    let piece = take c.in-Ok.count c.read.new.buf in
    let now = c.loop-turn.invariant in
    let next = c.in_ok-take.ensures in
    let sound = or_false _ _ (next.cause now.writer_sound now.errors_sound).1 in
    record {
      laws = now.laws;
      linting = linting-takes now.laws _ _ _ _ _ _ _ _ _ _ _ now.linting piece _ c.in-Ok.ensures.bytes.0 next.ok;
      reads = let a = c.in-Ok.ensures.calls in let b = now.reads in let d = c.loop-turn-test.true in omega arith;
      sound = rw now.sound at c.in-Ok.ensures.failed;
      writer_sound = sound.0;
      errors_sound = sound.1;
      flushed = λ begun. next.flushed (now.flushed begun);
      errors_flushed = λ begun. next.reported_flushed (now.errors_flushed begun);
      chunk = let a = c.read.auto.buf in let b = now.chunk in omega arith;
      few =
          let more = next.ok.few in
          let most : length piece ≤ 65536 =
          let bound = c.in-Ok.ensures.bound in
          let whole = length-take-le c.in-Ok.count c.read.new.buf (omega arith) in
          let a = c.read.auto.buf in let b = now.chunk in omega arith in
          let few = now.few in
          omega arith;
      counted = next.ok.counted;
    }

pub returns-clause-linted : goal.returns-clause-linted
returns-clause-linted g c =
    linted-unread c.loop-turn.invariant.laws _ _ _ _ _ _ None _ _ None _ c.loop-turn.invariant.linting (Keeps-refl _)
