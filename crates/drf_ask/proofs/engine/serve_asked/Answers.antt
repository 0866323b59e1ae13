use Rattle.std.proofs.Common.{ℕ, ◌<◌, ◌≤◌, length, take, refl, ap, arith}
use Rattle.std.proofs.lemmas.Result.{err_from_is_err_and}
use Rattle.std.proofs.lemmas.List.{length-take-le}
use Rattle.std.proofs.KnownBytes.{Keeps-refl}
use Rattle.drf_ask.specs.Asking.{Asking}
use Rattle.drf_ask.proofs.Ends.{never-served, serving-begins, serving-takes, run-unread, run-ends, run-unclosed, run-stops, cause-stopped, flushed-stopped}
use Rattle.drf_ask.proofs.engine.serve_asked.Goals as goal

pub returns-in_err-buffer-clause-asked : goal.returns-in_err-buffer-clause-asked
returns-in_err-buffer-clause-asked g c =
    let p = err_from_is_err_and c.from_residual.result c.from_residual.ensures.1 in
    rw (p.1, p.2) (never-served _ _ _ _)

pub loop-turn-init : goal.loop-turn-init
loop-turn-init g c = record {
  laws = record {
    feed = c.line_law.ensures.feed;
    within = c.line_law.ensures.within;
    stay = c.line_law.ensures.ended;
    kept = c.line_law.ensures.kept;
    meaning = c.line_law.ensures.meaning;
    answer = c.line_law.ensures.answer;
  };
  serving = serving-begins _ c.requires.asking _ _;
  reads = c.requires.reader.0;
  reader_sound = c.requires.reader.1;
  writer_sound = c.requires.writer.1;
  flushed = λ e. e;
  chunk = let a = c.as_mut_slice-chunk.ensures.len in let b = c.in_ok-buffer.ensures.len in omega arith;
  few = let none = ap (λ (a : Asking). a.events) c.requires.asking in omega arith;
}

pub returns-in_default-clause-asked : goal.returns-in_default-clause-asked
returns-in_default-clause-asked g c =
    run-unread c.loop-turn.invariant.laws.stay _ _ _ _ _ _ (g.W.Write.contents c.loop-turn.writer.inner) _ c.loop-turn.invariant.serving c.in_default.ensures.bytes

pub returns-in_default-clause-reads : goal.returns-in_default-clause-reads
returns-in_default-clause-reads g c =
    let a = c.in_default.ensures.calls in let b = c.loop-turn.invariant.reads in let d = c.loop-turn-test.true in
    omega arith

pub returns-in_err-close-clause-asked : goal.returns-in_err-close-clause-asked
returns-in_err-close-clause-asked g c =
    let p = err_from_is_err_and c.from_residual-in_err-close.result c.from_residual-in_err-close.ensures.1 in
    let bytes = rw c.if-count-eq0.true at c.in-Ok.ensures.bytes in
    let some : 0 < length c.read.new.buf = let a = c.read.auto.buf in let b = c.loop-turn.invariant.chunk in
    omega arith in
    rw (p.1, p.2) (run-unclosed c.loop-turn.invariant.laws.stay _ _ _ _ _ _ _ _ c.loop-turn.invariant.serving bytes.0
    (bytes.1 refl some) _ c.in_err-close.ensures.err)

pub returns-in_err-close-clause-cause : goal.returns-in_err-close-clause-cause
returns-in_err-close-clause-cause g c =
    let p = err_from_is_err_and c.from_residual-in_err-close.result c.from_residual-in_err-close.ensures.1 in
    rw (p.1, p.2) (cause-stopped _ _ _ _ (rw c.loop-turn.invariant.reader_sound at c.in-Ok.ensures.failed)
    (c.in_err-close.ensures.cause c.loop-turn.invariant.writer_sound))

pub returns-in_err-close-clause-flushed : goal.returns-in_err-close-clause-flushed
returns-in_err-close-clause-flushed g c = λ begun.
    let p = err_from_is_err_and c.from_residual-in_err-close.result c.from_residual-in_err-close.ensures.1 in
    rw (p.1, p.2) (flushed-stopped (Unit {0}) ℕ _ _ (c.in_err-close.ensures.flushed (c.loop-turn.invariant.flushed begun)))

pub returns-then-count-eq0-clause-asked : goal.returns-then-count-eq0-clause-asked
returns-then-count-eq0-clause-asked g c =
    let bytes = rw c.if-count-eq0.true at c.in-Ok.ensures.bytes in
    let some : 0 < length c.read.new.buf = let a = c.read.auto.buf in let b = c.loop-turn.invariant.chunk in
    omega arith in
    run-ends c.loop-turn.invariant.laws.stay _ _ _ _ _ _ _ _ c.loop-turn.invariant.serving bytes.0 (bytes.1 refl some)
    c.close.new.self c.events.result c.events.ensures c.in_ok-close.ensures.ok

pub returns-then-count-eq0-clause-read : goal.returns-then-count-eq0-clause-read
returns-then-count-eq0-clause-read g c =
    let bytes = rw c.if-count-eq0.true at c.in-Ok.ensures.bytes in
    let some : 0 < length c.read.new.buf = let a = c.read.auto.buf in let b = c.loop-turn.invariant.chunk in
    omega arith in
    bytes.1 refl some

pub returns-in_err-take-clause-asked : goal.returns-in_err-take-clause-asked
returns-in_err-take-clause-asked g c =
    let p = err_from_is_err_and c.from_residual-in_err-take.result c.from_residual-in_err-take.ensures.1 in
    let piece = take c.in-Ok.count c.read.new.buf in
    let short : length piece ≤ 65536 =
    let bound = c.in-Ok.ensures.bound in
    let whole = length-take-le c.in-Ok.count c.read.new.buf (omega arith) in
    let a = c.read.auto.buf in let b = c.loop-turn.invariant.chunk in omega arith in
    rw (p.1, p.2)
    (run-stops c.loop-turn.invariant.laws.stay _ _ _ _ _ _ _ _ c.loop-turn.invariant.serving _ piece short c.in-Ok.ensures.bytes.0
    c.in_err-take.ensures.err)

pub returns-in_err-take-clause-cause : goal.returns-in_err-take-clause-cause
returns-in_err-take-clause-cause g c =
    let p = err_from_is_err_and c.from_residual-in_err-take.result c.from_residual-in_err-take.ensures.1 in
    rw (p.1, p.2)
    (cause-stopped _ _ _ _ (rw c.loop-turn.invariant.reader_sound at c.in-Ok.ensures.failed)
    (c.in_err-take.ensures.cause c.loop-turn.invariant.writer_sound))

pub returns-in_err-take-clause-flushed : goal.returns-in_err-take-clause-flushed
returns-in_err-take-clause-flushed g c = λ begun.
    let p = err_from_is_err_and c.from_residual-in_err-take.result c.from_residual-in_err-take.ensures.1 in
    rw (p.1, p.2) (flushed-stopped (Unit {0}) ℕ _ _ (c.in_err-take.ensures.flushed (c.loop-turn.invariant.flushed begun)))

pub returns-in_default-clause-flushed : goal.returns-in_default-clause-flushed
returns-in_default-clause-flushed g c = λ begun. c.loop-turn.invariant.flushed begun

pub returns-then-count-eq0-clause-flushed : goal.returns-then-count-eq0-clause-flushed
returns-then-count-eq0-clause-flushed g c = λ begun. c.in_ok-close.ensures.flushed (c.loop-turn.invariant.flushed begun)

pub returns-clause-flushed : goal.returns-clause-flushed
returns-clause-flushed g c = λ begun. c.loop-turn.invariant.flushed begun

pub loop-turn-preserved : goal.loop-turn-preserved
loop-turn-preserved g c =
    let piece = take c.in-Ok.count c.read.new.buf in
    record {
      laws = c.loop-turn.invariant.laws;
      serving = serving-takes c.loop-turn.invariant.laws.stay _ _ _ _ _ _ _ _ c.loop-turn.invariant.serving piece _
          c.in-Ok.ensures.bytes.0 c.in_ok-take.ensures.ok;
      reads = let a = c.in-Ok.ensures.calls in let b = c.loop-turn.invariant.reads in let d = c.loop-turn-test.true in
          omega arith;
      reader_sound = rw c.loop-turn.invariant.reader_sound at c.in-Ok.ensures.failed;
      writer_sound = (c.in_ok-take.ensures.cause c.loop-turn.invariant.writer_sound).1;
      flushed = λ begun. c.in_ok-take.ensures.flushed (c.loop-turn.invariant.flushed begun);
      chunk = let a = c.read.auto.buf in let b = c.loop-turn.invariant.chunk in omega arith;
      few =
          let more = c.in_ok-take.ensures.few in
          let most : length piece ≤ 65536 =
          let bound = c.in-Ok.ensures.bound in
          let whole = length-take-le c.in-Ok.count c.read.new.buf (omega arith) in
          let a = c.read.auto.buf in let b = c.loop-turn.invariant.chunk in omega arith in
          let few = c.loop-turn.invariant.few in
          omega arith;
    }

pub returns-clause-asked : goal.returns-clause-asked
returns-clause-asked g c =
    run-unread c.loop-turn.invariant.laws.stay _ _ _ _ _ _ (g.W.Write.contents c.loop-turn.writer.inner) _ c.loop-turn.invariant.serving (Keeps-refl _)
