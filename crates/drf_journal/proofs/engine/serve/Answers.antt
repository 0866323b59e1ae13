use Rattle.std.proofs.Common.{ℕ, ◌<◌, ◌≤◌, [], length, take, refl, ap, ◌∙◌, arith}
use Rattle.std.proofs.lemmas.Result.{err_from_is_err_and}
use Rattle.std.proofs.lemmas.List.{length-take-le}
use Rattle.std.proofs.KnownBytes.{Keeps-refl}
use Rattle.drf_journal.specs.State.{State}
use Rattle.drf_journal.proofs.Pieces.{few_lines}
use Rattle.drf_journal.proofs.Served.{serving-begins, never-served, serving-takes, run-unread, run-forgotten, run-unwritten, run-ends, run-stops, cause-stopped, flushed-stopped}
use Rattle.drf_journal.proofs.engine.serve.Goals as goal

pub returns-in_err-buffer-clause-served : goal.returns-in_err-buffer-clause-served
returns-in_err-buffer-clause-served g c =
    let p = err_from_is_err_and c.from_residual.result c.from_residual.ensures.1 in
    rw (p.1, p.2) (never-served _ c.requires.session _ _)

pub loop-turn-init : goal.loop-turn-init
loop-turn-init g c = record {
  serving = serving-begins _ c.requires.session _ _;
  reads = c.requires.reader.0;
  reader_sound = c.requires.reader.1;
  writer_sound = c.requires.writer.1;
  flushed = λ e. e;
  chunk = let a = c.as_mut_slice-chunk.ensures.len in let b = c.in_ok-buffer.ensures.len in omega arith;
  few = let none = ap (λ (s : State). s.lines) c.requires.session in omega arith;
}

pub returns-in_default-clause-served : goal.returns-in_default-clause-served
returns-in_default-clause-served g c =
    run-unread _ c.requires.session _ _ _ _ _ (g.W.Write.contents c.loop-turn.writer.inner) _ c.loop-turn.invariant.serving
    c.in_default.ensures.bytes

pub returns-in_default-clause-reads : goal.returns-in_default-clause-reads
returns-in_default-clause-reads g c =
    let a = c.in_default.ensures.calls in let b = c.loop-turn.invariant.reads in let d = c.loop-turn-test.true in
    omega arith

pub returns-in_err-close-clause-served : goal.returns-in_err-close-clause-served
returns-in_err-close-clause-served g c =
    let p = err_from_is_err_and c.from_residual-in_err-close.result c.from_residual-in_err-close.ensures.1 in
    let bytes = rw c.if-count-eq0.true at c.in-Ok.ensures.bytes in
    let some : 0 < length c.read.new.buf = let a = c.read.auto.buf in let b = c.loop-turn.invariant.chunk in
    omega arith in
    let same = c.in_err-close.ensures.err in
    rw (p.1, p.2) (run-forgotten _ c.requires.session _ _ _ _ _
    (g.W.Write.contents c.loop-turn.writer.inner) _ c.loop-turn.invariant.serving bytes.0 c.close.new.self
    (bytes.1 refl some) same.1 c.in_err-close.ensures.taken)

pub returns-in_err-close-clause-cause : goal.returns-in_err-close-clause-cause
returns-in_err-close-clause-cause g c =
    let p = err_from_is_err_and c.from_residual-in_err-close.result c.from_residual-in_err-close.ensures.1 in
    rw (p.1, p.2) (rw c.loop-turn.invariant.reader_sound at c.in-Ok.ensures.failed, c.loop-turn.invariant.writer_sound)

pub returns-in_err-send-clause-served : goal.returns-in_err-send-clause-served
returns-in_err-send-clause-served g c =
    let p = err_from_is_err_and c.from_residual-in_err-send.result c.from_residual-in_err-send.ensures.1 in
    let bytes = rw c.if-count-eq0.true at c.in-Ok.ensures.bytes in
    let some : 0 < length c.read.new.buf = let a = c.read.auto.buf in let b = c.loop-turn.invariant.chunk in
    omega arith in
    let sent = rw c.in_ok-close.ensures.ok at c.in_err-send.ensures.err in
    rw (p.1, p.2, c.in_err-send.ensures.fault)
    (run-unwritten _ c.requires.session _ _ _ _ _ _ _ c.loop-turn.invariant.serving bytes.0 _ (bytes.1 refl some)
    (c.in_err-send.ensures.kept ∙ c.in_ok-close.ensures.ok) sent)

pub returns-in_err-send-clause-cause : goal.returns-in_err-send-clause-cause
returns-in_err-send-clause-cause g c =
    let p = err_from_is_err_and c.from_residual-in_err-send.result c.from_residual-in_err-send.ensures.1 in
    rw (p.1, p.2, c.in_err-send.ensures.fault) (
      rw c.loop-turn.invariant.reader_sound at c.in-Ok.ensures.failed,
      c.in_err-send.ensures.failed c.loop-turn.invariant.writer_sound,
    )

pub returns-then-count-eq0-clause-served : goal.returns-then-count-eq0-clause-served
returns-then-count-eq0-clause-served g c =
    let bytes = rw c.if-count-eq0.true at c.in-Ok.ensures.bytes in
    let some : 0 < length c.read.new.buf = let a = c.read.auto.buf in let b = c.loop-turn.invariant.chunk in
    omega arith in
    let sent = rw c.in_ok-close.ensures.ok at c.in_ok-send.ensures.sent in
    let next = c.in_ok-send.ensures.ok ∙ ap (λ (s : State). record s { unsent = [] }) c.in_ok-close.ensures.ok in
    run-ends _ c.requires.session _ _ _ _ _ _ _ c.loop-turn.invariant.serving bytes.0 _ c.lines.result (bytes.1 refl some)
    next sent c.lines.ensures

pub returns-then-count-eq0-clause-read : goal.returns-then-count-eq0-clause-read
returns-then-count-eq0-clause-read g c =
    let bytes = rw c.if-count-eq0.true at c.in-Ok.ensures.bytes in
    let some : 0 < length c.read.new.buf = let a = c.read.auto.buf in let b = c.loop-turn.invariant.chunk in
    omega arith in
    bytes.1 refl some

pub returns-in_err-reply_to_chunk-clause-served : goal.returns-in_err-reply_to_chunk-clause-served
returns-in_err-reply_to_chunk-clause-served g c =
    let p = err_from_is_err_and c.from_residual-in_err-reply_to_chunk.result c.from_residual-in_err-reply_to_chunk.ensures.1 in
    let piece = take c.in-Ok.count c.read.new.buf in
    let short : length piece ≤ 65536 =
    let bound = c.in-Ok.ensures.bound in
    let whole = length-take-le c.in-Ok.count c.read.new.buf (omega arith) in
    let a = c.read.auto.buf in let b = c.loop-turn.invariant.chunk in omega arith in
    rw (p.1, p.2)
    (run-stops _ c.requires.session _ _ _ _ _ _ _ c.loop-turn.invariant.serving _ piece _ short c.in-Ok.ensures.bytes.0
    c.in_err-reply_to_chunk.ensures.err)

pub returns-in_err-reply_to_chunk-clause-cause : goal.returns-in_err-reply_to_chunk-clause-cause
returns-in_err-reply_to_chunk-clause-cause g c =
    let p = err_from_is_err_and c.from_residual-in_err-reply_to_chunk.result c.from_residual-in_err-reply_to_chunk.ensures.1 in
    rw (p.1, p.2)
    (cause-stopped _ _ _ _ (rw c.loop-turn.invariant.reader_sound at c.in-Ok.ensures.failed)
    (c.in_err-reply_to_chunk.ensures.cause c.loop-turn.invariant.writer_sound))

pub returns-in_err-close-clause-flushed : goal.returns-in_err-close-clause-flushed
returns-in_err-close-clause-flushed g c = λ begun.
    let p = err_from_is_err_and c.from_residual-in_err-close.result c.from_residual-in_err-close.ensures.1 in
    rw (p.1, p.2) (c.loop-turn.invariant.flushed begun)

pub returns-in_default-clause-flushed : goal.returns-in_default-clause-flushed
returns-in_default-clause-flushed g c = λ begun. c.loop-turn.invariant.flushed begun

pub returns-then-count-eq0-clause-flushed : goal.returns-then-count-eq0-clause-flushed
returns-then-count-eq0-clause-flushed g c = λ begun. c.in_ok-send.ensures.flushed (c.loop-turn.invariant.flushed begun)

pub returns-clause-flushed : goal.returns-clause-flushed
returns-clause-flushed g c = λ begun. c.loop-turn.invariant.flushed begun

pub returns-in_err-reply_to_chunk-clause-flushed : goal.returns-in_err-reply_to_chunk-clause-flushed
returns-in_err-reply_to_chunk-clause-flushed g c = λ begun.
    let p = err_from_is_err_and c.from_residual-in_err-reply_to_chunk.result c.from_residual-in_err-reply_to_chunk.ensures.1 in
    rw (p.1, p.2)
    (flushed-stopped (Unit {0}) ℕ _ _ (c.in_err-reply_to_chunk.ensures.flushed (c.loop-turn.invariant.flushed begun)))

pub loop-turn-preserved : goal.loop-turn-preserved
loop-turn-preserved g c =
    let piece = take c.in-Ok.count c.read.new.buf in
    let sent = c.in_ok-reply_to_chunk.ensures.sent in
    let next = c.in_ok-reply_to_chunk.ensures.ok in
    record {
      serving = serving-takes _ c.requires.session _ _ _ _ _ _ _ c.loop-turn.invariant.serving piece _
          c.in-Ok.ensures.bytes.0 sent next;
      reads = let a = c.in-Ok.ensures.calls in let b = c.loop-turn.invariant.reads in let d = c.loop-turn-test.true in
          omega arith;
      reader_sound = rw c.loop-turn.invariant.reader_sound at c.in-Ok.ensures.failed;
      writer_sound = (c.in_ok-reply_to_chunk.ensures.cause c.loop-turn.invariant.writer_sound).1;
      flushed = λ begun. c.in_ok-reply_to_chunk.ensures.flushed (c.loop-turn.invariant.flushed begun);
      chunk = let a = c.read.auto.buf in let b = c.loop-turn.invariant.chunk in omega arith;
      few =
          let same = ap (λ (s : State). s.lines) next in
          let more = few_lines c.loop-turn.session piece in
          let most : length piece ≤ 65536 =
          let bound = c.in-Ok.ensures.bound in
          let whole = length-take-le c.in-Ok.count c.read.new.buf (omega arith) in
          let a = c.read.auto.buf in let b = c.loop-turn.invariant.chunk in omega arith in
          let few = c.loop-turn.invariant.few in
          omega arith;
    }

pub returns-clause-served : goal.returns-clause-served
returns-clause-served g c = run-unread _ c.requires.session _ _ _ _ _
    (g.W.Write.contents c.loop-turn.writer.inner) _ c.loop-turn.invariant.serving (Keeps-refl _)
