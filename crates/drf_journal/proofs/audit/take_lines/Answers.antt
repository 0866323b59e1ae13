use Rattle.std.proofs.Common.{◌<◌, ◌≤◌, [], None, length, take, refl, ap, arith}
use Rattle.std.proofs.KnownBytes.{Keeps-refl}
use Rattle.std.proofs.lemmas.List.{length-take-le}
use Rattle.std.proofs.lemmas.Result.{err_from_is_err_and}
use Rattle.drf_journal.specs.State.{State}
use Rattle.drf_journal.proofs.Audits.{lines-untaken, lines-unread, lines-stopped, lines-ended}
use Rattle.drf_journal.proofs.Pieces.{few_lines}
use Rattle.drf_journal.proofs.Served.{serving-begins, serving-takes}
use Rattle.drf_journal.proofs.audit.take_lines.Goals as goal

pub returns-in_err-buffer-clause-taken : goal.returns-in_err-buffer-clause-taken
returns-in_err-buffer-clause-taken g c =
    let p = err_from_is_err_and c.from_residual.result c.from_residual.ensures.1 in
    rw p.1 (lines-untaken _ _ _ p.0)

pub loop-turn-init : goal.loop-turn-init
loop-turn-init g c = record {
  serving = serving-begins _ c.requires.session _ None;
  reads = c.requires.reader.0;
  sound = c.requires.reader.1;
  chunk = let a = c.as_mut_slice-chunk.ensures.len in let b = c.in_ok-buffer.ensures.len in omega arith;
  few = let none = ap (λ (s : State). s.lines) c.requires.session in omega arith;
}

pub returns-in_default-clause-taken : goal.returns-in_default-clause-taken
returns-in_default-clause-taken g c =
    lines-unread _ c.requires.session _ _ _ _ c.loop-turn.invariant.serving _ _ c.in_default.ensures.bytes

pub returns-in_default-clause-reads : goal.returns-in_default-clause-reads
returns-in_default-clause-reads g c =
    let a = c.in_default.ensures.calls in let b = c.loop-turn.invariant.reads in let d = c.loop-turn-test.true in
    omega arith

pub returns-in_err-close-clause-taken : goal.returns-in_err-close-clause-taken
returns-in_err-close-clause-taken g c =
    let p = err_from_is_err_and c.from_residual-in_err-close.result c.from_residual-in_err-close.ensures.1 in
    let bytes = rw c.if-count-eq0.true at c.in-Ok.ensures.bytes in
    rw p.1 (lines-stopped _ c.requires.session _ _ _ _ c.loop-turn.invariant.serving _ p.0 [] bytes.0)

pub returns-in_err-close-clause-cause : goal.returns-in_err-close-clause-cause
returns-in_err-close-clause-cause g c =
    let p = err_from_is_err_and c.from_residual-in_err-close.result c.from_residual-in_err-close.ensures.1 in
    rw (p.1, p.2) (rw c.loop-turn.invariant.sound at c.in-Ok.ensures.failed, refl)

pub returns-then-count-eq0-clause-taken : goal.returns-then-count-eq0-clause-taken
returns-then-count-eq0-clause-taken g c =
    let bytes = rw c.if-count-eq0.true at c.in-Ok.ensures.bytes in
    let some : 0 < length c.read.new.buf = let a = c.read.auto.buf in let b = c.loop-turn.invariant.chunk in
    omega arith in
    lines-ended _ c.requires.session _ _ _ _ c.loop-turn.invariant.serving _ bytes.0 (bytes.1 refl some) c.in_ok-close.ensures.ok

pub returns-in_err-take_chunk-clause-taken : goal.returns-in_err-take_chunk-clause-taken
returns-in_err-take_chunk-clause-taken g c =
    let p = err_from_is_err_and c.from_residual-in_err-take_chunk.result c.from_residual-in_err-take_chunk.ensures.1 in
    rw p.1 (lines-stopped _ c.requires.session _ _ _ _ c.loop-turn.invariant.serving _ p.0 (take c.in-Ok.count c.read.new.buf) c.in-Ok.ensures.bytes.0)

pub returns-in_err-take_chunk-clause-cause : goal.returns-in_err-take_chunk-clause-cause
returns-in_err-take_chunk-clause-cause g c =
    let p = err_from_is_err_and c.from_residual-in_err-take_chunk.result c.from_residual-in_err-take_chunk.ensures.1 in
    rw (p.1, p.2) (rw c.loop-turn.invariant.sound at c.in-Ok.ensures.failed, refl)

pub loop-turn-preserved : goal.loop-turn-preserved
loop-turn-preserved g c =
    let piece = take c.in-Ok.count c.read.new.buf in
    let next = c.in_ok-take_chunk.ensures in
    record {
      serving = serving-takes _ c.requires.session _ _ _ None None None _ c.loop-turn.invariant.serving piece _
          c.in-Ok.ensures.bytes.0 tt next;
      reads = let a = c.in-Ok.ensures.calls in let b = c.loop-turn.invariant.reads in let d = c.loop-turn-test.true in
          omega arith;
      sound = rw c.loop-turn.invariant.sound at c.in-Ok.ensures.failed;
      chunk = let a = c.read.auto.buf in let b = c.loop-turn.invariant.chunk in omega arith;
      few =
          let same = ap (λ (s : State). s.lines) next in
          let more = few_lines c.loop-turn.session piece in
          let most : length piece ≤ 65536 =
          let bound = c.in-Ok.ensures.bound in
          let whole = length-take-le c.in-Ok.count c.read.new.buf (omega arith) in
          let a = c.read.auto.buf in let b = c.loop-turn.invariant.chunk in omega arith in
          let few = c.loop-turn.invariant.few in
          omega arith;
    }

pub returns-clause-taken : goal.returns-clause-taken
returns-clause-taken g c = lines-unread _ c.requires.session _ _ _ _ c.loop-turn.invariant.serving _ _ (Keeps-refl _)
