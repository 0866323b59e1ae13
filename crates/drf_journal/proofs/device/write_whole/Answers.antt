use Rattle.std.proofs.Common.{◌≡◌, ◌-◌, length, take, drop, arith}
use Rattle.std.proofs.lemmas.Bool.{ne_eqb}
use Rattle.std.proofs.lemmas.List.{take_all, length-drop}
use Rattle.drf_journal.proofs.Devices.{wrote-more, wrote-kept, wrote-prefix}
use Rattle.drf_journal.proofs.device.write_whole.Goals as goal

pub loop-rest-preserved : goal.loop-rest-preserved
loop-rest-preserved g c =
    let rest = c.loop-rest.rest.now in
    let count = c.in-Ok.count in
    let tail : take (length rest - count) (drop count rest) ≡ drop count rest =
    take_all _ _ (simp length-drop (omega arith)) in
    rw tail (record {
      wrote = wrote-more _ _ _ c.args.bytes.now rest count c.loop-rest.invariant.wrote c.in-Ok.ensures.bytes;
      sound = λ sound. rw (
        c.loop-rest.invariant.sound sound,
        ne_eqb count 0 c.if-count-eq0.false,
      ) at c.in-Ok.ensures.failed;
    })

pub returns-in_default-clause-err : goal.returns-in_default-clause-err
returns-in_default-clause-err g c =
    wrote-prefix _ _ c.args.bytes.now c.loop-rest.rest.now
    (wrote-kept _ _ _ c.args.bytes.now c.loop-rest.rest.now c.loop-rest.invariant.wrote c.in_default.ensures.bytes)

pub returns-then-count-eq0-clause-err : goal.returns-then-count-eq0-clause-err
returns-then-count-eq0-clause-err g c =
    wrote-prefix _ _ c.args.bytes.now _
    (wrote-more _ _ _ c.args.bytes.now c.loop-rest.rest.now c.in-Ok.count c.loop-rest.invariant.wrote c.in-Ok.ensures.bytes)

pub returns-then-is_err-clause-err : goal.returns-then-is_err-clause-err
returns-then-is_err-clause-err g c =
    wrote-prefix _ _ c.args.bytes.now c.loop-rest.rest.now
    (wrote-kept _ _ _ c.args.bytes.now c.loop-rest.rest.now c.loop-rest.invariant.wrote c.flush.ensures.bytes)
