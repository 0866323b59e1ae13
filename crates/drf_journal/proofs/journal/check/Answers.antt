use Rattle.std.proofs.Common.{◌<◌, ◌≤◌, ℕ, true, false, length, take, refl, sym, subst, arith}
use Rattle.std.specs.Prelude.{IfSome}
use Rattle.std.proofs.lemmas.List.{length-take-le}
use Rattle.drf_journal.specs.declared.journal.Verdict.TheVariants.{Bad}
use Rattle.drf_journal.specs.Checking.{HasChecked}
use Rattle.drf_journal.specs.Journal.{IsVerdict}
use Rattle.drf_journal.proofs.Checks.{reading-begins, reading-takes, reading-wrong, reading-ends}
use Rattle.drf_journal.proofs.journal.check.Goals as goal

pub loop-turn-init : goal.loop-turn-init
loop-turn-init g c = record {
  reading = reading-begins _ _;
  reads = c.requires.reader.0;
  sound = c.requires.reader.1;
  chunk = let a = c.as_mut_slice-chunk.ensures.len in let b = c.in_ok-buffer.ensures.len in omega arith;
  few = let none = c.requires.first in omega arith;
}

pub returns-then-count-eq0-clause-verdict : goal.returns-then-count-eq0-clause-verdict
returns-then-count-eq0-clause-verdict g c = λ start begun.
    let bytes = rw c.if-count-eq0.true at c.in-Ok.ensures.bytes in
    let some : 0 < length c.read.new.buf = let a = c.read.auto.buf in let b = c.loop-turn.invariant.chunk in
    omega arith in
    reading-ends _ _ _ _ _ c.loop-turn.invariant.reading c.verdict.result start bytes.0 (bytes.1 refl some)
    c.verdict.ensures begun

pub returns-then-not-right-clause-verdict : goal.returns-then-not-right-clause-verdict
returns-then-not-right-clause-verdict g c = λ start begun.
    let piece = take c.in-Ok.count c.read.new.buf in
    let next = c.take.new.self in
    let checked : HasChecked piece c.loop-turn.checker next false =
    subst (HasChecked piece c.loop-turn.checker next) c.if-not-right.true c.in_ok-right.ensures.checked in
    subst (λ (n : ℕ). IfSome (g.R.Read.remaining c.args.reader.now.inner) (λ journal. IsVerdict start journal (Bad n)))
    (sym c.reply_line.ensures)
    (reading-wrong _ _ _ _ _ c.loop-turn.invariant.reading piece next start c.in-Ok.ensures.bytes.0 checked begun)

pub loop-turn-preserved : goal.loop-turn-preserved
loop-turn-preserved g c =
    let piece = take c.in-Ok.count c.read.new.buf in
    let next = c.take.new.self in
    let checked : HasChecked piece c.loop-turn.checker next true =
    subst (HasChecked piece c.loop-turn.checker next) c.if-not-right.false c.in_ok-right.ensures.checked in
    record {
      reading = reading-takes _ _ _ _ _ c.loop-turn.invariant.reading piece next c.in-Ok.ensures.bytes.0 checked;
      reads = let a = c.in-Ok.ensures.calls in let b = c.loop-turn.invariant.reads in let d = c.loop-turn-test.true in
          omega arith;
      sound = rw c.loop-turn.invariant.sound at c.in-Ok.ensures.failed;
      chunk = let a = c.read.auto.buf in let b = c.loop-turn.invariant.chunk in omega arith;
      few =
          let most : length piece ≤ 65536 =
          let bound = c.in-Ok.ensures.bound in
          let whole = length-take-le c.in-Ok.count c.read.new.buf (omega arith) in
          let a = c.read.auto.buf in let b = c.loop-turn.invariant.chunk in omega arith in
          let few = c.loop-turn.invariant.few in
          let more = c.in_ok-right.ensures.few in
          omega arith;
    }
