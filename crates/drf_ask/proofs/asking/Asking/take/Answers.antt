use Rattle.std.proofs.Common.{◌≡◌, ℕ, List, ◌+◌, ◌-◌, ◌≤◌, ◌<◌, ◌++◌, length, take, drop, ap, arith}
use Rattle.std.proofs.lemmas.List.{take_all, length-drop}
use Rattle.std.proofs.lemmas.Result.{err_from_is_err_and}
use Rattle.drf_journal.specs.Output.{kept_of}
use Rattle.drf_ask.specs.Asking.{Asking}
use Rattle.drf_ask.proofs.Pieces.{went-begins, went-line, went-all, went-stops, went-forgotten, counted}
use Rattle.drf_ask.proofs.asking.Asking.take.Goals as goal

-- the rest after a byte
tail_of : (rest : List ℕ) (at : ℕ) → at < length rest → take (length rest - (at + 1)) (drop (at + 1) rest) ≡ drop (at + 1) rest
tail_of rest at inside = take_all _ _ (simp length-drop (omega arith))

pub loop-at-init : goal.loop-at-init
loop-at-init g c = record {
  laws = record {
    feed = c.line_law.ensures.feed;
    within = c.line_law.ensures.within;
    stay = c.line_law.ensures.ended;
    kept = c.line_law.ensures.kept;
    meaning = c.line_law.ensures.meaning;
    answer = c.line_law.ensures.answer;
  };
  went = went-begins _ _ _;
  few = omega arith;
  sound = λ e. e;
  flushed = λ e. e;
}

pub loop-at-preserved : goal.loop-at-preserved
loop-at-preserved g c =
    let rest = c.loop-at.rest.now in
    let at = c.in-Some.at in
    let found = c.in-Some.ensures.found in
    let next = c.end_line.new.self in
    let is = c.in_ok-end_line.ensures.ok in
    rw (tail_of rest at found.0) (record {
      laws = c.loop-at.invariant.laws;
      went = went-line c.loop-at.invariant.laws _ c.loop-at.self _ rest _ _ c.loop-at.invariant.went next _ at found.0 found.1 found.2 is
          c.in_ok-end_line.ensures.written;
      few =
          let more : next.events ≤ c.loop-at.self.events + 1 =
          let same = ap (λ (a : Asking). a.events) is in let one = counted (kept_of (c.loop-at.self.pending ++ take at rest)) in omega arith in
          let few = c.loop-at.invariant.few in
          let left : length (drop (at + 1) rest) ≡ length rest - (at + 1) = length-drop (at + 1) rest in
          omega arith;
      sound = λ sound. (c.in_ok-end_line.ensures.cause (c.loop-at.invariant.sound sound)).1;
      flushed = λ begun. c.in_ok-end_line.ensures.flushed (c.loop-at.invariant.flushed begun);
    })

pub returns-in_err-end_line-clause-err : goal.returns-in_err-end_line-clause-err
returns-in_err-end_line-clause-err g c =
    let p = err_from_is_err_and c.from_residual.result c.from_residual.ensures.1 in
    let found = c.in-Some.ensures.found in
    rw (p.1, p.2) (went-stops c.loop-at.invariant.laws _ c.loop-at.self _ c.loop-at.rest.now _ _ c.loop-at.invariant.went _ _ c.in-Some.at
    found.0 found.1 found.2 c.in_err-end_line.ensures.err)

pub returns-in_err-keep-clause-err : goal.returns-in_err-keep-clause-err
returns-in_err-keep-clause-err g c =
    let p = err_from_is_err_and c.from_residual-in_err-keep.result c.from_residual-in_err-keep.ensures.1 in
    rw (p.1, p.2) (went-forgotten c.loop-at.invariant.laws _ c.loop-at.self _ c.loop-at.rest.now _ _ c.loop-at.invariant.went)

pub returns-clause-ok : goal.returns-clause-ok
returns-clause-ok g c =
    went-all c.loop-at.invariant.laws _ c.loop-at.self _ c.loop-at.rest.now _ _ c.loop-at.invariant.went c.keep.new.self
    c.in_default.ensures.none c.in_ok-keep.ensures
