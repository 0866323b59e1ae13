use Rattle.std.proofs.Common.{◌≡◌, ℕ, List, ◌+◌, ◌-◌, ◌≤◌, ◌<◌, false, [], ◌∷◌, ◌++◌, length, take, drop, refl, sym, ap, ◌∙◌, subst, arith}
use Rattle.std.proofs.lemmas.Bool.Decides.{nat_tests}
use Rattle.std.proofs.lemmas.List.{take_all, length-drop, length-take-le, length-append}
use Rattle.std.proofs.lemmas.List.Elements.{All-take}
use Rattle.drf_core.specs.Machine.{live}
use Rattle.drf_journal.specs.Lines.{is_line_feed}
use Rattle.drf_journal.specs.State.{State, after_piece}
use Rattle.drf_journal.proofs.Prefixes.{TookPrefix, prefix-begins, prefix-line, prefix-count, prefix-answers, prefix-ahead, prefix-keeps, prefix-all}
use Rattle.drf_journal.proofs.Pieces.{few_lines, piece-some}
use Rattle.drf_journal.proofs.Waits.{waits-begins, waits-within, waits-on}
use Rattle.drf_journal.proofs.session.Session.take.Goals as goal

-- the rest after a byte
tail_of : (rest : List ℕ) (at : ℕ) → at < length rest → take (length rest - (at + 1)) (drop (at + 1) rest) ≡ drop (at + 1) rest
tail_of rest at inside = take_all _ _ (simp length-drop (omega arith))

pub loop-at-init : goal.loop-at-init
loop-at-init g c = record {
  prefix = prefix-begins _ _;
  few = omega arith;
  short = omega arith;
  below = λ small k first. waits-begins 65536 c.args.self.now c.args.piece.now small k (omega arith);
}

pub loop-at-preserved : goal.loop-at-preserved
loop-at-preserved g c =
    let piece = c.args.piece.now in
    let rest = c.loop-at.rest.now in
    let at = c.in-Some.at in
    let found = c.in-Some.ensures.found in
    let next = c.end_line.new.self in
    let step : next ≡ after_piece c.loop-at.self (take at rest ++ 10 ∷ []) = c.in_ok-end_line.ensures.ok in
    let took : TookPrefix c.args.self.now next piece (drop (at + 1) rest) =
    prefix-line c.args.self.now c.loop-at.self next piece rest at c.loop-at.invariant.prefix found.0 found.1 step in
    let left : length (drop (at + 1) rest) ≡ length rest - (at + 1) = length-drop (at + 1) rest in
    let short = c.loop-at.invariant.short in
    let more : next.lines ≤ c.loop-at.self.lines + (at + 1) =
    let same = ap (λ (s : State). s.lines) step in
    let few = few_lines c.loop-at.self (take at rest ++ 10 ∷ []) in
    let prefix : length (take at rest) ≡ at = length-take-le at rest (omega arith) in
    let whole = length-append (take at rest) (10 ∷ []) in
    omega arith in
    let small : length c.self.inside.unsent.items < 65536 =
    let counted = c.self.inside.unsent.ok.0 in
    let measured = c.len.ensures in
    let test = c.if-len-ge-MOST_UNSENT.false in
    omega arith in
    rw (tail_of rest at found.0) (record {
      prefix = took;
      few = let few = c.loop-at.invariant.few in omega arith;
      short = omega arith;
      below = λ begun.
          waits-on 65536 c.args.self.now next piece (drop (at + 1) rest) took
          (subst (λ (s : State). length s.unsent < 65536) c.self.view_is small)
          (λ k inside. waits-within 65536 c.args.self.now c.loop-at.self piece rest c.loop-at.invariant.prefix at found.2
          (c.loop-at.invariant.below begun) k (omega arith));
    })

pub returns-in_err-end_line-clause-answers : goal.returns-in_err-end_line-clause-answers
returns-in_err-end_line-clause-answers g c =
    let found = c.in-Some.ensures.found in
    prefix-ahead c.args.self.now c.loop-at.self c.end_line.new.self c.args.piece.now c.loop-at.rest.now c.in-Some.at
    c.loop-at.invariant.prefix found.0 found.1 found.2 c.in_err-end_line.ensures.err.0 c.in_err-end_line.ensures.err.1
    c.in_err-end_line.ensures.taken

-- ---- at least 64 KiB of text waits

pub returns-then-len-ge-MOST_UNSENT-clause-ok : goal.returns-then-len-ge-MOST_UNSENT-clause-ok
returns-then-len-ge-MOST_UNSENT-clause-ok g c =
    let rest = c.loop-at.rest.now in
    let at = c.in-Some.at in
    let found = c.in-Some.ensures.found in
    rw (tail_of rest at found.0)
    (prefix-count c.args.self.now c.end_line.new.self c.args.piece.now (drop (at + 1) rest)
    (prefix-line c.args.self.now c.loop-at.self c.end_line.new.self c.args.piece.now rest at c.loop-at.invariant.prefix
    found.0 found.1 c.in_ok-end_line.ensures.ok))

pub returns-then-len-ge-MOST_UNSENT-clause-bound : goal.returns-then-len-ge-MOST_UNSENT-clause-bound
returns-then-len-ge-MOST_UNSENT-clause-bound g c = λ begun k inside.
    let rest = c.loop-at.rest.now in
    let at = c.in-Some.at in
    let found = c.in-Some.ensures.found in
    let left : length (take (length rest - (at + 1)) (drop (at + 1) rest)) ≡ length rest - (at + 1) =
    ap length (tail_of rest at found.0) ∙ length-drop (at + 1) rest in
    let short = c.loop-at.invariant.short in
    waits-within 65536 c.args.self.now c.loop-at.self c.args.piece.now rest c.loop-at.invariant.prefix at found.2
    (c.loop-at.invariant.below begun) k (omega arith)

pub returns-then-len-ge-MOST_UNSENT-clause-answers : goal.returns-then-len-ge-MOST_UNSENT-clause-answers
returns-then-len-ge-MOST_UNSENT-clause-answers g c =
    let rest = c.loop-at.rest.now in
    let at = c.in-Some.at in
    let found = c.in-Some.ensures.found in
    let next = c.end_line.new.self in
    prefix-answers c.args.self.now next next c.args.piece.now (drop (at + 1) rest)
    (prefix-line c.args.self.now c.loop-at.self next c.args.piece.now rest at c.loop-at.invariant.prefix found.0 found.1
    c.in_ok-end_line.ensures.ok) refl refl refl

-- ---- no line feed remains

pub returns-then-is_empty-clause-ok : goal.returns-then-is_empty-clause-ok
returns-then-is_empty-clause-ok g c =
    let rest = c.loop-at.rest.now in
    let none : length rest ≡ 0 = grind (arith, nat_tests) in
    prefix-all c.args.self.now c.loop-at.self c.args.piece.now rest c.loop-at.invariant.prefix none
    ∙ ap (after_piece c.args.self.now) (sym (take_all (length c.args.piece.now) c.args.piece.now (omega arith)))

pub returns-then-is_empty-clause-bound : goal.returns-then-is_empty-clause-bound
returns-then-is_empty-clause-bound g c = λ begun k inside.
    let none : length c.loop-at.rest.now ≡ 0 = grind (arith, nat_tests) in
    c.loop-at.invariant.below begun k (omega arith)

pub returns-then-is_empty-clause-answers : goal.returns-then-is_empty-clause-answers
returns-then-is_empty-clause-answers g c =
    prefix-answers c.args.self.now c.loop-at.self c.loop-at.self c.args.piece.now c.loop-at.rest.now c.loop-at.invariant.prefix refl refl refl

pub returns-in_err-keep-clause-answers : goal.returns-in_err-keep-clause-answers
returns-in_err-keep-clause-answers g c =
    let inside = c.self-2.inside in
    let kept : State = record { machine = live inside.core; echo = inside.echo; pending = c.keep.new.self; unsent = inside.unsent.items; lines = inside.lines } in
    prefix-answers c.args.self.now c.loop-at.self kept c.args.piece.now c.loop-at.rest.now c.loop-at.invariant.prefix
    (ap (λ (s : State). s.unsent) c.self-2.view_is) (ap (λ (s : State). s.lines) c.self-2.view_is)
    (ap (λ (s : State). s.machine) c.self-2.view_is)

pub returns-clause-answers : goal.returns-clause-answers
returns-clause-answers g c =
    let inside = c.self-2.inside in
    let kept : State = record { machine = live inside.core; echo = inside.echo; pending = c.keep.new.self; unsent = inside.unsent.items; lines = inside.lines } in
    prefix-answers c.args.self.now c.loop-at.self kept c.args.piece.now c.loop-at.rest.now c.loop-at.invariant.prefix
    (ap (λ (s : State). s.unsent) c.self-2.view_is) (ap (λ (s : State). s.lines) c.self-2.view_is)
    (ap (λ (s : State). s.machine) c.self-2.view_is)

pub returns-clause-ok : goal.returns-clause-ok
returns-clause-ok g c =
    let inside = c.self-2.inside in
    let rest = c.loop-at.rest.now in
    let now : State = record { machine = live inside.core; echo = inside.echo; pending = inside.pending; unsent = inside.unsent.items; lines = inside.lines } in
    let some : 0 < length rest = grind (arith, nat_tests) in
    ap (λ (pending : List ℕ). record now { pending = pending }) c.in_ok-keep.ensures
    ∙ sym (piece-some now rest (c.in_default.ensures.none) some)
    ∙ ap (λ (s : State). after_piece s rest) c.self-2.view_is
    ∙ prefix-keeps c.args.self.now c.loop-at.self c.args.piece.now rest c.loop-at.invariant.prefix
    ∙ ap (after_piece c.args.self.now) (sym (take_all (length c.args.piece.now) c.args.piece.now (omega arith)))

pub returns-clause-bound : goal.returns-clause-bound
returns-clause-bound g c = λ begun k inside.
    let rest = c.loop-at.rest.now in
    waits-within 65536 c.args.self.now c.loop-at.self c.args.piece.now rest c.loop-at.invariant.prefix (length rest)
    (All-take (λ b. is_line_feed b ≡ false) (length rest) rest c.in_default.ensures.none)
    (c.loop-at.invariant.below begun) k (omega arith)
