use Rattle.std.proofs.Common.{◌≡◌, ℕ, List, ◌+◌, ◌-◌, ◌<◌, [], ◌∷◌, ◌++◌, true, false, length, take, drop, subst, arith}
use Rattle.std.proofs.lemmas.List.{take_all, length-drop}
use Rattle.std.proofs.lemmas.Result.{IfOk-weaker}
use Rattle.drf_journal.specs.Checking.{HasChecked}
use Rattle.drf_journal.proofs.Checks.{prefix-begins, prefix-line, prefix-wrong, prefix-rest}
use Rattle.drf_journal.proofs.checker.Checker.take.Goals as goal

-- the rest after a byte
tail_of : (rest : List ℕ) (at : ℕ) → at < length rest → take (length rest - (at + 1)) (drop (at + 1) rest) ≡ drop (at + 1) rest
tail_of rest at inside = take_all _ _ (simp length-drop (omega arith))

pub loop-at-init : goal.loop-at-init
loop-at-init g c = record { prefix = prefix-begins _ _; few = omega arith }

pub loop-at-preserved : goal.loop-at-preserved
loop-at-preserved g c =
    let rest = c.loop-at.rest.now in
    let at = c.in-Some.at in
    let found = c.in-Some.ensures.found in
    let next = c.end_line.new.self in
    let checked : HasChecked (take at rest ++ 10 ∷ []) c.loop-at.self next true =
    subst (HasChecked (take at rest ++ 10 ∷ []) c.loop-at.self next) c.if-not-right.false c.in_ok-right.ensures.checked in
    let left : length (drop (at + 1) rest) ≡ length rest - (at + 1) = length-drop (at + 1) rest in
    rw (tail_of rest at found.0) (record {
      prefix = prefix-line c.args.self.now c.loop-at.self next c.args.piece.now rest at c.loop-at.invariant.prefix found.0
          found.1 checked;
      few = let few = c.loop-at.invariant.few in let more = c.in_ok-right.ensures.few in omega arith;
    })

pub returns-then-not-right-clause-checked : goal.returns-then-not-right-clause-checked
returns-then-not-right-clause-checked g c =
    let rest = c.loop-at.rest.now in
    let at = c.in-Some.at in
    let found = c.in-Some.ensures.found in
    let next = c.end_line.new.self in
    let checked : HasChecked (take at rest ++ 10 ∷ []) c.loop-at.self next false =
    subst (HasChecked (take at rest ++ 10 ∷ []) c.loop-at.self next) c.if-not-right.true c.in_ok-right.ensures.checked in
    prefix-wrong c.args.self.now c.loop-at.self next c.args.piece.now rest at c.loop-at.invariant.prefix found.0 found.1 checked

pub returns-clause-checked : goal.returns-clause-checked
returns-clause-checked g c =
    let rest = c.loop-at.rest.now in
    IfOk-weaker c.go_on.result (HasChecked rest c.loop-at.self c.go_on.new.self)
    (HasChecked c.args.piece.now c.args.self.now c.go_on.new.self)
    (λ right is. prefix-rest c.args.self.now c.loop-at.self c.go_on.new.self c.args.piece.now rest right
    c.loop-at.invariant.prefix is)
    c.go_on.ensures.checked
