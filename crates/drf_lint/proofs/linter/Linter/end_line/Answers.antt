use Rattle.std.proofs.Common.{◌≡◌, ◌+◌, ◌++◌, ◌∙◌, arith}
use Rattle.std.proofs.lemmas.Result.{err_from_is_err_and}
use Rattle.drf_journal.specs.Output.{kept_of}
use Rattle.drf_lint.specs.Lint.{lint_of}
use Rattle.drf_lint.proofs.Pieces.{ended-kept, stopped-kept}
use Rattle.drf_lint.proofs.linter.Linter.end_line.Goals as goal

pub returns-in_err-is_event-clause-err : goal.returns-in_err-is_event-clause-err
returns-in_err-is_event-clause-err g c =
    let p = err_from_is_err_and c.from_residual-in_err-is_event.result c.from_residual-in_err-is_event.ensures.1 in
    let line = c.args.self.now.prefix ++ c.args.end.now in
    let kept : c.bytes.result.now ≡ kept_of line = c.bytes.ensures ∙ c.in_ok-keep.ensures in
    rw (p.1, p.2)
    (stopped-kept _ c.args.self.now.write (c.args.self.now.lines + 1) line _ _ _ _ (rw kept at c.in_err-is_event.ensures.err))

pub returns-then-not-is_event-clause-ok : goal.returns-then-not-is_event-clause-ok
returns-then-not-is_event-clause-ok g c =
    let old = c.args.self.now in
    let kept : c.bytes.result.now ≡ kept_of (old.prefix ++ c.args.end.now) = c.bytes.ensures ∙ c.in_ok-keep.ensures in
    ended-kept (lint_of old) c.args.end.now _ 1 _ _ _ _
    (rw (kept, c.if-not-is_event.true) at c.in_ok-is_event.ensures.ok)
    (λ i. record { write = old.write; prefix = c.clear.ensures i; lines = old.lines + 1; faults = old.faults + 1 })

pub returns-else-not-is_event-clause-ok : goal.returns-else-not-is_event-clause-ok
returns-else-not-is_event-clause-ok g c =
    let old = c.args.self.now in
    let kept : c.bytes.result.now ≡ kept_of (old.prefix ++ c.args.end.now) = c.bytes.ensures ∙ c.in_ok-keep.ensures in
    let same : old.faults ≡ old.faults + 0 = omega arith in
    ended-kept (lint_of old) c.args.end.now _ 0 _ _ _ _
    (rw (kept, c.if-not-is_event.false) at c.in_ok-is_event.ensures.ok)
    (λ i. record { write = old.write; prefix = c.clear.ensures i; lines = old.lines + 1; faults = same i })
