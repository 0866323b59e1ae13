use Rattle.std.proofs.Common.{◌≡◌, ◌++◌, ◌∷◌, [], ℕ, List, length, ap, sym, ◌∙◌, subst, append_assoc, length-append, arith}
use Rattle.std.proofs.lemmas.Result.{err_from_is_err_and}
use Rattle.std.specs.Vec.Iter.{into_iter_items}
use Rattle.drf_drive.specs.Scripts.{AreWhole, IsStoppedBy}
use Rattle.drf_drive.specs.declared.script.Script.{Script}
use Rattle.drf_drive.proofs.Scripts.{stopped-next, whole-count, whole-push}
use Rattle.drf_drive.proofs.script.all_whole.Goals as goal

pub returns-in_err-read-clause-err : goal.returns-in_err-read-clause-err
returns-in_err-read-clause-err c =
    let at = c.loop-script in
    let rest : List Script = into_iter_items c.next.new.self in
    let split = at.invariant.0 ∙ ap (λ (l : List Script). at.yielded ++ l) c.in-Some.ensures.steps.0 in
    let fault = c.in_err-read.field-0.0 in
    let p = err_from_is_err_and c.from_residual-in_err-read.result c.from_residual-in_err-read.ensures.1 in
    let file : c.len-in-loop-script.result ≡ length at.events.items = omega (arith, c.len-in-loop-script.ensures, at.events.ok.0) in
    let stopped = subst (λ (n : ℕ). IsStoppedBy n c.in-Some.script fault) file c.in_err-read.ensures.err in
    rw (p.1, p.2) (stopped-next c.args.scripts.items at.yielded c.in-Some.script rest at.events.items fault split at.invariant.1.0 stopped)

pub push_reserved-requires : goal.push_reserved-requires
push_reserved-requires c =
    let at = c.loop-script in
    let rest : List Script = into_iter_items c.next.new.self in
    let split = at.invariant.0 ∙ ap (λ (l : List Script). at.yielded ++ l) c.in-Some.ensures.steps.0 in
    let counts = ap length split ∙ length-append at.yielded (c.in-Some.script ∷ rest) in
    omega (arith, counts, whole-count at.yielded at.events.items at.invariant.1.0, at.events.ok.0, at.invariant.1.1)

pub loop-script-preserved : goal.loop-script-preserved
loop-script-preserved c =
    let at = c.loop-script in
    let rest : List Script = into_iter_items c.next.new.self in
    let pushed = subst (AreWhole (at.yielded ++ c.in-Some.script ∷ [])) (sym c.push_reserved.ensures.items)
    (whole-push at.yielded at.events.items c.in-Some.script c.in_ok-read.read at.invariant.1.0 c.in_ok-read.ensures.ok) in
    let split = at.invariant.0 ∙ ap (λ (l : List Script). at.yielded ++ l) c.in-Some.ensures.steps.0 in (
      split ∙ sym (append_assoc at.yielded (c.in-Some.script ∷ []) rest),
      (pushed, omega (arith, at.invariant.1.1, c.push_reserved.ensures.capacity)),
    )
