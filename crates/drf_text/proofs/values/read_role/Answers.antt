use Rattle.std.proofs.Common.{Err, ap, subst}
use Rattle.std.proofs.lemmas.Bool.{false_from_ne_true}
use Rattle.std.proofs.lemmas.Result.{err_from_is_err_and}
use Rattle.drf_role.specs.Role.{IsRole}
use Rattle.drf_text.specs.Steps.{role_in}
use Rattle.drf_text.proofs.Exits.{role_refused}
use Rattle.drf_role.proofs.TestLaws.{role_decides, role_from_test}
use Rattle.drf_text.proofs.values.read_role.Goals as goal

pub returns-in_err-read-in-Some : goal.returns-in_err-read-in-Some
unfolding role_in
returns-in_err-read-in-Some c =
    let p = err_from_is_err_and c.from_residual.result c.from_residual.ensures.1 in
    rw (p.1, p.2, c.in-Some.is) (role_refused c.in_err-read-in-Some.field-0.0 _ _
    (λ e. false_from_ne_true _ (λ h. c.in_err-read-in-Some.ensures.bad.0 (ap Err e) (role_from_test c.in-Some.text.now h))))

pub returns-in_ok-read-in-Some : goal.returns-in_ok-read-in-Some
unfolding role_in
returns-in_ok-read-in-Some c =
    let read = c.in_ok-read-in-Some.ensures in
    rw (c.in-Some.is, (role_decides c.in-Some.text.now).1 (subst IsRole read.parts read.right), read.parts)
