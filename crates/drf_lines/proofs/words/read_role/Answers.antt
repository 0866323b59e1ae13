use Rattle.std.proofs.Common.{Ok, Err, ap, sym, subst}
use Rattle.std.proofs.lemmas.Bool.{false_from_ne_true}
use Rattle.std.proofs.lemmas.Result.{err_from_is_err_and}
use Rattle.drf_role.specs.Role.{IsRole}
use Rattle.drf_lines.specs.Words.{role_in}
use Rattle.drf_lines.proofs.Exits.{role_refused}
use Rattle.drf_role.proofs.TestLaws.{role_decides, role_from_test}
use Rattle.drf_lines.proofs.words.read_role.Goals as goal

pub returns-in_err-read : goal.returns-in_err-read
unfolding role_in
returns-in_err-read c =
    let p = err_from_is_err_and c.from_residual.result c.from_residual.ensures.1 in
    rw (p.1, p.2) (role_refused c.in_err-read.field-0.0 _ _
    (λ e. false_from_ne_true _ (λ h. c.in_err-read.ensures.bad.0 (ap Err e) (role_from_test c.args.text.now h))))

pub returns : goal.returns
unfolding role_in
returns c =
    let read = c.in_ok-read.ensures in
    rw ((role_decides c.args.text.now).1 (subst IsRole read.parts read.right)) (ap Ok (sym read.parts))
