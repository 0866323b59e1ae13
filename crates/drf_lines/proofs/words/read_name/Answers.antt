use Rattle.std.proofs.Common.{Err, ap}
use Rattle.std.proofs.lemmas.Bool.{false_from_ne_true}
use Rattle.std.proofs.lemmas.Result.{err_from_is_err_and}
use Rattle.drf_lines.proofs.Exits.{name_refused}
use Rattle.drf_role.proofs.TestLaws.{name_decides}
use Rattle.drf_lines.specs.Words.{name_in}
use Rattle.drf_lines.proofs.words.read_name.Goals as goal

pub returns-in_err-read : goal.returns-in_err-read
unfolding name_in
returns-in_err-read c =
    let p = err_from_is_err_and c.from_residual.result c.from_residual.ensures.1 in
    rw (p.1, p.2) (name_refused c.in_err-read.field-0.0 _ _
    (λ e. false_from_ne_true _ (λ h. c.in_err-read.ensures.bad.0 (ap Err e) ((name_decides c.args.text.now).0 h))))

pub returns : goal.returns
unfolding name_in
returns c = rw ((name_decides c.args.text.now).1 c.in_ok-read.ensures.right, c.in_ok-read.ensures.ok)
