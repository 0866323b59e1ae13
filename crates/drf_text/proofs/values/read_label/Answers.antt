use Rattle.std.proofs.Common.{Err, ap}
use Rattle.std.proofs.lemmas.Bool.{false_from_ne_true}
use Rattle.std.proofs.lemmas.Result.{err_from_is_err_and}
use Rattle.drf_text.specs.Steps.{label_in}
use Rattle.drf_text.proofs.Exits.{name_refused, name_short}
use Rattle.drf_role.proofs.TestLaws.{label_decides}
use Rattle.drf_text.proofs.values.read_label.Goals as goal

pub returns-in_err-read-clause-read : goal.returns-in_err-read-clause-read
unfolding label_in
returns-in_err-read-clause-read c =
    let p = err_from_is_err_and c.from_residual.result c.from_residual.ensures.1 in
    rw (p.1, p.2) (name_refused c.in_err-read.field-0.0 _ _
    (λ e. false_from_ne_true _ (λ h. c.in_err-read.ensures.bad.0 (ap Err e) ((label_decides c.args.text.now).0 h))))

pub returns-in_err-read-clause-memory : goal.returns-in_err-read-clause-memory
unfolding label_in
returns-in_err-read-clause-memory c =
    let p = err_from_is_err_and c.from_residual.result c.from_residual.ensures.1 in
    λ is. name_short c.in_err-read.field-0.0 _ _ (λ e. (label_decides c.args.text.now).1 (c.in_err-read.ensures.memory (ap Err e))) (cc)

pub returns-clause-read : goal.returns-clause-read
unfolding label_in
returns-clause-read c = rw ((label_decides c.args.text.now).1 c.in_ok-read.ensures.right, c.in_ok-read.ensures.ok)
