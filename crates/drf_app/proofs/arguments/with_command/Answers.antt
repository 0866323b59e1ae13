use Rattle.std.proofs.Common.{◌≡◌, ap, ap₂, ◌∙◌}
use Rattle.std.proofs.lemmas.Result.{IfOk-weaker}
use Rattle.clap.specs.Words.{App, app_of, with_subcommand}
use Rattle.drf_app.proofs.Entered.{local}
use Rattle.drf_app.proofs.arguments.with_command.Goals as goal

pub returns : goal.returns
returns c = λ form part is_line is_command plain.
    let line : app_of c.in_ok-line.line ≡ form = rw c.in_ok-line.was at is_line in
    let command : app_of c.in_ok-command.field-0 ≡ part = rw c.in_ok-command.was at is_command in
    IfOk-weaker c.subcommand.result _ _
    (λ whole added. added.shape (local c.in_ok-command.field-0 (ap (λ (a : App). a.top.is_plain) command ∙ plain))
    ∙ ap₂ with_subcommand line (ap (λ (a : App). a.top) command)) c.subcommand.ensures
