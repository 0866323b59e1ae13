use Rattle.std.proofs.Common.{◌≡◌, ap, refl, ◌∙◌}
use Rattle.clap.specs.Words.{app_of}
use Rattle.clap.specs.Simple.{app_of_fields}
use Rattle.drf_app.specs.Arguments.{top_line}
use Rattle.drf_app.proofs.line.drf_line.Goals as goal

pub returns : goal.returns
returns c =
    let top : app_of c.after_help-top.result ≡ top_line = ap app_of_fields c.after_help-top.ensures ∙ c.top_line.ensures in
    let with_run = c.with_command-line.ensures _ _ top c.run_line.ensures refl in
    let with_check = c.with_command-line-2.ensures _ _ with_run c.check_line.ensures refl in
    let with_audit = c.with_command-line-3.ensures _ _ with_check c.audit_line.ensures refl in
    let with_show = c.with_command-line-4.ensures _ _ with_audit c.show_line.ensures refl in
    let with_explain = c.with_command-line-5.ensures _ _ with_show c.explain_line.ensures refl in
    let with_save = c.with_command-line-6.ensures _ _ with_explain c.save_line.ensures refl in
    let with_lint = c.with_command-line-7.ensures _ _ with_save c.lint_line.ensures refl in
    c.with_command.ensures _ _ with_lint c.drive_line.ensures refl
