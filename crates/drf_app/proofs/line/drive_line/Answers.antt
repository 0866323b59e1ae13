use Rattle.std.proofs.Common.{◌≡◌, ap, ap₂, codes, ◌∙◌}
use Rattle.std.proofs.lemmas.Result.{IfOk-weaker}
use Rattle.clap.specs.Words.{app_of, new_app, with_rule}
use Rattle.clap.specs.Simple.{app_of_fields}
use Rattle.drf_app.proofs.line.drive_line.Goals as goal

pub returns : goal.returns
returns c =
    let named : app_of c.after_help.result ≡ new_app (codes "drive") =
    ap app_of_fields c.after_help.ensures ∙ (ap app_of_fields c.about.ensures ∙ c.new.ensures.app) in
    let first = IfOk-weaker c.arg-line.result _ _ (λ line added. added.shape c.from_option.ensures.local ∙ ap₂ with_rule named c.from_option.ensures.rule) c.arg-line.ensures in
    c.with_argument.ensures _ _ first c.file_arguments.ensures.rule
