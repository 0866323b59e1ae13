use Rattle.std.proofs.Common.{◌≡◌, ap, ap₂, codes, ◌∙◌}
use Rattle.std.proofs.lemmas.Result.{IfOk-weaker}
use Rattle.clap.specs.Words.{app_of, new_app, with_rule}
use Rattle.clap.specs.Simple.{app_of_fields}
use Rattle.drf_app.proofs.line.explain_line.Goals as goal

pub returns : goal.returns
returns c =
    let named : app_of c.after_help.result ≡ new_app (codes "explain") =
    ap app_of_fields c.after_help.ensures ∙ (ap app_of_fields c.about.ensures ∙ c.new.ensures.app) in
    let first = IfOk-weaker c.arg-line.result _ _ (λ line added. added.shape c.timestamp_option.ensures.local ∙ ap₂ with_rule named c.timestamp_option.ensures.rule) c.arg-line.ensures in
    let with_each = c.with_argument-line.ensures _ _ first c.flag-each.ensures.rule in
    let with_client = c.with_argument-line-2.ensures _ _ with_each c.client_option.ensures.rule in
    let with_agent = c.with_argument-line-3.ensures _ _ with_client c.agent_option.ensures.rule in
    let with_summary = c.with_argument-line-4.ensures _ _ with_agent c.flag-summary.ensures.rule in
    c.with_argument.ensures _ _ with_summary c.from_option.ensures.rule
