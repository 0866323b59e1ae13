use Rattle.std.proofs.Common.{◌++◌, IsUtf8, List, ℕ, ap, subst, ◌∙◌}
use Rattle.drf_text.specs.Written.{bundle_text}
use Rattle.drf_lines.specs.Written.{IsText}
use Rattle.drf_lines.proofs.Texts.{holds_at_ok, bundle_said}
use Rattle.drf_lines.proofs.member.put_bundle.Goals as goal

pub returns-clause-read : goal.returns-clause-read
returns-clause-read c =
    holds_at_ok c.put_text.result _ (bundle_said c.args.bundle.now c.bundle_round_trip_law.ensures c.recall.ensures)

pub returns-clause-text : goal.returns-clause-text
unfolding IsText
returns-clause-text c =
    let text = bundle_text c.args.bundle.now in
    let written = c.as_str.ensures.value ∙ c.in_ok-push_bundle.ensures ∙ ap (λ (prefix : List ℕ). prefix ++ text) c.clear.ensures.bytes in
    holds_at_ok c.put_text.result _ (subst IsUtf8 written c.as_str.utf8)
