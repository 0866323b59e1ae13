use Rattle.std.proofs.Common.{◌≡◌, false, ◌++◌, ◌∷◌, [], ap, ◌∙◌, refl}
use Rattle.serde_json.specs.View.{view}
use Rattle.serde_json.specs.Written.{has_float, compact_text}
use Rattle.drf_explain.specs.ExplainedText.{finding_value, finding_text}
use Rattle.drf_explain.specs.declared.finding.Finding.{Finding}
use Rattle.drf_explain.specs.declared.finding.Finding.TheVariants.{Suppressed, Inactive, NothingFree, Tried, Left}
use Rattle.drf_explain.specs.declared.finding.Outcome.TheVariants.{Grant, HeldBack, OverLimit, BelowThreshold, NothingLeft, ReservedForOthers}
use Rattle.drf_explain.proofs.line.line_text.Goals as goal

no_float : (finding : Finding) → has_float (finding_value finding) ≡ false
no_float (Suppressed client) = refl
no_float (Inactive agent) = refl
no_float (NothingFree agent) = refl
no_float (Tried agent client (Grant bundle)) = refl
no_float (Tried agent client (HeldBack until)) = refl
no_float (Tried agent client (OverLimit role)) = refl
no_float (Tried agent client BelowThreshold) = refl
no_float (Tried agent client NothingLeft) = refl
no_float (Tried agent client ReservedForOthers) = refl
no_float (Left agent left clients) = refl

pub returns : goal.returns
unfolding finding_text
returns c =
    let none : has_float (view c.in_ok-value.value) ≡ false = ap has_float c.in_ok-value.ensures ∙ no_float c.args.finding.now in
    c.in_ok-push.ensures.items
    ∙ ap (λ text. text ++ 10 ∷ []) (c.in_ok-text.ensures.text none ∙ ap compact_text c.in_ok-value.ensures)
