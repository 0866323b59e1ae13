use Rattle.std.proofs.Common.{◌≡◌, false, ◌++◌, ◌∷◌, [], ap, ◌∙◌}
use Rattle.serde_json.specs.View.{view}
use Rattle.serde_json.specs.Written.{has_float, compact_text}
use Rattle.drf_why.specs.Passers.{passer_text}
use Rattle.drf_why.proofs.passer_line.passer_line.Goals as goal

pub returns : goal.returns
unfolding passer_text
returns c =
    let none : has_float (view c.in_ok-value.value) ≡ false = ap has_float c.in_ok-value.ensures in
    c.in_ok-push.ensures.items
    ∙ ap (λ text. text ++ 10 ∷ []) (c.in_ok-text.ensures.text none ∙ ap compact_text c.in_ok-value.ensures)
