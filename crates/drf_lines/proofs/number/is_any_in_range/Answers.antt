use Rattle.std.proofs.Common.{◌≡◌, true, false, drop, sym, ap, ◌∙◌, arith, take_all, length-drop, is_some}
use Rattle.fast_float.specs.Text.{scan}
use Rattle.serde_json.specs.Read.{number_of, number_from}
use Rattle.drf_lines.proofs.LineNumbers.{number_above, number_below}
use Rattle.drf_lines.proofs.number.is_any_in_range.Goals as goal

pub returns-then-has_minus : goal.returns-then-has_minus
returns-then-has_minus c =
    let s = c.as_bytes-bytes.result.now in
    let parts : c.scan.result ≡ scan (drop 1 s) = c.scan.ensures.parts ∙ ap scan (take_all _ (drop 1 s) (omega (arith, length-drop 1 s))) in
    c.is_in_range_below.ensures ∙ ap (λ p. is_some (number_from true p)) parts
    ∙ ap is_some (sym (number_below s (sym c.if-has_minus.ensures.value)) ∙ ap number_of c.as_bytes-bytes.ensures.value)

pub returns : goal.returns
returns c =
    let s = c.as_bytes-bytes.result.now in
    c.is_in_range_above.ensures ∙ ap (λ p. is_some (number_from false p)) c.scan-2.ensures.parts
    ∙ ap is_some (sym (number_above s (sym c.if-has_minus.ensures.value)) ∙ ap number_of c.as_bytes-bytes.ensures.value)
