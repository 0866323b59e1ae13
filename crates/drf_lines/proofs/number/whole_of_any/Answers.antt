use Rattle.std.proofs.Common.{false, drop, sym, ap, ◌∙◌}
use Rattle.fast_float.specs.Text.{scan}
use Rattle.serde_json.specs.Find.{as_u64}
use Rattle.serde_json.specs.Read.{number_from}
use Rattle.drf_lines.specs.LineValue.{known_number, number_in}
use Rattle.drf_lines.proofs.LineNumbers.{number_above, number_below, none_below}
use Rattle.drf_lines.proofs.number.whole_of_any.Goals as goal

pub returns-then-has_minus : goal.returns-then-has_minus
returns-then-has_minus c =
    let s = c.as_bytes-bytes.result.now in
    sym (none_below (scan (drop 1 s)))
    ∙ ap (λ o. as_u64 (known_number o)) (sym (number_below s (sym c.if-has_minus.ensures.value)))
    ∙ ap (λ text. as_u64 (number_in text)) c.as_bytes-bytes.ensures.value

pub returns : goal.returns
returns c =
    let s = c.as_bytes-bytes.result.now in
    c.whole_above.ensures
    ∙ ap (λ p. as_u64 (known_number (number_from false p))) c.scan.ensures.parts
    ∙ ap (λ o. as_u64 (known_number o)) (sym (number_above s (sym c.if-has_minus.ensures.value)))
    ∙ ap (λ text. as_u64 (number_in text)) c.as_bytes-bytes.ensures.value
