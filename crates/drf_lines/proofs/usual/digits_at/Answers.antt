use Rattle.std.proofs.Common.{◌≡◌, ◌+◌, ◌<◌, length, get_or, true, sym, ap, ◌∙◌, subst, arith}
use Rattle.drf_lines.specs.Usual.{is_end, AreDigitsFrom}
use Rattle.drf_lines.proofs.UsualSteps.{number_stands, number_in_range}
use Rattle.drf_lines.proofs.usual.digits_at.Goals as goal

pub returns-clause-found : goal.returns-clause-found
returns-clause-found c =
    let text = c.args.text.now in
    let stop = c.digits_end-stop.result in
    let same = c.as_bytes-bytes.ensures.value in
    let bounds = c.digits_end-stop.ensures.bound in
    let digits = subst (λ t. AreDigitsFrom t c.args.at stop) same c.digits_end-stop.ensures.digits in
    let first : c.args.at + 1 < stop → get_or text c.args.at 0 ≡ 48 → ⊥ = grind arith in
    let byte : get_or text stop 32 ≡ c.byte_at.result = omega (arith, c.byte_at.ensures, ap (λ t. get_or t stop 32) same) in
    let ended : is_end (get_or text stop 32) ≡ true = ap is_end byte ∙ sym c.is_end.ensures ∙ c.if-not-is_end.false in
    number_stands text c.args.at stop (omega (arith, bounds.0), omega (arith, bounds.1, ap length same)) digits first ended _ c.range.ensures.value

pub returns-clause-range : goal.returns-clause-range
returns-clause-range c =
    let text = c.args.text.now in
    let stop = c.digits_end-stop.result in
    let same = c.as_bytes-bytes.ensures.value in
    let bounds = c.digits_end-stop.ensures.bound in
    let digits = subst (λ t. AreDigitsFrom t c.args.at stop) same c.digits_end-stop.ensures.digits in
    number_in_range text c.args.at stop (omega (arith, bounds.0), omega (arith, bounds.1, ap length same)) (omega arith) digits _ c.range.ensures.value
