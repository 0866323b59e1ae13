use Rattle.std.proofs.Common.{◌≡◌, ◌+◌, ◌*◌, ◌<◌, length, take, get_or, Some, refl, sym, ap, ◌∙◌, arith, take_all}
use Rattle.std.specs.Char.{digit_value}
use Rattle.std.specs.Str.Parse.{AllDigits, digits_value}
use Rattle.std.proofs.lemmas.Int.Digits.{digits_more, digits_value_more}
use Rattle.serde_json.specs.Data.{unsigned}
use Rattle.serde_json.specs.Read.{number_of}
use Rattle.drf_lines.proofs.LineNumbers.{number_of-few, prefix_below, digit_is}
use Rattle.drf_lines.proofs.number.read_digits.Goals as goal

pub loop-byte-init : goal.loop-byte-init
loop-byte-init c = (tt, refl)

pub overflow_mul-whole : goal.overflow_mul-whole
overflow_mul-whole c =
    let bytes = c.as_bytes-bytes.result.now in
    let below = prefix_below bytes c.loop-byte.byte-index c.loop-byte-test.true c.if-bytes-gt-FEW_DIGITS.false c.loop-byte.invariant.0 in
    omega (arith, c.loop-byte.invariant.1, below)

pub overflow_add-whole : goal.overflow_add-whole
overflow_add-whole c =
    let bytes = c.as_bytes-bytes.result.now in
    let below = prefix_below bytes c.loop-byte.byte-index c.loop-byte-test.true c.if-bytes-gt-FEW_DIGITS.false c.loop-byte.invariant.0 in
    let digit = digit_is (get_or bytes c.loop-byte.byte-index 0) (sym c.is_ascii_digit.ensures.value ∙ c.if-not-is_ascii_digit.false) in
    omega (arith, c.loop-byte.invariant.1, below, c.from.ensures, digit.0, digit.1)

pub loop-byte-preserved : goal.loop-byte-preserved
loop-byte-preserved c =
    let bytes = c.as_bytes-bytes.result.now in
    let i = c.loop-byte.byte-index in
    let byte = get_or bytes i 0 in
    let digit = digit_is byte (sym c.is_ascii_digit.ensures.value ∙ c.if-not-is_ascii_digit.false) in
    let more : digits_value 10 (take (i + 1) bytes) ≡ digits_value 10 (take i bytes) * 10 + digit_value byte = digits_value_more 10 bytes i c.loop-byte-test.true in
    (digits_more 10 bytes i c.loop-byte-test.true c.loop-byte.invariant.0 digit.1, omega (arith, more, digit.0, c.from.ensures, c.loop-byte.invariant.1))

pub returns : goal.returns
returns c =
    let bytes = c.as_bytes-bytes.result.now in
    let whole = take_all c.loop-byte.byte-index bytes c.loop-byte-test.false in
    let all : AllDigits 10 bytes = rw whole at c.loop-byte.invariant.0 in
    let value : c.loop-byte.whole ≡ digits_value 10 bytes = rw whole at c.loop-byte.invariant.1 in
    let some : 0 < length bytes = grind arith in
    ap number_of (sym c.as_bytes-bytes.ensures.value) ∙ number_of-few bytes all some c.if-bytes-gt-FEW_DIGITS.false
    ∙ ap (λ n. Some (unsigned n)) (sym value)
