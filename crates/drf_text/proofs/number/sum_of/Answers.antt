use Rattle.std.proofs.Common.{◌≡◌, true, length, ◌+◌, ◌*◌, ◌<◌, arith}
use Rattle.std.specs.Char.{is_ascii_digit}
use Rattle.std.specs.List.{list_all}
use Rattle.std.specs.Str.Parse.{digits_value}
use Rattle.std.proofs.lemmas.Bool.Decides.{nat_tests}
use Rattle.std.proofs.lemmas.Str.Parse.{parse_digits}
use Rattle.drf_text.proofs.DecimalLaws.{numerals}
use Rattle.drf_text.proofs.Numbers.{too_large, large_from_parse}
use Rattle.drf_text.proofs.number.sum_of.Goals as goal

pub returns-in-Err : goal.returns-in-Err
returns-in-Err c =
    let text = c.args.whole.now in
    let digits : list_all is_ascii_digit text ≡ true = grind (arith, nat_tests, c.requires.digits) in
    let some : 0 < length text = grind (arith, nat_tests, c.requires.digits) in
    let parsed = parse_digits numerals 64 text c.parse.result c.parse.ensures.value.0 digits in
    let large = large_from_parse c.parse.result c.in-Err.field-0 (digits_value 10 text) c.in-Err.is parsed (λ small. (some, omega (arith, small))) in
    too_large (digits_value 10 text * 1000 + c.args.thousandths) (omega arith)
