use Rattle.std.proofs.Common.{◌≡◌, true, length, ◌<◌, arith, ◌∙◌, sym}
use Rattle.std.specs.Char.{is_ascii_digit}
use Rattle.std.specs.List.{list_all}
use Rattle.std.proofs.lemmas.Bool.Decides.{nat_tests}
use Rattle.std.proofs.lemmas.Str.Parse.{parse_digits}
use Rattle.drf_text.proofs.DecimalLaws.{numerals}
use Rattle.drf_text.specs.Number.{are_digits}
use Rattle.drf_text.proofs.Exits.{end_from_parse}
use Rattle.drf_text.proofs.values.read_end.Goals as goal

pub returns : goal.returns
returns c =
    let text = c.args.text.now in
    let number : are_digits text ≡ true = sym c.are_digits.ensures ∙ c.if-not-are_digits.false in
    let digits : list_all is_ascii_digit text ≡ true = grind (arith, nat_tests, number) in
    let some : 0 < length text = grind (arith, nat_tests, number) in
    let parsed = parse_digits numerals 32 text c.parse.result c.parse.ensures.value.0 digits in
    rw c.ok.ensures.value (end_from_parse text c.parse.result number some parsed)
