use Rattle.std.proofs.Common.{◌≡◌, true, [], Some, IfSome, ap, subst}
use Rattle.std.specs.Option.{ok_or}
use Rattle.json.specs.Json.{value}
use Rattle.json.specs.Lex.{tokens}
use Rattle.json.specs.Value.{value_view}
use Rattle.drf_lines.specs.declared.fault.LineFault.TheVariants.{NotJson}
use Rattle.drf_lines.specs.LineValue.{line_view, is_in_range}
use Rattle.drf_lines.proofs.LineReads.{whole_in_range}
use Rattle.drf_lines.proofs.line.text_value.Goals as goal

pub returns-in-Some : goal.returns-in-Some
unfolding line_view
returns-in-Some c =
    let is = subst (λ o. IfSome o (λ f. value 127 (tokens c.args.text.now) ≡ Some (value_view f, []))) c.in-Some.is c.in_ok-found.ensures.found in
    let range = subst (λ o. IfSome o (λ f. is_in_range (value_view f) ≡ true)) c.in-Some.is c.in_ok-found.ensures.range in
    ap (λ o. ok_or o NotJson) (whole_in_range (value 127 (tokens c.args.text.now)) _ is range)
