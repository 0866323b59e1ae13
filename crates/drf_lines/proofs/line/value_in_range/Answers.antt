use Rattle.std.proofs.Common.{sym, ap, ◌∙◌}
use Rattle.std.specs.Option.{ok_or}
use Rattle.json.specs.Json.{value}
use Rattle.json.specs.Lex.{tokens}
use Rattle.drf_lines.specs.declared.fault.LineFault.TheVariants.{NotJson}
use Rattle.drf_lines.specs.LineValue.{line_view}
use Rattle.drf_lines.proofs.LineReads.{whole_in_range, whole_out_of_range}
use Rattle.drf_lines.proofs.line.value_in_range.Goals as goal

pub returns-then-not-is_in_range : goal.returns-then-not-is_in_range
returns-then-not-is_in_range c =
    ap (λ o. ok_or o NotJson) (whole_out_of_range (value 127 (tokens c.args.text.now)) _ _ c.in_ok-value.ensures.ok (sym c.is_in_range.ensures ∙ c.if-not-is_in_range.true))

pub returns : goal.returns
unfolding line_view
returns c =
    ap (λ o. ok_or o NotJson) (whole_in_range (value 127 (tokens c.args.text.now)) _ c.in_ok-value.ensures.ok (sym c.is_in_range.ensures ∙ c.if-not-is_in_range.false))
