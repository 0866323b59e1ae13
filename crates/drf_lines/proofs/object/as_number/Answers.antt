use Rattle.std.proofs.Common.{◌≡◌, None, Some, option_map, option_and_then, sym, ap, ◌∙◌}
use Rattle.json.specs.Find.{as_number}
use Rattle.json.specs.Value.{value_view}
use Rattle.serde_json.specs.Find.{as_u64}
use Rattle.drf_lines.specs.LineValue.{number_in, line_view}
use Rattle.drf_lines.proofs.LineValues.{number_seen}
use Rattle.drf_lines.proofs.object.as_number.Goals as goal

pub returns-in_err-as_number : goal.returns-in_err-as_number
unfolding line_view
returns-in_err-as_number c =
    let j = value_view c.args.value.now in
    let none : as_number j ≡ None = sym c.in_err-as_number.ensures in
    c.from_residual.ensures ∙ sym (ap (option_and_then as_u64) (number_seen j ∙ ap (option_map number_in) none))

pub returns : goal.returns
unfolding line_view
returns c =
    let j = value_view c.args.value.now in
    let some : as_number j ≡ Some c.in_ok-as_number.field-0.now = sym c.in_ok-as_number.ensures in
    c.whole_number.ensures ∙ sym (ap (option_and_then as_u64) (number_seen j ∙ ap (option_map number_in) some))
