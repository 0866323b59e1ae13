use Rattle.std.proofs.Common.{sym, ◌∙◌}
use Rattle.json.specs.Value.{value_view}
use Rattle.drf_lines.specs.LineValue.{line_view}
use Rattle.drf_lines.proofs.LineValues.{boolean_seen}
use Rattle.drf_lines.proofs.object.as_boolean.Goals as goal

pub returns : goal.returns
unfolding line_view
returns c = c.as_bool.ensures ∙ sym (boolean_seen (value_view c.args.value.now))
