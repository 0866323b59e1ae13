use Rattle.std.proofs.Common.{sym, ◌∙◌}
use Rattle.json.specs.Value.{value_view}
use Rattle.drf_lines.specs.LineValue.{line_view}
use Rattle.drf_lines.proofs.LineValues.{text_seen}
use Rattle.drf_lines.proofs.object.as_text.Goals as goal

pub returns : goal.returns
unfolding line_view
returns c = c.as_str.ensures ∙ sym (text_seen (value_view c.args.value.now))
