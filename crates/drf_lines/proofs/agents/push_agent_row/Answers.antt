use Rattle.json.specs.Print.{escape_byte}
use Rattle.drf_lines.specs.StateLine.{row_line}
use Rattle.drf_lines.proofs.Appends.{and_then}
use Rattle.drf_lines.proofs.Rows.{agent_read}
use Rattle.drf_lines.proofs.Texts.{holds_at_ok}
use Rattle.drf_lines.proofs.agents.push_agent_row.Goals as goal

pub returns-clause-appends : goal.returns-clause-appends
unfolding escape_byte row_line
returns-clause-appends c =
    and_then c.in_ok-put_boolean.ensures (and_then c.in_ok-put_name.ensures.appends (and_then c.in_ok-put_bundle.ensures.appends c.put_byte.ensures))

pub returns-clause-read : goal.returns-clause-read
returns-clause-read c =
    holds_at_ok c.put_byte.result _
    (agent_read c.args.row.now (c.in_ok-put_name.ensures.read, c.in_ok-put_name.ensures.text) (c.in_ok-put_bundle.ensures.read, c.in_ok-put_bundle.ensures.text))
