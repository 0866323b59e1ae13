use Rattle.json.specs.Print.{escape_byte}
use Rattle.drf_lines.specs.StateLine.{end_line}
use Rattle.drf_lines.specs.Written.{IsText}
use Rattle.drf_lines.proofs.Appends.{and_then}
use Rattle.drf_lines.proofs.Rows.{end_read}
use Rattle.drf_lines.proofs.Texts.{holds_at_ok}
use Rattle.drf_lines.proofs.state_line.push_end.Goals as goal

pub returns-clause-appends : goal.returns-clause-appends
unfolding escape_byte end_line
returns-clause-appends c = and_then c.in_ok-put_number.ensures.appends (and_then c.in_ok-put_text.ensures c.put_byte.ensures)

pub returns-clause-read : goal.returns-clause-read
unfolding IsText
returns-clause-read c =
    holds_at_ok c.put_byte.result _ (end_read c.args.rows c.args.sha256.now c.put_number.ensures.small c.utf8.sha256)
