use Rattle.json.specs.Print.{escape_byte}
use Rattle.drf_lines.proofs.Events.{report_read}
use Rattle.drf_lines.proofs.Texts.{holds_at_ok}
use Rattle.drf_lines.proofs.event_line.put_report_request.Goals as goal

pub returns-clause-appends : goal.returns-clause-appends
unfolding escape_byte
returns-clause-appends c = c.put.ensures

pub returns-clause-read : goal.returns-clause-read
returns-clause-read c = holds_at_ok c.put.result _ report_read
