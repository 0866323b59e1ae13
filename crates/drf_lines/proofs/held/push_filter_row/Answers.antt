use Rattle.json.specs.Print.{escape_byte}
use Rattle.drf_lines.specs.StateLine.{row_line}
use Rattle.drf_lines.proofs.Appends.{and_then}
use Rattle.drf_lines.proofs.Rows.{filter_read}
use Rattle.drf_lines.proofs.Texts.{holds_at_ok}
use Rattle.drf_lines.proofs.held.push_filter_row.Goals as goal

pub returns-clause-appends : goal.returns-clause-appends
unfolding escape_byte row_line
returns-clause-appends c =
    and_then c.in_ok-put_name.ensures.appends (and_then c.in_ok-put_name-2.ensures.appends (and_then c.in_ok-put_bundle.ensures.appends (and_then c.in_ok-put_role.ensures.appends (and_then c.in_ok-put_number.ensures.appends c.put_byte.ensures))))

pub returns-clause-read : goal.returns-clause-read
returns-clause-read c =
    holds_at_ok c.put_byte.result _
    (filter_read c.args.row.now (c.in_ok-put_name.ensures.read, c.in_ok-put_name.ensures.text) (c.in_ok-put_name-2.ensures.read, c.in_ok-put_name-2.ensures.text)
    (c.in_ok-put_role.ensures.read, c.in_ok-put_role.ensures.text) (c.in_ok-put_bundle.ensures.read, c.in_ok-put_bundle.ensures.text) c.put_number.ensures.small)
