use Rattle.json.specs.Print.{escape_byte}
use Rattle.drf_lines.specs.StateLine.{row_line}
use Rattle.drf_lines.proofs.Appends.{and_then}
use Rattle.drf_lines.proofs.Rows.{framework_read}
use Rattle.drf_lines.proofs.Texts.{holds_at_ok}
use Rattle.drf_lines.proofs.frameworks.push_framework_row.Goals as goal

pub returns-clause-appends : goal.returns-clause-appends
unfolding escape_byte row_line
returns-clause-appends c =
    let clients = rw c.as_slice.ensures at c.in_ok-put_client_list.ensures.appends in
    and_then c.in_ok-put.ensures (and_then clients (and_then c.in_ok-put_name.ensures.appends c.put-2.ensures))

pub returns-clause-read : goal.returns-clause-read
returns-clause-read c =
    let clients = rw c.as_slice.ensures at c.in_ok-put_client_list.ensures.read in
    holds_at_ok c.put-2.result _ (framework_read c.args.row.now clients (c.in_ok-put_name.ensures.read, c.in_ok-put_name.ensures.text))
