use Rattle.json.specs.Print.{escape_byte}
use Rattle.drf_lines.specs.StateLine.{head_line}
use Rattle.drf_lines.proofs.Appends.{and_then}
use Rattle.drf_lines.proofs.Rows.{head_read}
use Rattle.drf_lines.proofs.Texts.{holds_at_ok}
use Rattle.drf_lines.proofs.state_line.push_head.Goals as goal

pub returns-clause-appends : goal.returns-clause-appends
unfolding escape_byte head_line
returns-clause-appends c =
    and_then c.in_ok-put_number.ensures.appends (and_then c.in_ok-put_number-2.ensures.appends (and_then c.in_ok-put_number-3.ensures.appends c.put.ensures))

pub returns-clause-read : goal.returns-clause-read
returns-clause-read c =
    holds_at_ok c.put.result _ (head_read c.args.head.now c.put_number.ensures.small c.put_number-2.ensures.small c.put_number-3.ensures.small)
