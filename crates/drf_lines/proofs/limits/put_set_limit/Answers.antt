use Rattle.drf_lines.proofs.Events.{limit_read}
use Rattle.drf_lines.proofs.Texts.{holds_at_ok}
use Rattle.json.specs.Print.{escape_byte}
use Rattle.drf_lines.proofs.Appends.{and_then}
use Rattle.drf_lines.proofs.limits.put_set_limit.Goals as goal

pub returns-clause-appends : goal.returns-clause-appends
unfolding escape_byte
returns-clause-appends c = and_then c.in_ok-put_limit.ensures.appends (and_then c.in_ok-put_role.ensures.appends c.put_byte.ensures)

pub returns-clause-read : goal.returns-clause-read
returns-clause-read c =
    holds_at_ok c.put_byte.result _ (limit_read c.args.role.now c.args.limit.now c.in_ok-put_role.ensures.read c.in_ok-put_limit.ensures.read)
