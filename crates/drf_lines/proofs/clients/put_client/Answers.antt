use Rattle.json.specs.Print.{escape_byte}
use Rattle.drf_lines.proofs.Appends.{and_then}
use Rattle.drf_lines.proofs.Texts.{holds_at_ok}
use Rattle.drf_lines.proofs.clients.put_client.Goals as goal

pub returns-clause-appends : goal.returns-clause-appends
unfolding escape_byte
returns-clause-appends c =
    and_then c.in_ok-put_number.ensures.appends (and_then c.in_ok-put_role.ensures.appends (and_then c.in_ok-put_boolean.ensures c.put_byte.ensures))

pub returns-clause-read : goal.returns-clause-read
returns-clause-read c =
    holds_at_ok c.put_byte.result _
    (record { role = c.in_ok-put_role.ensures.read; text = c.in_ok-put_role.ensures.text; small = c.put_number.ensures.small })
