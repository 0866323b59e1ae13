use Rattle.std.proofs.Common.{rules, arith}
use Rattle.drf_lines.proofs.Events.{rescind_read}
use Rattle.drf_lines.proofs.Texts.{holds_at_ok}
use Rattle.json.specs.Print.{escape_byte}
use Rattle.drf_lines.proofs.Appends.{and_then}
use Rattle.drf_lines.proofs.offers.put_rescind.Goals as goal

pub returns-clause-appends : goal.returns-clause-appends
unfolding escape_byte
returns-clause-appends c = and_then c.in_ok-put_number.ensures.appends c.put_byte.ensures

pub returns-clause-read : goal.returns-clause-read
returns-clause-read c = holds_at_ok c.put_byte.result _ (rescind_read c.args.offer (search (rules, arith)))
