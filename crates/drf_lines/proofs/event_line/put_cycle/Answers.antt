use Rattle.std.proofs.Common.{rules, arith}
use Rattle.drf_lines.proofs.Events.{cycle_read}
use Rattle.drf_lines.proofs.Texts.{holds_at_ok}
use Rattle.json.specs.Print.{escape_byte}
use Rattle.drf_lines.proofs.Appends.{and_then}
use Rattle.drf_lines.proofs.event_line.put_cycle.Goals as goal

pub returns-clause-appends : goal.returns-clause-appends
unfolding escape_byte
returns-clause-appends c = and_then c.in_ok-put_number.ensures.appends c.put.ensures

pub returns-clause-read : goal.returns-clause-read
returns-clause-read c = holds_at_ok c.put.result _ (cycle_read c.args.at (search (rules, arith)))
