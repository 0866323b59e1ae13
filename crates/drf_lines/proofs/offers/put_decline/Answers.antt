use Rattle.json.specs.Print.{escape_byte}
use Rattle.serde_json.specs.Data.{no_members}
use Rattle.drf_lines.proofs.Appends.{and_then, and_more}
use Rattle.drf_lines.proofs.Events.{decline_read}
use Rattle.drf_lines.proofs.Texts.{holds_at_ok}
use Rattle.drf_lines.proofs.offers.put_decline.Goals as goal

pub returns-clause-appends : goal.returns-clause-appends
unfolding escape_byte
returns-clause-appends c =
    and_then c.in_ok-put_timestamp.ensures.appends (and_then c.in_ok-put_name.ensures.appends
    (and_more no_members c.in_ok-put_answered.ensures.appends c.put_byte.ensures))

pub returns-clause-read : goal.returns-clause-read
returns-clause-read c =
    let small = c.in_ok-put_answered.ensures.small in
    holds_at_ok c.put_byte.result _ (decline_read c.args.decline.now (small.0, c.in_ok-put_timestamp.ensures.small, small.1) c.in_ok-put_name.ensures.read)
