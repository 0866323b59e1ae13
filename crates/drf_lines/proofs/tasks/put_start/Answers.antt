use Rattle.json.specs.Print.{escape_byte}
use Rattle.drf_lines.proofs.Appends.{and_then, regrouped}
use Rattle.drf_lines.proofs.Events.{start_read}
use Rattle.drf_lines.proofs.Texts.{holds_at_ok}
use Rattle.drf_lines.proofs.tasks.put_start.Goals as goal

pub returns-clause-appends : goal.returns-clause-appends
unfolding escape_byte
returns-clause-appends c =
    regrouped c.args.before.now _ _ (and_then c.in_ok-put_name.ensures.appends (and_then c.in_ok-put_bundle.ensures.appends c.put_byte.ensures))

pub returns-clause-read : goal.returns-clause-read
returns-clause-read c =
    holds_at_ok c.put_byte.result _ (start_read c.args.task.now c.in_ok-put_name.ensures.read c.in_ok-put_bundle.ensures.read)
