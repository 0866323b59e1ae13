use Rattle.std.proofs.lemmas.Result.{on_ok_weaker}
use Rattle.json.specs.Print.{escape_byte}
use Rattle.drf_lines.specs.TaskTexts.{tasks_members}
use Rattle.drf_lines.proofs.Appends.{and_then, and_more}
use Rattle.drf_lines.proofs.Events.{accept_read}
use Rattle.drf_lines.proofs.offers.put_accept.Goals as goal

pub returns-clause-appends : goal.returns-clause-appends
unfolding escape_byte
returns-clause-appends c =
    let tasks = rw c.as_slice.ensures.value at c.put_tasks.ensures.appends in
    and_then c.in_ok-put_timestamp.ensures.appends (and_then c.in_ok-put_name.ensures.appends
    (and_more (tasks_members c.args.accept.now.tasks) c.in_ok-put_answered.ensures.appends tasks))

pub returns-clause-read : goal.returns-clause-read
returns-clause-read c =
    let small = c.in_ok-put_answered.ensures.small in
    on_ok_weaker c.put_tasks.result
    (λ tasks. accept_read c.args.accept.now (small.0, c.in_ok-put_timestamp.ensures.small, small.1) c.in_ok-put_name.ensures.read tasks c.as_slice.ensures.right)
    (rw c.as_slice.ensures.value at c.put_tasks.ensures.read)
