use Rattle.drf_core.specs.Machine.{live}
use Rattle.drf_ask.proofs.answer.push_tasks.Goals as goal

pub returns : goal.returns
unfolding live
returns g c = rw (c.as_slice.ensures, c.in_ok-rows.ensures.rows) at c.push_listed.ensures
