use Rattle.drf_core.proofs.effects.Once.{offer_once, task_once}
use Rattle.drf_core.proofs.events.release.is_one.Goals as goal

pub returns-in-Offer : goal.returns-in-Offer
returns-in-Offer c = λ one rows consistent. rw c.in-Offer.is (offer_once c.in-Offer.field-0 rows consistent)

pub returns-in-Task : goal.returns-in-Task
returns-in-Task c = λ one rows consistent. rw c.in-Task.is (task_once c.in-Task.framework.now c.in-Task.name.now rows consistent)
