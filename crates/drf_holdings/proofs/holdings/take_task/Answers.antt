use Rattle.std.proofs.Common.{refl}
use Rattle.drf_holdings.proofs.Removed.{never}
use Rattle.drf_holdings.proofs.holdings.take_task.Goals as goal

pub returns-in-Offer : goal.returns-in-Offer
returns-in-Offer c = rw c.in-Offer.is (record { none = never c.args.tasks.now; same = refl })

pub returns-in-Task : goal.returns-in-Task
returns-in-Task c = rw c.in-Task.is c.take_named.ensures

pub returns-in-OffersOn : goal.returns-in-OffersOn
returns-in-OffersOn c = rw c.in-OffersOn.is (record { none = never c.args.tasks.now; same = refl })

pub returns-in-AllOn : goal.returns-in-AllOn
returns-in-AllOn c = rw c.in-AllOn.is c.take_on.ensures

pub returns-in-AllOf : goal.returns-in-AllOf
returns-in-AllOf c = rw c.in-AllOf.is c.take_of.ensures
