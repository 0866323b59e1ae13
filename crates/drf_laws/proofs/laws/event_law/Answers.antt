use Rattle.drf_laws.proofs.theorems.Events.{IsConsistent-effect}
use Rattle.drf_laws.proofs.theorems.Kept.{countable_after}
use Rattle.drf_laws.proofs.theorems.Offers.{can_accept}
use Rattle.drf_laws.proofs.theorems.SameLive.{welcome_from, new_offers-live}
use Rattle.drf_laws.proofs.theorems.Welcome.{no_case_of}
use Rattle.drf_laws.proofs.laws.event_law.Goals as goal

pub returns-clause-cases : goal.returns-clause-cases
returns-clause-cases c = no_case_of

pub returns-clause-live : goal.returns-clause-live
returns-clause-live c = λ limits rows other event live accepted.
    (welcome_from limits rows other event live accepted, new_offers-live limits rows other event live accepted)

pub returns-clause-starts : goal.returns-clause-starts
returns-clause-starts c = can_accept

pub returns-clause-consistent : goal.returns-clause-consistent
returns-clause-consistent c = λ limits rows event consistent given accepted.
    IsConsistent-effect limits rows consistent event given accepted

pub returns-clause-counts : goal.returns-clause-counts
returns-clause-counts c = λ limits rows event few numbered accepted.
    countable_after limits rows few numbered event accepted
