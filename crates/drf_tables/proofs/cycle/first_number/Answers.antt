use Rattle.drf_tables.proofs.cycle.Appended.{first_is, first_none}
use Rattle.drf_tables.proofs.cycle.first_number.Goals as goal

pub returns-in-Some : goal.returns-in-Some
returns-in-Some c = first_is c.args.offers.now c.in-Some.offer.now c.args.next c.in-Some.ensures.value

pub returns-in-None : goal.returns-in-None
returns-in-None c = first_none c.args.offers.now c.args.next c.in-None.ensures.value
