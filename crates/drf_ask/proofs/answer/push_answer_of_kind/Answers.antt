use Rattle.drf_ask.proofs.answer.push_answer_of_kind.Goals as goal

pub returns-in-Tables : goal.returns-in-Tables
returns-in-Tables g c = rw c.in-Tables.is c.push_how_full.ensures

pub returns-in-Offers : goal.returns-in-Offers
returns-in-Offers g c = rw c.in-Offers.is c.push_offers.ensures

pub returns-in-Tasks : goal.returns-in-Tasks
returns-in-Tasks g c = rw c.in-Tasks.is c.push_tasks.ensures
