use Rattle.drf_sorter.proofs.ServedLemmas.{each_is_served_once, each_before_all_later}
use Rattle.drf_sorter.proofs.TurnLemmas.{each_has_its_turn}
use Rattle.drf_sorter.proofs.laws.everyone_is_served_law.Goals as goal

pub returns-clause-each_once : goal.returns-clause-each_once
returns-clause-each_once c = each_is_served_once

pub returns-clause-in_order : goal.returns-clause-in_order
returns-clause-in_order c = each_before_all_later

pub returns-clause-turn : goal.returns-clause-turn
returns-clause-turn c = each_has_its_turn
