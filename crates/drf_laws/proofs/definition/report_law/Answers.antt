use Rattle.drf_row_laws.proofs.ReportLaws.{total_is_reported, held_is_reported, amounts_are_above_zero, count_is_reported, nodes_rise, nodes_begin_paths}
use Rattle.drf_row_laws.proofs.ReportedShares.{shares_are_lowest}
use Rattle.drf_laws.proofs.definition.report_law.Goals as goal

pub returns-clause-total : goal.returns-clause-total
returns-clause-total c = total_is_reported

pub returns-clause-held : goal.returns-clause-held
returns-clause-held c = held_is_reported

pub returns-clause-above_zero : goal.returns-clause-above_zero
returns-clause-above_zero c = amounts_are_above_zero

pub returns-clause-count : goal.returns-clause-count
returns-clause-count c = count_is_reported

pub returns-clause-lowest : goal.returns-clause-lowest
returns-clause-lowest c = shares_are_lowest

pub returns-clause-order : goal.returns-clause-order
returns-clause-order c = nodes_rise

pub returns-clause-nodes : goal.returns-clause-nodes
returns-clause-nodes c = nodes_begin_paths
