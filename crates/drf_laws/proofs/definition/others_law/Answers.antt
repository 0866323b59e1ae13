use Rattle.drf_row_laws.proofs.OthersLaws.{other_agents_stay, other_frameworks_stay, other_holdings_stay, ended_is_gone, removed_is_gone, activity_is_its_agents, cycle_only_offers}
use Rattle.drf_laws.proofs.SuppressionLaws.{suppression_is_its_clients}
use Rattle.drf_laws.proofs.definition.others_law.Goals as goal

pub returns-clause-agents : goal.returns-clause-agents
returns-clause-agents c = other_agents_stay

pub returns-clause-frameworks : goal.returns-clause-frameworks
returns-clause-frameworks c = other_frameworks_stay

pub returns-clause-holdings : goal.returns-clause-holdings
returns-clause-holdings c = other_holdings_stay

pub returns-clause-ended : goal.returns-clause-ended
returns-clause-ended c = ended_is_gone

pub returns-clause-removed : goal.returns-clause-removed
returns-clause-removed c = removed_is_gone

pub returns-clause-activity : goal.returns-clause-activity
returns-clause-activity c = activity_is_its_agents

pub returns-clause-suppression : goal.returns-clause-suppression
returns-clause-suppression c = suppression_is_its_clients

pub returns-clause-cycle : goal.returns-clause-cycle
returns-clause-cycle c = cycle_only_offers
