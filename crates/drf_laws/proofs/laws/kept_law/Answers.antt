use Rattle.drf_laws.proofs.theorems.Kept.{few_agents_kept, few_offers_kept, numbers_bounded, sound_total, filters_bounded, consistent-live, consistent-clock}
use Rattle.drf_laws.proofs.laws.kept_law.Goals as goal

pub returns-clause-numbers : goal.returns-clause-numbers
returns-clause-numbers c = λ limits rows kept.
    (few_agents_kept limits rows kept, few_offers_kept limits rows kept, numbers_bounded limits rows kept)

pub returns-clause-totals : goal.returns-clause-totals
returns-clause-totals c = λ limits rows label kept. sound_total limits rows kept label

pub returns-clause-filters : goal.returns-clause-filters
returns-clause-filters c = filters_bounded

pub returns-clause-live : goal.returns-clause-live
returns-clause-live c = consistent-live

pub returns-clause-clock : goal.returns-clause-clock
returns-clause-clock c = consistent-clock
