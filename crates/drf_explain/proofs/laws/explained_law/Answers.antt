use Rattle.drf_explain.proofs.ExplainedLaws.{grants_are_offers, live_rows_are_explained}
use Rattle.drf_explain.proofs.Reasons.{nothing_left_is_not_explained}
use Rattle.drf_explain.proofs.laws.explained_law.Goals as goal

pub returns-clause-grants : goal.returns-clause-grants
returns-clause-grants c = grants_are_offers

pub returns-clause-live : goal.returns-clause-live
returns-clause-live c = live_rows_are_explained

pub returns-clause-some : goal.returns-clause-some
returns-clause-some c = nothing_left_is_not_explained
