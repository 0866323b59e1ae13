use Rattle.drf_explain.proofs.Reasons.{granted, held_back, over_limit, below_threshold, reserved, nothing_left}
use Rattle.drf_explain.proofs.laws.reasons_law.Goals as goal

pub returns-clause-granted : goal.returns-clause-granted
returns-clause-granted c = granted

pub returns-clause-held_back : goal.returns-clause-held_back
returns-clause-held_back c = held_back

pub returns-clause-over_limit : goal.returns-clause-over_limit
returns-clause-over_limit c = over_limit

pub returns-clause-below_threshold : goal.returns-clause-below_threshold
returns-clause-below_threshold c = below_threshold

pub returns-clause-reserved : goal.returns-clause-reserved
returns-clause-reserved c = reserved

pub returns-clause-nothing_left : goal.returns-clause-nothing_left
returns-clause-nothing_left c = nothing_left
