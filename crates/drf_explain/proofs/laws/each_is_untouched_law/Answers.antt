use Rattle.drf_explain.proofs.EachLaws.{each_is_untouched, live_turns_are_reported, turns_are_reported, untouched_is_reported}
use Rattle.drf_explain.proofs.laws.each_is_untouched_law.Goals as goal

pub returns-clause-reported : goal.returns-clause-reported
returns-clause-reported c = turns_are_reported

pub returns-clause-untouched : goal.returns-clause-untouched
returns-clause-untouched c = each_is_untouched

pub returns-clause-same : goal.returns-clause-same
returns-clause-same c = untouched_is_reported

pub returns-clause-live : goal.returns-clause-live
returns-clause-live c = live_turns_are_reported
