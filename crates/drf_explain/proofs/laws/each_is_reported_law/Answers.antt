use Rattle.drf_explain.proofs.EachLaws.{each_grant_is_an_offer, each_is_reported_at_its_timestamp, each_is_reported_once, explained_is_cut, live_rows_are_reported}
use Rattle.drf_explain.proofs.laws.each_is_reported_law.Goals as goal

pub returns-clause-once : goal.returns-clause-once
returns-clause-once c = each_is_reported_once

pub returns-clause-timestamp : goal.returns-clause-timestamp
returns-clause-timestamp c = each_is_reported_at_its_timestamp

pub returns-clause-grants : goal.returns-clause-grants
returns-clause-grants c = each_grant_is_an_offer

pub returns-clause-cut : goal.returns-clause-cut
returns-clause-cut c = explained_is_cut

pub returns-clause-live : goal.returns-clause-live
returns-clause-live c = live_rows_are_reported
