use Rattle.std.proofs.Common.{List, subst, ap, ◌∙◌}
use Rattle.std.specs.List.{list_any, position}
use Rattle.drf_explain.specs.declared.finding.Finding.{Finding}
use Rattle.drf_why.specs.Pick.{is_inactive, is_nothing_free, is_of_client}
use Rattle.drf_why.specs.Places.{AreGrantsIn}
use Rattle.drf_why.proofs.turn.FoundTurn.of.Goals as goal

pub returns-clause-found : goal.returns-clause-found
returns-clause-found c = record {
  reported = λ path. c.in_ok-places.ensures path ∙ ap (position (is_of_client path)) c.as_slice-reported.ensures.value;
  untouched = λ path. c.in_ok-untouched.ensures path ∙ ap (position (is_of_client path)) c.as_slice.ensures.value;
  grants = subst (λ (findings : List Finding). AreGrantsIn findings c.in_ok-grants.grants) c.as_slice-reported.ensures.value c.in_ok-grants.ensures;
  inactive = c.has_inactive.ensures ∙ ap (list_any is_inactive) c.as_slice-reported.ensures.value;
  nothing_free = c.has_nothing_free.ensures ∙ ap (list_any is_nothing_free) c.as_slice-reported.ensures.value;
}
