use Rattle.std.proofs.Common.{◌≡◌, refl, sym, ap, subst, ◌∙◌}
use Rattle.drf_rows.specs.Consistent.{offers_counted}
use Rattle.drf_rows.specs.Step.{live_rows}
use Rattle.drf_rows.specs.declared.rows.Rows.{Rows}
use Rattle.drf_content.specs.Content.{content_of}
use Rattle.drf_content.proofs.theorems.Put.{content_of-begun}
use Rattle.drf_state.proofs.placing.Parts.begin.Goals as goal

pub returns-clause-agree : goal.returns-clause-agree
returns-clause-agree g c = record {
  live = subst (λ (r : Rows). live_rows r ≡ r) (sym c.begin.ensures.rows) refl;
  settled = c.begin.ensures.settled;
  uncounted = c.begin.ensures.counted;
  sorted = c.in_ok-open.ensures.empty ∙ sym (content_of-begun c.args.head) ∙ ap content_of (sym c.begin.ensures.rows);
  counts = ap (λ (r : Rows). offers_counted r.frameworks) (sym c.begin.ensures.rows);
}
