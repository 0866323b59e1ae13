use Rattle.std.proofs.Common.{◌≡◌, List, ◌∷◌, [], not, ap, ◌∙◌}
use Rattle.drf_bundle.specs.Bundle.{covers, rest}
use Rattle.drf_bundle.specs.declared.resource.Resource.{Resource}
use Rattle.drf_rows.specs.Cycle.{free_of}
use Rattle.drf_row_laws.proofs.ReservationLaws.{found_known}
use Rattle.drf_rows.specs.Step.{first_case}
use Rattle.drf_rows.proofs.TaskLaws.{covers_from}
use Rattle.drf_rows.specs.Totals.{is_below_held}
use Rattle.drf_rows.specs.declared.reply.Refusal.TheVariants.{NotCovered, TooLarge}
use Rattle.drf_rows.specs.declared.rows.Rows.{Rows}
use Rattle.drf_laws.proofs.theorems.Tests.{below_held}
use Rattle.drf_core.proofs.refusal.late.refuse_total.Goals as goal

pub returns : goal.returns
returns c =
    let rows : Rows = c.args.tables.now.rows in
    let agent = c.args.agent.now in
    let total = c.args.total.now in
    let held = c.in_ok-held.held in
    let at = found_known rows agent c.requires.known in
    let is : held ≡ rest at.0.total (free_of rows at.0) = c.in_ok-held.ensures at.0 at.1 in
    let below : not c.covers.result ≡ is_below_held rows agent total =
    ap not (covers_from c.covers.result total held c.covers.ensures.given.0 c.covers.ensures.given.1 c.covers.ensures.covers)
    ∙ ap (λ (rs : List Resource). not (covers total rs)) is
    ∙ below_held rows agent at.0 total c.requires.consistent at.1 c.covers.ensures.given.0 in
    c.first_case.ensures
    ∙ (λ i. first_case ((below i, NotCovered) ∷ (c.is_too_large.ensures i, TooLarge) ∷ []))
