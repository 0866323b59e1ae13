use Rattle.std.proofs.Common.{refl, ne_eqb}
use Rattle.json.specs.Print.{escape_byte}
use Rattle.drf_lines.specs.OfferEvents.{usual_refusal}
use Rattle.drf_lines.proofs.Appends.{as_members}
use Rattle.drf_lines.proofs.offers.put_refusal.Goals as goal

pub returns : goal.returns
unfolding escape_byte
returns c =
    as_members (λ more. rw (ne_eqb c.args.refuse_ms usual_refusal c.if-refuse_ms-eq-USUAL_REFUSAL.false) refl) c.put_number.ensures.appends
