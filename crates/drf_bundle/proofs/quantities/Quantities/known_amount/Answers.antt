use Rattle.std.proofs.Common.{◌≡◌, List, IsTrue, Some, refl, ap, subst}
use Rattle.drf_bundle.specs.declared.quantities.Entry.{Entry}
use Rattle.drf_bundle.specs.Quantities.{amount_of, is_in_order}
use Rattle.drf_bundle.proofs.PlaceLemmas.{amount_at, named_at, named_in_free_slot}
use Rattle.drf_bundle.proofs.quantities.Quantities.known_amount.Goals as goal

-- the label is at its place, and the entry there is the one that was read
pub returns-in-Ok : goal.returns-in-Ok
returns-in-Ok c =
    let ordered = subst (λ (es : List Entry). IsTrue (is_in_order es)) c.self.view_is c.self.invariant in
    let value = amount_at _ _ _ c.index-entry.result.now ordered c.in-Ok.ensures.found in
    let same : c.thousandths.result ≡ amount_of c.args.self.now c.args.label.now = cc in
    rw (named_at c.args.self.now c.args.label.now _ c.in-Ok.ensures.found) (ap Some same)

-- the label is not there
pub returns-in-Err : goal.returns-in-Err
returns-in-Err c = rw (named_in_free_slot c.args.self.now c.args.label.now _ c.in-Err.ensures.absent) refl
