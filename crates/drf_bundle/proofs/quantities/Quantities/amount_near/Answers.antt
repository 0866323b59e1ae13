use Rattle.std.proofs.Common.{List, IsTrue, sym, subst}
use Rattle.drf_bundle.specs.declared.quantities.Entry.{Entry}
use Rattle.drf_bundle.specs.Quantities.{is_in_order}
use Rattle.drf_bundle.proofs.PlaceLemmas.{amount_at, amount_unnamed}
use Rattle.drf_bundle.proofs.quantities.Quantities.amount_near.Goals as goal

-- the label is at its place, and the entry there is the one that was read
pub returns-in-Some : goal.returns-in-Some
returns-in-Some c =
    let ordered = subst (λ (es : List Entry). IsTrue (is_in_order es)) c.self.view_is c.self.invariant in
    let value = amount_at _ _ _ c.index-entry.result.now ordered c.in-Some.ensures.found in
    cc

-- the label is not there
pub returns-in-None : goal.returns-in-None
returns-in-None c = sym (amount_unnamed c.args.self.now c.args.label.now c.in-None.ensures.none)
