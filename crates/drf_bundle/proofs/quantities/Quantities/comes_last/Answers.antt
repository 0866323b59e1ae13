use Rattle.std.proofs.Common.{IsTrue, List, subst}
use Rattle.drf_role.specs.Text.{text_below}
use Rattle.drf_bundle.specs.declared.quantities.Entry.{Entry}
use Rattle.drf_bundle.specs.Quantities.{is_in_order}
use Rattle.drf_bundle.proofs.PlaceLemmas.{behind_last}
use Rattle.drf_bundle.proofs.quantities.Quantities.comes_last.Goals as goal

pub returns-in-Some : goal.returns-in-Some
returns-in-Some c is_less =
    let ordered = subst (λ (es : List Entry). IsTrue (is_in_order es)) c.self.view_is c.self.invariant in
    let below : IsTrue (text_below c.in-Some.entry.now.label c.args.label.now) = cc (is_less, c.lt.ensures, c.text.ensures.text) in
    behind_last c.args.self.now c.args.label.now ordered c.in-Some.entry.now (cc (c.in-Some.ensures.value, c.deref.ensures.value, c.self.view_is)) below
