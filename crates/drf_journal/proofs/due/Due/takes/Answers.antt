use Rattle.std.proofs.Common.{◌≡◌, ◌-◌, length, take, drop, true, ap, sym, ◌∙◌, subst, arith}
use Rattle.std.proofs.lemmas.Bool.Decides.{Decides-eqb}
use Rattle.std.proofs.lemmas.List.{take_all, length-drop}
use Rattle.std.proofs.lemmas.Slice.Eq.{starts_is}
use Rattle.drf_journal.specs.Checking.{DueLine, HasCome}
use Rattle.drf_journal.proofs.Checks.{come-more, come-next}
use Rattle.drf_journal.proofs.due.Due.takes.Goals as goal

pub returns-then-not-starts_with-clause-wrong : goal.returns-then-not-starts_with-clause-wrong
returns-then-not-starts_with-clause-wrong c = λ _ line has more same.
    let text = c.self.inside.text.items in
    let come = c.self.inside.come in
    let within = c.self.invariant in
    let tail : take (length c.deref.result.now - come) (drop come c.deref.result.now) ≡ drop come text =
    take_all _ _ (simp length-drop (omega arith)) ∙ ap (drop come) c.deref.ensures.value in
    let next = come-next text line c.args.bytes.now more come (subst (λ (d : DueLine). HasCome d line) (sym c.self.view_is) has)
    (ap (λ (d : DueLine). d.text) c.self.view_is ∙ same) in
    let yes : c.starts_with.result ≡ true = (starts_is Decides-eqb _ _ _ c.starts_with.ensures.value).1 more (tail ∙ next) in
    let no = c.if-not-starts_with.true in
    cc

pub returns-clause-right : goal.returns-clause-right
returns-clause-right c = λ _ line has.
    let text = c.self.inside.text.items in
    let come = c.self.inside.come in
    let within = c.self.invariant in
    let tail : take (length c.deref.result.now - come) (drop come c.deref.result.now) ≡ drop come text =
    take_all _ _ (simp length-drop (omega arith)) ∙ ap (drop come) c.deref.ensures.value in
    let split = (starts_is Decides-eqb _ _ _ c.starts_with.ensures.value).0 c.if-not-starts_with.false in
    come-more text line c.args.bytes.now _ come (subst (λ (d : DueLine). HasCome d line) (sym c.self.view_is) has)
    (sym tail ∙ split)
