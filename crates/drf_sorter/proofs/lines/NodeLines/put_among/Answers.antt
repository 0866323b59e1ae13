use Rattle.std.proofs.Common.{◌≡◌, ◌∙◌, ◌++◌, ◌∷◌, drop, refl, slice_set, subst, sym, take}
use Rattle.drf_sorter.specs.Lines.{AreRising, with_line}
use Rattle.drf_sorter.proofs.LineLemmas.{rising_with}
use Rattle.drf_sorter.proofs.lines.NodeLines.put_among.Goals as goal

pub invariant_of-self : goal.invariant_of-self
invariant_of-self c =
    let lines = c.self.inside.lines.items in
    let put : with_line lines c.args.line ≡ slice_set lines c.in-Ok.at c.args.line =
    rw c.deref.ensures.value at (c.in-Ok.ensures.found c.args.line refl) in
    subst AreRising put (rising_with lines c.args.line c.self.invariant)

pub invariant_of-self-in-Err : goal.invariant_of-self-in-Err
invariant_of-self-in-Err c =
    let lines = c.self.inside.lines.items in
    let put : with_line lines c.args.line ≡ take c.in-Err.at lines ++ c.args.line ∷ drop c.in-Err.at lines =
    rw c.deref.ensures.value at (c.in-Err.ensures.absent c.args.line refl) in
    subst AreRising (put ∙ sym c.in_ok-insert-in-Err.ensures.items) (rising_with lines c.args.line c.self.invariant)
