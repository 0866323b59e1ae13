use Rattle.std.proofs.Common.{◌∙◌, length, subst, sym}
use Rattle.drf_sorter.specs.Lines.{AreRising, BelongsBehind}
use Rattle.drf_sorter.proofs.LineLemmas.{put_last, rising_with}
use Rattle.drf_sorter.proofs.lines.NodeLines.put.Goals as goal

pub invariant_of-self-then-goes_last : goal.invariant_of-self-then-goes_last
invariant_of-self-then-goes_last c =
    let lines = c.self.inside.lines.items in
    let last : BelongsBehind c.args.line.path lines (length lines) =
    rw c.deref.ensures.value at (c.goes_last.ensures c.if-goes_last.true) in
    subst AreRising (put_last lines c.args.line last ∙ sym c.in_ok-push.ensures.items)
    (rising_with lines c.args.line c.self.invariant)
