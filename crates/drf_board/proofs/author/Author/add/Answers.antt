use Rattle.std.proofs.Common.{◌≡◌, sym, ap, ◌∙◌}
use Rattle.drf_board.specs.Chains.{end_of}
use Rattle.drf_board.proofs.Chaining.{adds_moves}
use Rattle.drf_board.proofs.author.Author.add.Goals as goal

pub compare_exchange-requires : goal.compare_exchange-requires
compare_exchange-requires g c =
    let head = c.self.invariant.3 in
    let pen = c.self.invariant.5 in
    let offer = c.plain-offer.ensures in
    let chain = ap (λ l. l.chain) offer.1 ∙ ap (λ w. w.key) c.self.invariant.4 in
    let last : c.self.inside.pen.nib.key ≡ end_of c.plain-offer.result.ask.chain c.self.inside.seen.log =
    pen.key ∙ ap (λ k. end_of k c.self.inside.seen.log) (sym chain) in (
      ap (λ w. w.tracked) head,
      c.self.invariant.1 ∙ sym (ap (λ w. w.book) head),
      pen.book ∙ sym (ap (λ w. w.book) head),
      offer.0,
      rw (ap (λ w. w.key) head, offer.3) (adds_moves c.self.inside.seen.log c.plain-offer.result.ask c.self.inside.pen.nib pen.right last),
    )
