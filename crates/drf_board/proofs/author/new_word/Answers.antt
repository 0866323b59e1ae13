use Rattle.std.proofs.Common.{sym, ◌∙◌, ap}
use Rattle.drf_board.proofs.Chaining.{pen_moves}
use Rattle.drf_board.proofs.author.new_word.Goals as goal

pub compare_exchange-requires : goal.compare_exchange-requires
compare_exchange-requires c =
    let head = c.requires in
    let offer = c.plain-offer.ensures in
    let pen = c.no_pen-pen.ensures in
    let book = ap (λ s. s.book) c.again-known.ensures ∙ sym (ap (λ w. w.book) head) in (
      ap (λ w. w.tracked) head,
      book,
      pen.0 ∙ book,
      offer.0,
      rw (ap (λ w. w.key) head, pen.1, offer.3, c.again-known.ensures) (pen_moves c.args.seen.now.log c.plain-offer.result.ask),
    )
