use Rattle.std.proofs.Common.{◌≡◌, ℕ, List, length, sym, ap, subst, ◌∙◌}
use mathlib.Core.List.{IsPrefix}
use Rattle.std.proofs.lemmas.List.{length-map}
use Rattle.drf_board.specs.Chains.{entries_of, links_of, end_of}
use Rattle.drf_board.specs.declared.history.Link.{Link}
use Rattle.drf_board.proofs.Chaining.{looks_moves}
use Rattle.drf_board.proofs.author.Author.recall.Goals as goal

pub compare_exchange-requires : goal.compare_exchange-requires
compare_exchange-requires g c =
    let head = c.self.invariant.3 in
    let pen = c.self.invariant.5 in
    let offer = c.plain-offer.ensures in
    let own : List Link = c.self.inside.seen.log in
    let both : List Link = c.learn.new.self.log in
    let chain = ap (λ l. l.chain) offer.1 ∙ ap (λ w. w.key) c.self.invariant.4 in
    let last : c.self.inside.pen.nib.key ≡ end_of c.plain-offer.result.ask.chain own = pen.key ∙ ap (λ k. end_of k own) (sym chain) in
    let less : IsPrefix own both = subst (λ (l : List Link). IsPrefix l both) (ap (λ s. s.log) c.again-both.ensures) c.learn.ensures.2 in
    let links : length (entries_of g.K.Naming.slate.chain own) ≡ length (links_of g.K.Naming.slate.chain own) =
    length-map (links_of g.K.Naming.slate.chain own) (λ l. l.entry) in
    let count : c.plain-offer.result.ask.next ≡ length (links_of c.plain-offer.result.ask.chain own) =
    ap (λ l. l.next) offer.1 ∙ c.self.invariant.0 ∙ links ∙ ap (λ (k : ℕ). length (links_of k own)) (sym chain) in (
      ap (λ w. w.tracked) head,
      c.learn.ensures.0 ∙ (ap (λ s. s.book) c.again-both.ensures ∙ (c.self.invariant.1 ∙ sym (ap (λ w. w.book) head))),
      pen.book ∙ sym (ap (λ w. w.book) head),
      offer.0,
      rw (ap (λ w. w.key) head, offer.3) (looks_moves own both c.plain-offer.result.ask c.self.inside.pen.nib pen.right last less count),
    )
