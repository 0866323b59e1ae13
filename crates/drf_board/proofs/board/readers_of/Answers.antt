use Rattle.std.proofs.Common.{◌≡◌, [], ◌∷◌, ◌++◌, length, ap, sym, subst, ◌∙◌, arith, length-append, All}
use Rattle.std.proofs.lemmas.List.Elements.{All-push}
use Rattle.drf_board.proofs.board.readers_of.Goals as goal

pub loop-seat-preserved : goal.loop-seat-preserved
loop-seat-preserved g c =
    let items : c.push.new.self.items ≡ c.loop-seat.viewers.items ++ c.new.result ∷ [] = c.in_ok-push.ensures.items in (
      omega (arith, ap length items, length-append c.loop-seat.viewers.items (c.new.result ∷ []), c.loop-seat.invariant.0),
      subst (λ l. All (λ v. v ≡ c.args.prefix.now) l) (sym items)
          (All-push (λ v. v ≡ c.args.prefix.now) c.loop-seat.viewers.items c.new.result c.loop-seat.invariant.1 (c.new.ensures ∙ c.again.ensures)),
    )
