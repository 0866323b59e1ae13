use Rattle.std.proofs.Common.{◌≡◌, ◌++◌, List, length, map, reverse, take, sym, ap, subst, ◌∙◌, arith, length-append}
use Rattle.std.proofs.lemmas.List.{reverse-reverse}
use Rattle.std.proofs.Math.Seq.{take-append_seam}
use Rattle.drf_rows.specs.declared.rows.OfferRow.{OfferRow}
use Rattle.drf_holdings.specs.Listed.{offer_number}
use Rattle.drf_holdings.specs.Rising.{IsRising}
use Rattle.drf_holdings.proofs.Moved.{moved_all, moved_back, length_both}
use Rattle.drf_holdings.proofs.offers.move_all.Goals as goal

pub move_some-requires : goal.move_some-requires
move_some-requires c =
    let others = c.args.offers.now.items in
    subst (λ (os : List OfferRow). IsRising (map offer_number (c.args.rows.now ++ os)))
    (sym (ap reverse c.reverse.ensures.items ∙ reverse-reverse others)) c.requires

pub move_back-requires-clause-within : goal.move_back-requires-clause-within
move_back-requires-clause-within c =
    let prefix = c.move_some.ensures.prefix in
    let long = ap (λ (os : List OfferRow). length os) prefix.1 ∙ length-append c.args.rows.now prefix.0 in
    omega (arith, long, c.len-count.ensures.len)

pub move_back-requires-clause-room : goal.move_back-requires-clause-room
move_back-requires-clause-room c =
    let turned = c.reverse.new.self in
    let mid = c.move_some.new.offers in
    let both = length_both c.move_some.new.rows mid.items c.args.rows.now turned.items c.move_some.ensures.all in
    omega (arith, both, mid.ok.0, turned.ok.0, turned.ok.1, c.move_some.ensures.room, c.len-count.ensures.len)

pub returns-in-Ok-clause-ok : goal.returns-in-Ok-clause-ok
returns-in-Ok-clause-ok c =
    moved_all c.args.rows.now c.move_some.new.rows c.args.offers.now.items c.reverse.new.self.items c.move_some.new.offers.items
    c.reverse.ensures.items c.move_some.ensures.all c.in-Ok.ensures.moved

pub returns-in-Err-clause-err : goal.returns-in-Err-clause-err
returns-in-Err-clause-err c =
    let old : List OfferRow = c.args.rows.now in
    let prefix = c.move_some.ensures.prefix in
    let rows : c.move_back.new.rows ≡ old =
    c.move_back.ensures.rows ∙ (λ i. take (c.len-count.ensures.len i) (prefix.1 i)) ∙ take-append_seam old prefix.0 in (
      rows,
      moved_back old c.move_some.new.rows c.move_back.new.rows c.args.offers.now.items c.reverse.new.self.items c.move_some.new.offers.items
          c.move_back.new.offers.items c.reverse-in-Err.new.self.items c.reverse.ensures.items c.move_some.ensures.all c.move_back.ensures.all rows
          c.reverse-in-Err.ensures.items,
    )
