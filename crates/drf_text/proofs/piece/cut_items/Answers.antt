use Rattle.std.proofs.Common.{lit<, refl}
use Rattle.std.proofs.lemmas.Str.Pattern.{strip_suffix_char}
use Rattle.drf_text.proofs.Cuts.{items_closed, items_open}
use Rattle.drf_text.proofs.piece.cut_items.Goals as goal

pub returns-in-Some : goal.returns-in-Some
returns-in-Some c =
    let closed = rw c.in-Some.is at (strip_suffix_char 125 c.args.rest.now c.strip_suffix.result c.strip_suffix.ensures.cases (lit< tt)) in
    items_closed c.args.rest.now c.in-Some.text.now closed

pub returns-in-None : goal.returns-in-None
returns-in-None c =
    let open_end = rw c.in-None.is at (strip_suffix_char 125 c.args.rest.now c.strip_suffix.result c.strip_suffix.ensures.cases (lit< tt)) in
    (refl, items_open c.args.rest.now open_end)
