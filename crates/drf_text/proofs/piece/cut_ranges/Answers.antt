use Rattle.std.proofs.Common.{lit<, refl}
use Rattle.std.proofs.lemmas.Str.Pattern.{strip_suffix_char}
use Rattle.drf_text.proofs.Cuts.{ranges_closed, ranges_without_dash, ranges_open}
use Rattle.drf_text.proofs.piece.cut_ranges.Goals as goal

pub returns-then-not-are_ranges : goal.returns-then-not-are_ranges
returns-then-not-are_ranges c =
    let closed = rw c.in-Some.is at (strip_suffix_char 93 c.args.rest.now c.strip_suffix.result c.strip_suffix.ensures.cases (lit< tt)) in
    (refl, ranges_without_dash c.args.rest.now c.in-Some.text.now closed (cc))

pub returns-else-not-are_ranges : goal.returns-else-not-are_ranges
returns-else-not-are_ranges c =
    let closed = rw c.in-Some.is at (strip_suffix_char 93 c.args.rest.now c.strip_suffix.result c.strip_suffix.ensures.cases (lit< tt)) in
    ranges_closed c.args.rest.now c.in-Some.text.now closed (cc)

pub returns-in-None : goal.returns-in-None
returns-in-None c =
    let open_end = rw c.in-None.is at (strip_suffix_char 93 c.args.rest.now c.strip_suffix.result c.strip_suffix.ensures.cases (lit< tt)) in
    (refl, ranges_open c.args.rest.now open_end)
