use Rattle.std.proofs.Common.{◌-◌, length, take, drop, sym, ap, ◌∙◌, arith}
use Rattle.std.proofs.lemmas.Bool.Decides.{Decides-eqb}
use Rattle.std.proofs.lemmas.Slice.Eq.{starts_is}
use Rattle.drf_role.specs.Parts.{parts_of}
use Rattle.drf_role.proofs.TextLaws.{cmp_above}
use Rattle.drf_sorter.proofs.BehindLemmas.{ends_behind, part_fits}
use Rattle.drf_sorter.proofs.lines.is_beside.Goals as goal

pub slice_bounds-prefix-count : goal.slice_bounds-prefix-count
slice_bounds-prefix-count c =
    let text = c.as_bytes-text.result.now in
    part_fits c.args.path.now (c.len-last.result - 1) c.part-part.result.now text c.part-part.ensures
    (omega (arith, c.len-last.ensures.len)) (c.as_bytes-text.ensures.value ∙ c.text.ensures.text)

pub returns-then-lt : goal.returns-then-lt
returns-then-lt c is =
    let path = c.args.path.now in
    let other = c.args.other.now in
    let text = c.as_bytes-text.result.now in
    let its = c.as_bytes.result.now in
    let prefix = take (length text - length c.part-part.result.now) text in
    ends_behind path other (c.len-last.result - 1) c.part-part.result.now c.part.result.now text its (drop (length prefix) its)
    c.part-part.ensures (omega (arith, c.len-last.ensures.len)) c.part.ensures
    (cmp_above c.part.result.now c.part-part.result.now (sym c.if-lt.ensures))
    (c.as_bytes-text.ensures.value ∙ c.text.ensures.text)
    (ap parts_of c.as_bytes-text.ensures.value ∙ c.text.ensures.parts)
    (ap parts_of c.as_bytes.ensures.value ∙ c.text-then-lt.ensures.parts)
    ((starts_is Decides-eqb its prefix c.starts_with.result c.starts_with.ensures.value).0 is)
