use Rattle.std.proofs.Common.{[], Some, get_or, sym, ◌∙◌, ap, arith}
use Rattle.std.proofs.lemmas.Option.{slice_get-get_or}
use Rattle.std.proofs.lemmas.Str.{IsCharBoundary-from_ascii}
use Rattle.drf_role.proofs.SpanLemmas.{place_of, IsPlace}
use Rattle.drf_role.proofs.joined.Joined.part.Goals as goal

place : (c : goal.After-text) → IsPlace c.text.result.now (get_or c.args.self.now c.args.i []) c.span-span.result
place c = place_of c.text.result.now c.args.self.now c.args.i c.span-span.result c.text.ensures.text c.requires c.span-span.ensures

pub range-requires-clause-start_le_end : goal.range-requires-clause-start_le_end
range-requires-clause-start_le_end c = (place c).ordered

pub range-requires-clause-start_boundary : goal.range-requires-clause-start_boundary
range-requires-clause-start_boundary c =
    let p = place c in
    λ _. IsCharBoundary-from_ascii c.text.result.now c.span-span.result.start c.text.ensures.ascii (omega (arith, p.ordered, p.inside))

pub range-requires-clause-end_boundary : goal.range-requires-clause-end_boundary
range-requires-clause-end_boundary c =
    IsCharBoundary-from_ascii c.text.result.now c.span-span.result.end c.text.ensures.ascii (place c).inside

pub returns : goal.returns
returns c =
    let part = place_of c.text.result.now c.args.self.now c.args.i c.span-span.result c.text.ensures.text c.requires c.span-span.ensures in
    slice_get-get_or c.args.self.now c.args.i [] c.requires ∙ ap Some (sym (c.range.ensures.value ∙ part.cut))
