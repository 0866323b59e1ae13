use Rattle.std.proofs.Common.{◌≡◌, ◌-◌, ◌<◌, suc, length, take, IfOk, ◌∙◌, ap, subst, arith}
use Rattle.std.proofs.lemmas.Str.{IsCharBoundary-from_ascii}
use Rattle.drf_role.specs.Parts.{parts_of}
use Rattle.drf_role.proofs.SpanLemmas.{place_of, parts_of-prefix_at}
use Rattle.drf_role.proofs.joined.Joined.prefix.Goals as goal

pub range-requires-clause-end_boundary : goal.range-requires-clause-end_boundary
range-requires-clause-end_boundary c =
    let below : c.args.len - 1 < length c.args.self.now = omega (arith, c.requires.some, c.requires.within) in
    let place = place_of c.text.result.now c.args.self.now (c.args.len - 1) c.span-end.result c.text.ensures.text below c.span-end.ensures in
    IsCharBoundary-from_ascii c.text.result.now c.span-end.result.end c.text.ensures.ascii place.inside

pub returns : goal.returns
returns c =
    let text = c.text.result.now in
    let end = c.span-end.result.end in
    let below : c.args.len - 1 < length c.args.self.now = omega (arith, c.requires.some, c.requires.within) in
    let whole : suc (c.args.len - 1) ≡ c.args.len = omega (arith, c.requires.some) in
    let exact : end - 0 ≡ end = omega arith in
    let cut =
    ap parts_of (c.range.ensures.value ∙ ap (λ n. take n text) exact)
    ∙ parts_of-prefix_at text c.args.self.now (c.args.len - 1) c.span-end.result c.text.ensures.parts below c.span-end.ensures
    ∙ ap (λ n. take n c.args.self.now) whole in
    subst (λ parts. IfOk c.from_text.result (λ prefix. prefix ≡ parts)) cut c.from_text.ensures
