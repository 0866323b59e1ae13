use Rattle.std.proofs.Common.{eqb, ◌∙◌, ap}
use Rattle.std.specs.Cmp.Lexicographic.{pointwise}
use Rattle.drf_role.specs.Parts.{parts_of}
use Rattle.drf_role.proofs.PartLaws.{same_parts}
use Rattle.drf_role.proofs.joined.JoinedPartialEq.eq.Goals as goal

pub returns : goal.returns
returns c =
    c.eq.ensures
    ∙ same_parts c.text.result.now c.text-2.result.now
    ∙ ap (λ ps. pointwise (pointwise eqb) ps (parts_of c.text-2.result.now)) c.text.ensures.parts
    ∙ ap (pointwise (pointwise eqb) c.args.self.now) c.text-2.ensures.parts
