use Rattle.std.proofs.Common.{◌<◌, length, sym, ◌∙◌, ap, subst}
use Rattle.drf_role.specs.Parts.{parts_of}
use Rattle.drf_role.specs.Spans.{text_in}
use Rattle.drf_role.proofs.SpanLemmas.{length-spans_from}
use Rattle.drf_role.proofs.joined.Joined.span.Goals as goal

pub span-requires : goal.span-requires
span-requires c =
    let size =
    ap length c.self.invariant.exact
    ∙ length-spans_from 0 (parts_of (text_in c.self.inside.kept))
    ∙ ap length c.self.view_is in
    subst (λ n. c.args.i < n) (sym size) c.requires
