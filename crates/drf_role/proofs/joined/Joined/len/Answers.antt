use Rattle.std.proofs.Common.{length, ◌∙◌, ap}
use Rattle.drf_role.specs.Parts.{parts_of}
use Rattle.drf_role.specs.Spans.{text_in}
use Rattle.drf_role.proofs.SpanLemmas.{length-spans_from}
use Rattle.drf_role.proofs.joined.Joined.len.Goals as goal

pub returns : goal.returns
returns c =
    c.len.ensures
    ∙ ap length c.self.invariant.exact
    ∙ length-spans_from 0 (parts_of (text_in c.self.inside.kept))
    ∙ ap length c.self.view_is
