use Rattle.std.proofs.Common.{sym, ◌∙◌, ap}
use Rattle.drf_role.specs.Parts.{text_of}
use Rattle.drf_role.specs.Spans.{text_in}
use Rattle.drf_role.proofs.PartLaws.{text_of-parts_of}
use Rattle.drf_role.proofs.joined.Joined.text.Goals as goal

pub returns-clause-text : goal.returns-clause-text
returns-clause-text c =
    c.text.ensures ∙ sym (text_of-parts_of (text_in c.self.inside.kept)) ∙ ap text_of c.self.view_is
