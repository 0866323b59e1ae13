use Rattle.std.proofs.Common.{ap, sym, ◌∙◌}
use Rattle.std.proofs.lemmas.Bool.Decides.{same_from_decides, Decides-like}
use Rattle.std.specs.Cmp.Lexicographic.{bytes_decides}
use Rattle.drf_role.specs.Text.{same_text}
use Rattle.drf_role.specs.Parts.{parts_of, text_of}
use Rattle.drf_role.proofs.PartLaws.{text_of-parts_of}
use Rattle.drf_role.specs.Path.{same_path}
use Rattle.drf_role.specs.PathLaws.{path_decides}
use Rattle.drf_why.proofs.whom.is_of_role.Goals as goal

pub returns : goal.returns
returns c =
    let role = c.args.role.now in
    let text = c.args.text.now in
    let written = c.text.result.now in
    c.eq.ensures
    ∙ same_from_decides (same_text written text) (same_path role (parts_of text)) (bytes_decides written text)
    (Decides-like (same_path role (parts_of text)) (λ is. c.text.ensures.text ∙ ap text_of is ∙ text_of-parts_of text)
    (λ is. sym c.text.ensures.parts ∙ ap parts_of is) (path_decides role (parts_of text)))
