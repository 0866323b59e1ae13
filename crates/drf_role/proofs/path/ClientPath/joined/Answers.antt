use Rattle.std.proofs.Common.{◌≡◌, sym, ◌∙◌, ap, subst}
use Rattle.std.specs.String.{string_bytes}
use Rattle.std.specs.Str.{IsAscii}
use Rattle.drf_role.specs.Parts.{parts_of}
use Rattle.drf_role.proofs.PathLemmas.{client_text, parts_of-client_text, client_text_ascii}
use Rattle.drf_role.proofs.path.ClientPath.joined.Goals as goal

pub cut-requires : goal.cut-requires
cut-requires c =
    let role = c.self.inside.role in
    let framework = c.self.inside.framework in
    let text : string_bytes c.in_ok-text.text ≡ client_text role framework = cc c.in_ok-text.ensures in
    subst IsAscii (sym text) (client_text_ascii role framework c.self.invariant.right_role c.self.invariant.right_name)

pub returns-clause-parts : goal.returns-clause-parts
returns-clause-parts c =
    let role = c.self.inside.role in
    let framework = c.self.inside.framework in
    let text : string_bytes c.in_ok-text.text ≡ client_text role framework = cc c.in_ok-text.ensures in
    rw (← c.self.view_is) (c.in_ok-joined.ensures ∙ (ap parts_of text ∙ parts_of-client_text role framework c.self.invariant.right_role c.self.invariant.right_name))
