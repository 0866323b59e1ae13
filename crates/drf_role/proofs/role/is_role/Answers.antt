use Rattle.std.proofs.Common.{◌≡◌, codes, ap, sym, ◌∙◌, refl, inl, inr, ⊎_elim}
use Rattle.std.specs.Cmp.Lexicographic.{bytes_decides}
use Rattle.drf_role.specs.Role.{default_role}
use Rattle.std.proofs.lemmas.Bool.{false≢true}
use Rattle.drf_role.specs.Parts.{text_of}
use Rattle.drf_role.proofs.PartLaws.{text_of-parts_of}
use Rattle.drf_role.proofs.RoleLaws.{role_from_text, text_from_role}
use Rattle.drf_role.proofs.role.is_role.Goals as goal

pub returns-then-eq : goal.returns-then-eq
returns-then-eq c =
    let same : c.args.text.now ≡ codes "*" = (bytes_decides c.args.text.now (codes "*")).0 (sym (c.if-eq.ensures)) in
    (λ _. (default_role, inl refl, sym same), λ _. refl)

pub returns : goal.returns
returns c =
    let text = c.args.text.now in (
      λ e. text_from_role text (inr (c.is_role_path.ensures.0 e)),
      λ h. ⊎_elim (λ e. let same : text ≡ codes "*" = sym (text_of-parts_of text) ∙ ap text_of e in
          absurd (false≢true (c.if-eq.ensures ∙ (bytes_decides text (codes "*")).1 same))) (λ p. c.is_role_path.ensures.1 p) (role_from_text text h),
    )
