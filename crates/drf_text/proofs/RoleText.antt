-- The text of a role other than `*`: its bytes, and that it is accepted as a role.
use Rattle.std.proofs.Common.{◌≡◌, ℕ, Bool, true, false, eqb, sym, ap, subst, ◌∙◌, inl, inr, refl, arith, true≢false, ne_eqb}
use Rattle.std.proofs.lemmas.List.Elements.{All-weaker}
use Rattle.drf_role.specs.Parts.{parts_of, text_of}
use Rattle.drf_role.specs.Path.{Path}
use Rattle.drf_role.specs.PathLaws.{same_path_itself}
use Rattle.drf_role.specs.Role.{IsComponentByte, IsComponent, IsRolePath, IsRole, default_role}
use Rattle.drf_bundle.specs.Bundle.{is_default}
use Rattle.drf_text.proofs.Names.{is_blank, HasNone, is_role}
use Rattle.drf_text.proofs.CutLemmas.{is_between, joined_has_none}
use Rattle.drf_role.proofs.TestLaws.{role_decides}

pub component_no_colon : (b : ℕ) → IsComponentByte b → eqb b 58 ≡ false
component_no_colon b is = ne_eqb b 58 is.no_colon

pub component_no_blank : (b : ℕ) → IsComponentByte b → is_blank b ≡ false
component_no_blank b is = rw (ne_eqb b 32 (λ e. omega (arith, e, is.visible.0)), ne_eqb b 9 (λ e. omega (arith, e, is.visible.0))) refl

pub component_not_between : (b : ℕ) → IsComponentByte b → is_between 59 b ≡ false
component_not_between b is = rw (component_no_blank b is, ne_eqb b 59 is.no_semicolon) refl

-- a byte that is neither in a component nor `/` is not in the text of a role
pub role_has_none : (p : ℕ → Bool) (role : Path) → IsRolePath role → p 47 ≡ false → ((b : ℕ) → IsComponentByte b → p b ≡ false)
    → HasNone p (text_of role)
role_has_none p role is slash apart =
    joined_has_none p 47 role slash
    (All-weaker IsComponent (HasNone p) (λ component of_role. All-weaker IsComponentByte (λ b. p b ≡ false) apart component of_role.alphabet) role is.each)

pub role_test : (role : Path) → IsRole role → parts_of (text_of role) ≡ role → is_role (text_of role) ≡ true
role_test role is read = (role_decides (text_of role)).1 (subst IsRole (sym read) is)

-- a role other than `*` is a path
pub reserved_path : (role : Path) → IsRole role → is_default role ≡ false → IsRolePath role
reserved_path role (inl default) other = absurd (true≢false (sym (ap is_default default ∙ same_path_itself default_role) ∙ other))
reserved_path role (inr path) other = path
