-- Roles, their components and their texts.
use Rattle.std.proofs.Common.{◌≡◌, ℕ, ◌<◌, false, eqb, List, [], ◌∷◌, All, sym, ◌∙◌, ap, subst, ⊎_elim, arith, lit<}
use Rattle.std.specs.Str.{IsAscii}
use Rattle.std.proofs.lemmas.Bool.Decides.{nat_tests}
use Rattle.std.proofs.lemmas.List.Elements.{All-head, All-tail, All-weaker}
use Rattle.std.proofs.lemmas.Str.{IsAscii-append}
use Rattle.std.proofs.lemmas.Str.Ascii.{IsAscii-nil, IsAscii-cons, IsAscii-from_all}
use Rattle.drf_role.specs.Parts.{parts_of, text_of}
use Rattle.drf_role.specs.Role.{IsComponentByte, IsComponent, IsRolePath, IsRole, IsRoleText, default_role}
use Rattle.drf_role.proofs.PartLaws.{HasNoSlash, parts_of-text_of, text_of-parts_of}

byte_no_slash : (b : ℕ) → IsComponentByte b → eqb b 47 ≡ false
byte_no_slash b h = let ne = h.no_slash in grind (arith, nat_tests)

component_no_slash : (c : List ℕ) → IsComponent c → HasNoSlash c
component_no_slash c h = All-weaker IsComponentByte (λ b. eqb b 47 ≡ false) byte_no_slash c h.alphabet

pub no_slashes : (cs : List (List ℕ)) → All IsComponent cs → All HasNoSlash cs
no_slashes cs h = All-weaker IsComponent HasNoSlash component_no_slash cs h

-- the components of a role are the parts of its text
pub parts_of_role : (role : List (List ℕ)) → IsRole role → parts_of (text_of role) ≡ role
parts_of_role role h = ⊎_elim (λ e. ap (λ r. parts_of (text_of r)) e ∙ sym e) (λ p. path role p) h
  where
    path : (r : List (List ℕ)) → IsRolePath r → parts_of (text_of r) ≡ r
    path [] p = absurd (let h = p.some in omega arith)
    path (c ∷ cs) p = parts_of-text_of c cs (no_slashes (c ∷ cs) p.each)

-- a text is that of a role exactly if its parts are a role
pub role_from_text : (text : List ℕ) → IsRoleText text → IsRole (parts_of text)
role_from_text text h =
    subst IsRole (sym (parts_of_role h.0 h.1) ∙ ap parts_of h.2) h.1

pub text_from_role : (text : List ℕ) → IsRole (parts_of text) → IsRoleText text
text_from_role text h = (parts_of text, h, text_of-parts_of text)

byte_ascii : (b : ℕ) → IsComponentByte b → b < 128
byte_ascii b h = let v = h.visible in omega arith

path_ascii : (cs : List (List ℕ)) → All IsComponent cs → IsAscii (text_of cs)
path_ascii [] h = IsAscii-nil
path_ascii (c ∷ []) h =
    IsAscii-from_all c (All-weaker IsComponentByte (λ b. b < 128) byte_ascii c (All-head IsComponent c [] h).alphabet)
path_ascii (c ∷ d ∷ ds) h =
    IsAscii-append c (47 ∷ text_of (d ∷ ds)) (IsAscii-from_all c (All-weaker IsComponentByte (λ b. b < 128) byte_ascii c (All-head IsComponent c (d ∷ ds) h).alphabet)) (IsAscii-cons 47 (text_of (d ∷ ds)) (lit< tt) (path_ascii (d ∷ ds) (All-tail IsComponent c (d ∷ ds) h)))

star_ascii : IsAscii (text_of default_role)
star_ascii = IsAscii-cons 42 [] (lit< tt) IsAscii-nil

pub role_ascii : (role : List (List ℕ)) → IsRole role → IsAscii (text_of role)
role_ascii role h = ⊎_elim (λ e. subst (λ r. IsAscii (text_of r)) (sym e) star_ascii) (λ p. path_ascii role p.each) h

pub role_text_ascii : (text : List ℕ) → IsRoleText text → IsAscii text
role_text_ascii text h = subst IsAscii h.2 (role_ascii h.0 h.1)
