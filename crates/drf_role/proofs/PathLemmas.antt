-- The texts of the paths of clients.
use Rattle.std.proofs.Common.{◌≡◌, ℕ, ◌<◌, ◌≤◌, false, eqb, List, [], ◌∷◌, ◌++◌, length, take, drop, codes, ◌∙◌, ap, ⊎_elim, arith, append_assoc, take-append-drop, length-append, length-take-le, lit<}
use Rattle.std.specs.Str.{IsAscii}
use Rattle.std.proofs.lemmas.Bool.Decides.{nat_tests}
use Rattle.std.proofs.lemmas.List.Elements.{All-weaker}
use Rattle.std.proofs.lemmas.List.Splits.{slice_split_none}
use Rattle.std.proofs.lemmas.Str.{IsAscii-append}
use Rattle.std.proofs.lemmas.Str.Ascii.{IsAscii-nil, IsAscii-cons, IsAscii-from_all}
use Rattle.drf_role.specs.Name.{IsNameByte, IsName}
use Rattle.drf_role.specs.Parts.{parts_of, text_of}
use Rattle.drf_role.specs.Role.{IsRole}
use Rattle.drf_role.specs.Path.{client_path, IsClientPath, IsNodePath}
use Rattle.drf_role.proofs.PartLaws.{HasNoSlash, parts_of-append}
use Rattle.drf_role.proofs.RoleLaws.{parts_of_role, role_ascii}

byte_no_slash : (b : ℕ) → IsNameByte b → eqb b 47 ≡ false
byte_no_slash b h = grind (arith, nat_tests)

byte_ascii : (b : ℕ) → IsNameByte b → b < 128
byte_ascii b h = omega arith

pub name_no_slash : (name : List ℕ) → IsName name → HasNoSlash name
name_no_slash name h = All-weaker IsNameByte (λ b. eqb b 47 ≡ false) byte_no_slash name h.alphabet

pub name_ascii : (name : List ℕ) → IsName name → IsAscii name
name_ascii name h = IsAscii-from_all name (All-weaker IsNameByte (λ b. b < 128) byte_ascii name h.alphabet)

-- the text of a client's path, as the code writes it
abbrev pub client_text : List (List ℕ) → List ℕ → List ℕ
client_text role name = text_of role ++ codes "/./" ++ name

pub parts_of-client_text : (role : List (List ℕ)) (name : List ℕ) → IsRole role → IsName name → parts_of (client_text role name) ≡ client_path role name
parts_of-client_text role name r n =
    ap parts_of (append_assoc (text_of role) (codes "/./") name)
    ∙ parts_of-append (text_of role) (46 ∷ 47 ∷ name)
    ∙ ap (λ ps. ps ++ parts_of (46 ∷ 47 ∷ name)) (parts_of_role role r)
    ∙ ap (λ ps. role ++ (46 ∷ []) ∷ ps) (slice_split_none (λ b. eqb b 47) name (name_no_slash name n))

pub client_text_ascii : (role : List (List ℕ)) (name : List ℕ) → IsRole role → IsName name → IsAscii (client_text role name)
client_text_ascii role name r n =
    IsAscii-append (text_of role ++ codes "/./") name
    (IsAscii-append (text_of role) (codes "/./") (role_ascii role r)
    (IsAscii-cons 47 (46 ∷ 47 ∷ []) (lit< tt) (IsAscii-cons 46 (47 ∷ []) (lit< tt) (IsAscii-cons 47 [] (lit< tt) IsAscii-nil))))
    (name_ascii name n)

role_few : (role : List (List ℕ)) → IsRole role → length role ≤ 8
role_few role h = ⊎_elim (λ e. let n = ap length e in omega arith) (λ p. p.few) h

pub path_few : (path : List (List ℕ)) → IsClientPath path → length path ≤ 10
path_few path h =
    let n = ap length h.joined in
    omega (arith, role_few h.role h.right_role, length-append h.role (codes "." ∷ h.framework ∷ []))

-- a prefix of a client's path is the path of a node
pub node_from_path : (path : List (List ℕ)) (len : ℕ) → IsClientPath path → 1 ≤ len → len ≤ length path → IsNodePath (take len path)
node_from_path path len p some within = record {
  path = path;
  right_path = p;
  not_empty = λ e. let n = ap length e in omega (arith, length-take-le len path within);
  begins = (drop len path, take-append-drop len path);
}

pub node_few : (node : List (List ℕ)) → IsNodePath node → length node ≤ 10
node_few node h =
    let n = ap length h.begins.1 in
    omega (arith, path_few h.path h.right_path, length-append node h.begins.0)
