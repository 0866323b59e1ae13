-- Lemmas about `specs/PathLaws.antt`.
use Rattle.std.specs.Prelude.{◌-◌, ◌&&◌, slice_index_or, take, codes}
use Rattle.std.proofs.Math.Seq.{take-append_seam}
use Rattle.std.proofs.Common.{◌≡◌, ◌≢◌, true, false, [], ◌∷◌, ◌++◌, All, length, drop, refl, sym, ap, subst, ◌∙◌, inl, inr, append_assoc, ◌+◌, arith, length-append}
use Rattle.std.specs.Cmp.Lexicographic.{bytes_decides}
use Rattle.std.proofs.lemmas.Bool.{false_from_ne_true}
use Rattle.std.proofs.lemmas.Bool.Decides.{same_from_decides, Decides-and, Decides-like}
use Rattle.std.proofs.lemmas.List.{append-nil, same_from_push, get_or-append-add}
use Rattle.std.proofs.lemmas.List.Elements.{All-head, All-tail}
use Rattle.std.proofs.lemmas.Slice.Eq.{starts_is}
use Rattle.drf_role.specs.Text.{Text, same_text}
use Rattle.drf_role.specs.Path.{Path, same_path, begins_with, client_path, IsClientPath, role_part, framework_part}
use Rattle.drf_role.specs.Role.{IsComponent, IsRole}
use Rattle.drf_role.specs.PathLaws.{path_decides}

pub same_path-swap : (a b : Path) → same_path a b ≡ same_path b a
same_path-swap a b =
    same_from_decides (same_path a b) (same_path b a) (path_decides a b)
    (Decides-like (same_path b a) sym sym (path_decides b a))

-- ---- a client path determines its framework and its role

same_ends : (r s : Path) (f g : Text) → client_path r f ≡ client_path s g → (f ≡ g) × (r ≡ s)
same_ends r s f g same =
    let both : (r ++ codes "." ∷ []) ++ f ∷ [] ≡ (s ++ codes "." ∷ []) ++ g ∷ []
    = append_assoc r (codes "." ∷ []) (f ∷ []) ∙ same ∙ sym (append_assoc s (codes "." ∷ []) (g ∷ [])) in
    let last = same_from_push (r ++ codes "." ∷ []) (s ++ codes "." ∷ []) f g both in
    let first = same_from_push r s (codes ".") (codes ".") last.0 in
    (last.1, first.0)

pub same_path-client_path : (r s : Path) (f g : Text)
    → same_path (client_path r f) (client_path s g) ≡ (same_text f g && same_path r s)
same_path-client_path r s f g =
    same_from_decides (same_path (client_path r f) (client_path s g)) (same_text f g && same_path r s)
    (path_decides (client_path r f) (client_path s g))
    (Decides-like (same_text f g && same_path r s)
    (λ (h : (f ≡ g) × (r ≡ s)). λ i. client_path (h.1 i) (h.0 i))
    (same_ends r s f g)
    (Decides-and (same_text f g) (same_path r s) (bytes_decides f g) (path_decides r s)))

-- the role can be recovered from a client path
role_at : (r : Path) (a b : Text) → take (length (r ++ a ∷ b ∷ []) - 2) (r ++ a ∷ b ∷ []) ≡ r
role_at r a b =
    let e : length (r ++ a ∷ b ∷ []) - 2 ≡ length r = omega (arith, length-append r (a ∷ b ∷ [])) in
    rw e (take-append_seam r (a ∷ b ∷ []))

framework_at : (r : Path) (a b : Text) → slice_index_or (r ++ a ∷ b ∷ []) (length (r ++ a ∷ b ∷ []) - 1) [] ≡ b
framework_at r a b =
    let e : length (r ++ a ∷ b ∷ []) - 1 ≡ length r + 1 = omega (arith, length-append r (a ∷ b ∷ [])) in
    rw e (get_or-append-add r (a ∷ b ∷ []) 1 [])

pub role_part-client_path : (role : Path) (framework : Text) → role_part (client_path role framework) ≡ role
role_part-client_path role framework = role_at role _ framework

pub framework_part-client_path : (role : Path) (framework : Text) → framework_part (client_path role framework) ≡ framework
framework_part-client_path role framework = framework_at role _ framework

-- ---- no client path is a prefix of another

-- no part is `.`
abbrev pub NoDots : Path → Type 0
NoDots [] = Unit {0}
NoDots (part ∷ parts) = (part ≢ codes ".") × NoDots parts

no_dots-components : (parts : Path) → All IsComponent parts → NoDots parts
no_dots-components [] all = tt
no_dots-components (part ∷ parts) all = ((All-head IsComponent part parts all).no_dot, no_dots-components parts (All-tail IsComponent part parts all))

star_no_dot : codes "*" ≢ codes "."
star_no_dot e = cc

pub no_dots-role : (role : Path) → IsRole role → NoDots role
no_dots-role role (inl default) = subst NoDots (sym default) (star_no_dot, tt)
no_dots-role role (inr path) = no_dots-components role path.each

-- the first `.` shows where the role ends
ends_there : (first second : Path) (f g : Text) (rest : Path) → NoDots first → NoDots second → client_path first f ≡ client_path second g ++ rest → rest ≡ []
ends_there [] [] f g rest p q e = cc
ends_there [] (y ∷ ys) f g rest p q e = absurd (q.0 cc)
ends_there (x ∷ xs) [] f g rest p q e = absurd (p.0 cc)
ends_there (x ∷ xs) (y ∷ ys) f g rest p q e = ends_there xs ys f g rest p.1 q.1 cc

same_from_begins : (a b : Path) → IsClientPath a → IsClientPath b → begins_with a b ≡ true → a ≡ b
same_from_begins a b p q begins =
    let whole = (starts_is bytes_decides a b (begins_with a b) refl).0 begins in
    let rest = ends_there p.role q.role p.framework q.framework (drop (length b) a) (no_dots-role p.role p.right_role) (no_dots-role q.role q.right_role) (sym p.joined ∙ whole ∙ ap (λ n. n ++ drop (length b) a) q.joined) in
    whole ∙ ap (λ n. b ++ n) rest ∙ append-nil b

pub client_paths-apart : (a b : Path) → IsClientPath a → IsClientPath b → a ≢ b → begins_with a b ≡ false
client_paths-apart a b p q other = false_from_ne_true (begins_with a b) (λ begins. other (same_from_begins a b p q begins))
