-- A client path determines its framework and its role.
use Rattle.std.specs.Prelude.{◌≡◌, ℕ, ◌&&◌, Bool, ◌==◌, List, [], ◌∷◌, ◌++◌, codes}
use Rattle.std.specs.Cmp.Lexicographic.{pointwise, bytes_decides}
use Rattle.std.proofs.Common.{sym, ◌∙◌, append_assoc}
use Rattle.std.proofs.lemmas.Bool.Decides.{same_from_decides, Decides-and, Decides-like}
use Rattle.std.proofs.lemmas.List.{same_from_push}
use Rattle.drf_role.specs.Path.{client_path}
use Rattle.drf_role.proofs.PartLaws.{paths_decided}

-- the two texts, or the two paths, are equal
abbrev pub same_text : List ℕ → List ℕ → Bool
same_text = pointwise ◌==◌

abbrev pub same_path : List (List ℕ) → List (List ℕ) → Bool
same_path = pointwise same_text

same_ends : (r s : List (List ℕ)) (f g : List ℕ) → client_path r f ≡ client_path s g → (f ≡ g) × (r ≡ s)
same_ends r s f g same =
    let both : (r ++ codes "." ∷ []) ++ f ∷ [] ≡ (s ++ codes "." ∷ []) ++ g ∷ []
    = append_assoc r (codes "." ∷ []) (f ∷ []) ∙ same ∙ sym (append_assoc s (codes "." ∷ []) (g ∷ [])) in
    let last = same_from_push (r ++ codes "." ∷ []) (s ++ codes "." ∷ []) f g both in
    let first = same_from_push r s (codes ".") (codes ".") last.0 in
    (last.1, first.0)

pub same_path-clients : (r s : List (List ℕ)) (f g : List ℕ) → same_path (client_path r f) (client_path s g) ≡ (same_text f g && same_path r s)
same_path-clients r s f g = same_from_decides (same_path (client_path r f) (client_path s g)) (same_text f g && same_path r s)
    (paths_decided (client_path r f) (client_path s g))
    (Decides-like (same_text f g && same_path r s)
    (λ (h : (f ≡ g) × (r ≡ s)). λ i. client_path (h.1 i) (h.0 i))
    (same_ends r s f g)
    (Decides-and (same_text f g) (same_path r s) (bytes_decides f g) (paths_decided r s)))
