-- The empty path has no limit.
use Rattle.std.specs.Prelude.{◌≡◌, Bool, true, false, List, [], ◌∷◌, Option, Some, None, Result, Ok, Err, OnOk, OnErr}
use Rattle.std.specs.Map.{lookup, remove_entry}
use Rattle.std.proofs.Common.{refl, ap, ◌∙◌, ⊎_elim, cond, arith}
use Rattle.indexmap.specs.IndexMap.{insert_entry}
use Rattle.drf_role.specs.Path.{Path, same_path}
use Rattle.drf_role.specs.Role.{IsRole, IsRolePath}
use Rattle.drf_bundle.specs.declared.quantities.Entry.{Entry}

abbrev pub Limit : Type 0
Limit = Path × List Entry

pub no_role : IsRole [] → ⊥
no_role right = ⊎_elim (λ e. cc) (λ (p : IsRolePath []). omega (arith, p.some)) right

not_empty : (role : Path) → IsRole role → same_path [] role ≡ false
not_empty [] right = absurd (no_role right)
not_empty (p ∷ ps) right = refl

nobody_put : (role : Path) (limit : List Entry) (es : List Limit) → IsRole role → lookup (same_path []) es ≡ None
    → lookup (same_path []) (insert_entry same_path es role limit) ≡ None
nobody_put role limit [] right none = λ i. cond (not_empty role right i) (Some limit) None
nobody_put role limit (e ∷ es) right none = by (same_path [] e.0) refl (same_path role e.0) none (nobody_put role limit es right)
  where
    by : (b : Bool) → same_path [] e.0 ≡ b → (s : Bool)
        → ◌≡◌ {A = Option (List Entry)} (cond b (Some e.1) (lookup (same_path []) es)) None
        → (lookup (same_path []) es ≡ None → lookup (same_path []) (insert_entry same_path es role limit) ≡ None)
        → lookup (same_path []) (cond s ((e.0, limit) ∷ es) (e ∷ insert_entry same_path es role limit)) ≡ None
    by true is s some more = cc
    by false is true rest more = (λ i. cond (is i) (Some limit) (lookup (same_path []) es)) ∙ rest
    by false is false rest more = (λ i. cond (is i) (Some e.1) (lookup (same_path []) (insert_entry same_path es role limit))) ∙ more rest

pub nobody_left : (role : Path) (es : List Limit) → lookup (same_path []) es ≡ None → lookup (same_path []) (remove_entry (same_path role) es) ≡ None
nobody_left role [] none = refl
nobody_left role (e ∷ es) none = by (same_path [] e.0) refl (same_path role e.0) none (nobody_left role es)
  where
    by : (b : Bool) → same_path [] e.0 ≡ b → (s : Bool)
        → ◌≡◌ {A = Option (List Entry)} (cond b (Some e.1) (lookup (same_path []) es)) None
        → (lookup (same_path []) es ≡ None → lookup (same_path []) (remove_entry (same_path role) es) ≡ None)
        → lookup (same_path []) (cond s es (e ∷ remove_entry (same_path role) es)) ≡ None
    by true is s some more = cc
    by false is true rest more = rest
    by false is false rest more = (λ i. cond (is i) (Some e.1) (lookup (same_path []) (remove_entry (same_path role) es))) ∙ more rest

-- whether a limit is stored, or memory runs out
module _ {T E : Type 0} (role : Path) (limit : List Entry) (old new : List Limit) where
  pub nobody_after : (r : Result T E) → OnOk r (new ≡ insert_entry same_path old role limit) → OnErr r (new ≡ old) → IsRole role
      → lookup (same_path []) old ≡ None → lookup (same_path []) new ≡ None
  nobody_after (Ok x) put err right none = ap (λ (es : List Limit). lookup (same_path []) es) put ∙ nobody_put role limit old right none
  nobody_after (Err e) ok same right none = ap (λ (es : List Limit). lookup (same_path []) es) same ∙ none
