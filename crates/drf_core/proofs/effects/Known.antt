-- Clients that are removed from a sorter one by one.
use Rattle.std.proofs.Common.{◌≡◌, ℕ, ◌+◌, ◌<◌, true, List, ◌∷◌, Some, drop, length, sym, ap, subst, ◌∙◌}
use Rattle.std.specs.Prelude.{slice_get}
use Rattle.drf_role.specs.Path.{Path}
use Rattle.drf_sorter.specs.Content.{Content, has_client, without_client}
use Rattle.drf_content.specs.Registering.{AreKnown, without_all}
use Rattle.drf_core.proofs.drafting.Cycle.{begins_at}

-- the next client is known, and the others are known after it is removed
pub record IsNextKnown (content : Content) (paths : List Path) (i : ℕ) (path : Path) : Type 0 where
  pub known : has_client content path ≡ true
  pub later : AreKnown (without_client content path) (drop (i + 1) paths)
  pub same : without_all content (drop i paths) ≡ without_all (without_client content path) (drop (i + 1) paths)

pub first_known : (content : Content) (paths : List Path) (i : ℕ) (path : Path) → i < length paths → slice_get paths i ≡ Some path
    → AreKnown content (drop i paths) → IsNextKnown content paths i path
first_known content paths i path within at known =
    let begins = begins_at paths i within in
    let is : begins.first ≡ path = let e : Some begins.first ≡ Some path = sym begins.at ∙ at in cc in
    let whole : drop i paths ≡ path ∷ drop (i + 1) paths = begins.rest ∙ ap (λ (p : Path). p ∷ drop (i + 1) paths) is in
    let all : AreKnown content (path ∷ drop (i + 1) paths) = subst (AreKnown content) whole known in
    record { known = all.0; later = all.1; same = ap (without_all content) whole }
