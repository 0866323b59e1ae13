-- Sorting paths into serving order, one by one: no path is lost, and each comes before all later ones.
use Rattle.std.specs.Prelude.{◌≡◌, Bool, true, false, not, cond, List, [], ◌∷◌}
use Rattle.std.specs.List.{AllByRecursion, IsDistinct, list_all}
use Rattle.std.specs.List.Sorted.{IsPermutation}
use Rattle.std.proofs.Common.{◌≢◌, refl, sym, ap, ◌∙◌}
use Rattle.std.proofs.lemmas.Bool.{false≢true, cond_both, and_from, and_parts}
use Rattle.std.proofs.lemmas.List.Sorted.{IsPermutation-refl, IsPermutation-sym, IsPermutation-trans, IsPermutation-cons, IsPermutation-middle}
use Rattle.std.proofs.lemmas.Map.Keys.{IsDistinct-head, IsDistinct-tail}
use Rattle.drf_role.specs.Path.{Path, IsClientPath, same_path, begins_with}
use Rattle.drf_role.specs.PathLaws.{path_decides}
use Rattle.drf_role.proofs.PathLaws.{client_paths-apart}
use Rattle.drf_rows.specs.Share.{Standing, stands_before, is_serving_order}
use Rattle.drf_bundle.proofs.ListLaws.{each_from_both}
use Rattle.drf_sorter.proofs.theorems.OrderLaws.{stands_before-total, stands_before-transitive}
use Rattle.drf_sorter.specs.Served.{Weighs}

-- a path is inserted before the first path that it comes before
abbrev placed : Standing → Path → List Path → List Path
placed s p [] = p ∷ []
placed s p (q ∷ qs) = cond (stands_before s p q) (p ∷ q ∷ qs) (q ∷ placed s p qs)

abbrev pub sorted : Standing → List Path → List Path
sorted s [] = []
sorted s (p ∷ ps) = placed s p (sorted s ps)

-- ---- no path is lost or doubled

each_placed : (P : Path → Type 0) (s : Standing) (p : Path) (ps : List Path)
    → P p → AllByRecursion P ps → AllByRecursion P (placed s p ps)
each_placed P s p [] here all = (here, tt)
each_placed P s p (q ∷ qs) here all =
    cond_both (stands_before s p q) (p ∷ q ∷ qs) (q ∷ placed s p qs) (AllByRecursion P)
    (λ before. (here, all)) (λ after. (all.0, each_placed P s p qs here all.1))

each_sorted : (P : Path → Type 0) (s : Standing) (ps : List Path)
    → AllByRecursion P ps → AllByRecursion P (sorted s ps)
each_sorted P s [] all = tt
each_sorted P s (p ∷ ps) all = each_placed P s p (sorted s ps) all.0 (each_sorted P s ps all.1)

moved_placed : (s : Standing) (p : Path) (ps : List Path) → IsPermutation (p ∷ ps) (placed s p ps)
moved_placed s p [] = IsPermutation-refl (p ∷ [])
moved_placed s p (q ∷ qs) =
    cond_both (stands_before s p q) (p ∷ q ∷ qs) (q ∷ placed s p qs) (IsPermutation (p ∷ q ∷ qs))
    (λ before. IsPermutation-refl (p ∷ q ∷ qs))
    (λ after. IsPermutation-trans (p ∷ q ∷ qs) (q ∷ p ∷ qs) (q ∷ placed s p qs)
    (IsPermutation-sym (q ∷ p ∷ qs) (p ∷ q ∷ qs) (IsPermutation-middle (q ∷ []) p qs))
    (IsPermutation-cons q (p ∷ qs) (placed s p qs) (moved_placed s p qs)))

pub moved_sorted : (s : Standing) (ps : List Path) → IsPermutation ps (sorted s ps)
moved_sorted s [] = IsPermutation-refl []
moved_sorted s (p ∷ ps) =
    IsPermutation-trans (p ∷ ps) (p ∷ sorted s ps) (placed s p (sorted s ps))
    (IsPermutation-cons p ps (sorted s ps) (moved_sorted s ps)) (moved_placed s p (sorted s ps))

-- ---- each path comes before all later ones

-- neither path begins with the other
abbrev Apart : Path → Path → Type 0
Apart a b = (begins_with a b ≡ false) × (begins_with b a ≡ false)

all_placed : (t : Path → Bool) (s : Standing) (p : Path) (ps : List Path)
    → t p ≡ true → list_all t ps ≡ true → list_all t (placed s p ps) ≡ true
all_placed t s p [] here all = and_from (t p) true here refl
all_placed t s p (q ∷ qs) here all =
    let parts = and_parts (t q) (list_all t qs) all in
    cond_both (stands_before s p q) (p ∷ q ∷ qs) (q ∷ placed s p qs) (λ ps. list_all t ps ≡ true)
    (λ before. and_from (t p) (list_all t (q ∷ qs)) here all)
    (λ after. and_from (t q) (list_all t (placed s p qs)) parts.0 (all_placed t s p qs here parts.1))

module _ (s : Standing) (weighs : Weighs s) where
  -- a path that comes before another comes before all that the other comes before
  all_beyond : (p q : Path) (ps : List Path) → stands_before s p q ≡ true
      → list_all (stands_before s q) ps ≡ true → list_all (stands_before s p) ps ≡ true
  all_beyond p q [] before all = refl
  all_beyond p q (r ∷ rs) before all =
      let parts = and_parts (stands_before s q r) (list_all (stands_before s q) rs) all in
      and_from (stands_before s p r) (list_all (stands_before s p) rs)
      (stands_before-transitive s weighs p q r before parts.0) (all_beyond p q rs before parts.1)

  ordered_placed : (p : Path) (ps : List Path) → AllByRecursion (Apart p) ps
      → is_serving_order s ps ≡ true → is_serving_order s (placed s p ps) ≡ true
  ordered_placed p [] apart ordered = refl
  ordered_placed p (q ∷ qs) apart ordered =
      let parts = and_parts (list_all (stands_before s q) qs) (is_serving_order s qs) ordered in
      cond_both (stands_before s p q) (p ∷ q ∷ qs) (q ∷ placed s p qs) (λ ps. is_serving_order s ps ≡ true)
      (λ before. and_from (list_all (stands_before s p) (q ∷ qs)) (is_serving_order s (q ∷ qs))
      (and_from (stands_before s p q) (list_all (stands_before s p) qs) before (all_beyond p q qs before parts.0)) ordered)
      (λ after.
      let back : stands_before s q p ≡ true =
      stands_before-total s p q apart.0.0 apart.0.1 ∙ ap not after in
      and_from (list_all (stands_before s q) (placed s p qs)) (is_serving_order s (placed s p qs))
      (all_placed (stands_before s q) s p qs back parts.0) (ordered_placed p qs apart.1 parts.1))

  pub ordered_sorted : (ps : List Path) → AllByRecursion IsClientPath ps → IsDistinct same_path ps
      → is_serving_order s (sorted s ps) ≡ true
  ordered_sorted [] right distinct = refl
  ordered_sorted (p ∷ ps) right distinct =
      let apart : AllByRecursion (Apart p) ps =
      each_from_both IsClientPath (λ q. same_path p q ≡ false) (Apart p) ps (apart_from p right.0) right.1
      (IsDistinct-head same_path p ps distinct) in
      ordered_placed p (sorted s ps) (each_sorted (Apart p) s ps apart)
      (ordered_sorted ps right.1 (IsDistinct-tail same_path p ps distinct))
    where
      apart_from : (p : Path) → IsClientPath p → (q : Path) → IsClientPath q → same_path p q ≡ false → Apart p q
      apart_from p one q other names =
          let differ : p ≢ q = λ e. false≢true (sym names ∙ (path_decides p q).1 e) in
          (client_paths-apart p q one other differ, client_paths-apart q p other one (λ e. differ (sym e)))
