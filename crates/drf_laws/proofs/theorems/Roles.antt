-- The roles of a new framework without repetitions, and its clients.
use Rattle.std.specs.Prelude.{◌≡◌, ◌≤◌, Bool, true, false, not, List, [], ◌∷◌, ◌++◌, length, map, filter}
use Rattle.std.specs.List.{list_any, list_all, AllByRecursion}
use Rattle.std.proofs.Common.{refl, sym, ap, ◌∙◌, inl, inr, cond, append_assoc, arith}
use Rattle.std.proofs.lemmas.Bool.{cases_Bool, and_parts, not-true}
use Rattle.std.proofs.lemmas.List.{append-nil, length-append}
use Rattle.std.proofs.lemmas.List.Elements.{filter-append}
use Rattle.std.proofs.lemmas.Map.Views.{any-filter_same}
use Rattle.drf_role.specs.Path.{Path, same_path}
use Rattle.drf_role.specs.PathLaws.{same_path-true}
use Rattle.drf_rows.specs.Members.{distinct, new_client}
use Rattle.drf_rows.specs.Consistent.{are_distinct_roles}
use Rattle.drf_bundle.proofs.ListLaws.{each_filter}
use Rattle.drf_laws.proofs.theorems.Releases.{all_kept}

-- ---- a list without repetitions

-- the role is equal to the other
abbrev pub is_role : Path → Path → Bool
is_role role r = same_path r role

-- the role is different from the other
abbrev pub is_other : Path → Path → Bool
is_other role r = not (same_path role r)

any_other : (first role : Path) → same_path first role ≡ false → (roles : List Path)
    → list_any (is_role role) (filter (is_other first) roles) ≡ list_any (is_role role) roles
any_other first role apart =
    any-filter_same (is_role role) (is_other first) true
    (λ r same. ap (is_other first) (same_path-true r role same) ∙ ap not apart)

-- if one role is appended, it is dropped if it is in the list already
distinct-more : (roles : List Path) (role : Path)
    → distinct (roles ++ role ∷ [])
    ≡ cond (list_any (is_role role) (distinct roles)) (distinct roles) (distinct roles ++ role ∷ [])
distinct-more [] role = refl
distinct-more (first ∷ roles) role =
    ap (λ (rs : List Path). first ∷ filter (is_other first) rs) (distinct-more roles role)
    ∙ elim (cases_Bool (same_path first role)) [
      | inl same ↦ rw same (by_same same (list_any (is_role role) kept))
      | inr other ↦ rw (other, any_other first role other kept) (by_other other (list_any (is_role role) kept))
    ]
  where
    kept : List Path
    kept = distinct roles

    by_same : same_path first role ≡ true → (b : Bool)
        → first ∷ filter (is_other first) (cond b kept (kept ++ role ∷ [])) ≡ first ∷ filter (is_other first) kept
    by_same same true = refl
    by_same same false =
        rw (filter-append (is_other first) kept (role ∷ []), same)
        (ap (λ (rs : List Path). first ∷ rs) (append-nil (filter (is_other first) kept)))

    by_other : same_path first role ≡ false → (b : Bool)
        → first ∷ filter (is_other first) (cond b kept (kept ++ role ∷ []))
        ≡ cond b (first ∷ filter (is_other first) kept) (first ∷ filter (is_other first) kept ++ role ∷ [])
    by_other other true = refl
    by_other other false = rw (filter-append (is_other first) kept (role ∷ []), other) refl

pub distinct-known : (roles kept : List Path) (role : Path)
    → kept ≡ distinct roles → list_any (is_role role) kept ≡ true → kept ≡ distinct (roles ++ role ∷ [])
distinct-known roles kept role is known =
    is ∙ sym (distinct-more roles role
    ∙ ap (λ (b : Bool). cond b (distinct roles) (distinct roles ++ role ∷ []))
    (ap (list_any (is_role role)) (sym is) ∙ known))

pub distinct-new : (roles kept : List Path) (role : Path)
    → kept ≡ distinct roles → list_any (is_role role) kept ≡ false → kept ++ role ∷ [] ≡ distinct (roles ++ role ∷ [])
distinct-new roles kept role is new =
    ap (λ (rs : List Path). rs ++ role ∷ []) is
    ∙ sym (distinct-more roles role
    ∙ ap (λ (b : Bool). cond b (distinct roles) (distinct roles ++ role ∷ []))
    (ap (list_any (is_role role)) (sym is) ∙ new))

-- appending roles to a list loses no role
pub distinct-grows : (roles more : List Path) → length (distinct roles) ≤ length (distinct (roles ++ more))
distinct-grows roles [] = rw (append-nil roles) (omega arith)
distinct-grows roles (role ∷ more) =
    let one : length (distinct roles) ≤ length (distinct (roles ++ role ∷ []))
    = rw (distinct-more roles role) (by (list_any (is_role role) (distinct roles))) in
    let all = distinct-grows (roles ++ role ∷ []) more in
    let same = ap (λ (rs : List Path). length (distinct rs)) (append_assoc roles (role ∷ []) more) in
    omega (arith, one, all, same)
  where
    by : (b : Bool) → length (distinct roles) ≤ length (cond b (distinct roles) (distinct roles ++ role ∷ []))
    by true = omega arith
    by false = omega (arith, length-append (distinct roles) (role ∷ []))

-- each role occurs once
all_pass_kept : (p : Path → Bool) (rs : List Path) → list_all p (filter p rs) ≡ true
all_pass_kept p [] = refl
all_pass_kept p (r ∷ rs) = elim (cases_Bool (p r)) [
  | inl stays ↦ rw (stays, stays) (all_pass_kept p rs)
  | inr goes ↦ rw goes (all_pass_kept p rs)
]

pub apart-filter : (q : Path → Bool) (rs : List Path) → are_distinct_roles rs ≡ true → are_distinct_roles (filter q rs) ≡ true
apart-filter q [] apart = refl
apart-filter q (r ∷ rs) apart =
    let parts = and_parts (list_all (is_other r) rs) (are_distinct_roles rs) apart in
    elim (cases_Bool (q r)) [
      | inl stays ↦ rw (stays, all_kept (is_other r) q rs parts.0) (apart-filter q rs parts.1)
      | inr goes ↦ rw goes (apart-filter q rs parts.1)
    ]

pub distinct_apart : (roles : List Path) → are_distinct_roles (distinct roles) ≡ true
distinct_apart [] = refl
distinct_apart (role ∷ roles) =
    rw (all_pass_kept (is_other role) (distinct roles)) (apart-filter (is_other role) (distinct roles) (distinct_apart roles))

-- what is true of all roles is true of those without repetitions
pub each-distinct : (P : Path → Type 0) (roles : List Path) → AllByRecursion P roles → AllByRecursion P (distinct roles)
each-distinct P [] all = tt
each-distinct P (role ∷ roles) all = (all.0, each_filter P (is_other role) (distinct roles) (each-distinct P roles all.1))

-- ---- the clients

pub roles_of_new : (roles : List Path) → map (λ c. c.role) (map new_client roles) ≡ roles
roles_of_new [] = refl
roles_of_new (role ∷ roles) = ap (λ (rs : List Path). role ∷ rs) (roles_of_new roles)

-- new clients have the count 0
pub uncounted_new : (roles : List Path) → AllByRecursion (λ c. c.count ≡ 0) (map new_client roles)
uncounted_new [] = tt
uncounted_new (role ∷ roles) = (refl, uncounted_new roles)

-- in a list without repetitions a role is not among those before it
pub none_before : (before : List Path) (role : Path) (roles : List Path)
    → are_distinct_roles (before ++ role ∷ roles) ≡ true → list_any (is_role role) before ≡ false
none_before [] role roles apart = refl
none_before (r ∷ before) role roles apart =
    let parts = and_parts (list_all (is_other r) (before ++ role ∷ roles)) (are_distinct_roles (before ++ role ∷ roles)) apart in
    let here = seen before role roles parts.0 in
    rw here (none_before before role roles parts.1)
  where
    seen : (before : List Path) (role : Path) (roles : List Path)
        → list_all (is_other r) (before ++ role ∷ roles) ≡ true → same_path r role ≡ false
    seen [] role roles all = not-true (same_path r role) (and_parts (is_other r role) (list_all (is_other r) roles) all).0
    seen (b ∷ before) role roles all =
        seen before role roles (and_parts (is_other r b) (list_all (is_other r) (before ++ role ∷ roles)) all).1
