-- Roles with common first parts, and what is reserved for them.
use Rattle.std.proofs.Common.{◌≡◌, ℕ, ◌+◌, ◌<◌, ◌≤◌, zero, suc, Bool, true, false, ◌&&◌, ◌||◌, List, [], ◌∷◌, length, take, drop, get_or, refl, sym, ap, subst, ◌∙◌, inl, inr, arith, take_all, true≢false, length-take-le}
use Rattle.std.specs.List.{list_any}
use Rattle.std.specs.Prelude.{slice_get, Some}
use Rattle.std.proofs.lemmas.Bool.{cases_Bool, cases_lt, or_parts}
use Rattle.std.proofs.lemmas.List.{drop_more, length-take, take_more_same}
use Rattle.std.proofs.lemmas.Option.{get_or_from_slice_get, slice_get_within}
use Rattle.drf_role.specs.Text.{Text, same_text}
use Rattle.drf_role.specs.TextLaws.{same_from_test}
use Rattle.drf_role.specs.Path.{Path, begins_with, same_path}
use Rattle.drf_role.specs.PathLaws.{same_path-true, same_path_itself}
use Rattle.drf_bundle.specs.declared.resource.Resource.{Resource}
use Rattle.drf_core.specs.cycle.Entitling.{is_reserved, is_reserved_for, is_reserved_near}

-- paths that agree in their first parts agree in fewer of them
pub shorter : (m n : ℕ) (a b : Path) → m ≤ n → take n a ≡ take n b → take m a ≡ take m b
shorter zero n a b few alike = refl
shorter (suc m) zero a b few alike = absurd (omega (arith, few))
shorter (suc m) (suc n) [] [] few alike = refl
shorter (suc m) (suc n) [] (y ∷ ys) few alike = absurd cc
shorter (suc m) (suc n) (x ∷ xs) [] few alike = absurd cc
shorter (suc m) (suc n) (x ∷ xs) (y ∷ ys) few alike =
    let head : x ≡ y = cc in
    let tail = shorter m n xs ys (omega (arith, few)) cc in
    λ i. head i ∷ tail i

same_from_equal : (a b : Path) → a ≡ b → same_path a b ≡ true
same_from_equal a b same = ap (same_path a) (sym same) ∙ same_path_itself a

-- ---- paths are compared part by part

pub alike_more : (i : ℕ) (a b : Path) (p q : Text) → slice_get a i ≡ Some p → slice_get b i ≡ Some q → same_text p q ≡ true → take i a ≡ take i b
    → take (i + 1) a ≡ take (i + 1) b
alike_more i a b p q one other same alike =
    take_more_same a b i p (slice_get_within a i p one) (slice_get_within b i q other) alike
    (get_or_from_slice_get a i p p one ∙ same_from_test p q same ∙ sym (get_or_from_slice_get b i q p other))

parted_at : (i : ℕ) (a b : Path) (p q : Text) → slice_get a i ≡ Some p → slice_get b i ≡ Some q → same_text p q ≡ false
    → same_path (take (suc i) a) (take (suc i) b) ≡ false
parted_at i [] b p q one other parted = absurd cc
parted_at i (x ∷ xs) [] p q one other parted = absurd cc
parted_at zero (x ∷ xs) (y ∷ ys) p q one other parted =
    let first : x ≡ p = cc in
    let second : y ≡ q = cc in
    (λ k. same_text (first k) (second k) && true) ∙ ap (λ (c : Bool). c && true) parted
parted_at (suc i) (x ∷ xs) (y ∷ ys) p q one other parted =
    ap (λ (c : Bool). same_text x y && c) (parted_at i xs ys p q one other parted) ∙ no_more (same_text x y)
  where
    no_more : (c : Bool) → (c && false) ≡ false
    no_more true = refl
    no_more false = refl

pub parted_here : (i : ℕ) (a b : Path) (p q : Text) → slice_get a i ≡ Some p → slice_get b i ≡ Some q → same_text p q ≡ false
    → same_path (take (i + 1) a) (take (i + 1) b) ≡ false
parted_here i a b p q one other parted =
    let next : suc i ≡ i + 1 = omega arith in
    subst (λ (n : ℕ). same_path (take n a) (take n b) ≡ false) next (parted_at i a b p q one other parted)

-- the longer of two paths has a part that the other lacks
pub parted_end : (i : ℕ) (a b : Path) → i < length a → length b ≤ i → same_path (take (i + 1) a) (take (i + 1) b) ≡ false
parted_end i a b long short = elim (cases_Bool (same_path (take (i + 1) a) (take (i + 1) b))) [
  | inl same ↦
      let size = ap (λ (p : Path). length p) (same_path-true (take (i + 1) a) (take (i + 1) b) same) in
      absurd (omega (arith, size, length-take (i + 1) b, length-take-le (i + 1) a (omega arith)))
  | inr other ↦ other
]

pub as_long : (i : ℕ) (a b : Path) → i ≤ length a → take i a ≡ take i b → i ≤ length b
as_long i a b few alike =
    let size = ap (λ (p : Path). length p) alike in
    omega (arith, size, length-take i b, length-take-le i a few)

pub above_role : (i : ℕ) (outer role : Path) → length outer ≤ i → i ≤ length outer → take i outer ≡ take i role → begins_with role outer ≡ true
above_role i outer role all few alike =
    let size : i ≡ length outer = omega arith in
    same_from_equal outer (take (length outer) role)
    (sym (take_all i outer all) ∙ alike ∙ ap (λ (n : ℕ). take n role) size)

-- a path that differs from the first parts of a role is not one of these
pub not_above : (n : ℕ) (outer role : Path) → n ≤ length outer → same_path (take n outer) (take n role) ≡ false → begins_with role outer ≡ false
not_above n outer role few parted = elim (cases_Bool (begins_with role outer)) [
  | inl within ↦
      let its = take_all (length outer) outer (omega arith) ∙ same_path-true outer (take (length outer) role) within in
      absurd (true≢false (sym (same_from_equal (take n outer) (take n role) (shorter n (length outer) outer role few its)) ∙ parted))
  | inr past ↦ past
]

-- ---- more parts

-- paths that differ in their first parts differ in more of them
parted_more : (m n : ℕ) (a b : Path) → m ≤ n → same_path (take m a) (take m b) ≡ false → same_path (take n a) (take n b) ≡ false
parted_more m n a b few parted = elim (cases_Bool (same_path (take n a) (take n b))) [
  | inl same ↦
      absurd (true≢false (sym (same_from_equal (take m a) (take m b) (shorter m n a b few (same_path-true (take n a) (take n b) same))) ∙ parted))
  | inr other ↦ other
]

-- ---- resources are tested one by one

-- a resource that fails the test can be skipped
pub any_next : (test : Resource → Bool) (rs : List Resource) (i : ℕ) (r : Resource) → i < length rs → r ≡ get_or rs i r → test r ≡ false
    → list_any test (drop i rs) ≡ list_any test (drop (i + 1) rs)
any_next test rs i r less is fails =
    ap (list_any test) (drop_more rs i r less) ∙ ap (λ (x : Resource). test x || list_any test (drop (i + 1) rs)) (sym is)
    ∙ ap (λ (c : Bool). c || list_any test (drop (i + 1) rs)) fails

-- resources that are reserved for roles with other first parts
and_false : (b : Bool) → (b && false) ≡ false
and_false true = refl
and_false false = refl

pub reserved_far : (role : Path) (m n : ℕ) (r : Resource) → m ≤ n → same_path (take m r.role) (take m role) ≡ false → is_reserved_near role n r ≡ false
reserved_far role m n r few parted =
    ap (λ (b : Bool). is_reserved r && b) (parted_more m n r.role role few parted) ∙ and_false (is_reserved r)

-- a resource that is not reserved for roles with some first parts is not reserved for roles with more of them
pub far_more : (role : Path) (m n : ℕ) (r : Resource) → m ≤ n → is_reserved_near role m r ≡ false → is_reserved_near role n r ≡ false
far_more role m n r few far = by (is_reserved r) far
  where
    by : (b : Bool) → (b && same_path (take m r.role) (take m role)) ≡ false → (b && same_path (take n r.role) (take n role)) ≡ false
    by true one = parted_more m n r.role role few one
    by false one = refl

-- resources of which none is reserved for roles with some first parts: none is for roles with more of them
pub near_more : (role : Path) (m n : ℕ) → m ≤ n → (rs : List Resource) → list_any (is_reserved_near role m) rs ≡ false
    → list_any (is_reserved_near role n) rs ≡ false
near_more role m n few [] none = refl
near_more role m n few (r ∷ rs) none =
    let parts = or_parts (is_reserved_near role m r) (list_any (is_reserved_near role m) rs) none in
    let one = far_more role m n r few parts.0 in
    let rest = near_more role m n few rs parts.1 in
    λ i. one i || rest i

-- a role that is not above another, and has other first parts, is above no role with the first parts of the other
apart : (role other outer : Path) (n : ℕ) → take n other ≡ take n role → begins_with role outer ≡ false → same_path (take n outer) (take n role) ≡ false
    → begins_with other outer ≡ false
apart role other outer n alike above near = elim (cases_Bool (begins_with other outer)) [
  | inl within ↦
      let its : take (length outer) outer ≡ take (length outer) other =
      take_all (length outer) outer (omega arith) ∙ same_path-true outer (take (length outer) other) within in
      elim (cases_lt n (length outer)) [
        | inl long ↦
            absurd (true≢false (sym (same_from_equal (take n outer) (take n role) (shorter n (length outer) outer other (omega arith) its ∙ alike)) ∙ near))
        | inr short ↦
            let same = sym (take_all (length outer) outer (omega arith)) ∙ its ∙ shorter (length outer) n other role (omega arith) alike in
            absurd (true≢false (sym (same_from_equal outer (take (length outer) role) same) ∙ above))
      ]
  | inr past ↦ past
]

-- if nothing is reserved for a role, for roles above it, or for roles with its first parts, nothing is reserved for these or above them
pub none_near : (role other : Path) (n : ℕ) → take n other ≡ take n role → (rs : List Resource) → list_any (is_reserved_for role) rs ≡ false
    → list_any (is_reserved_near role n) rs ≡ false → list_any (is_reserved_for other) rs ≡ false
none_near role other n alike [] above near = refl
none_near role other n alike (r ∷ rs) above near =
    let tops = or_parts (is_reserved_for role r) (list_any (is_reserved_for role) rs) above in
    let nears = or_parts (is_reserved_near role n r) (list_any (is_reserved_near role n) rs) near in
    let one = by (is_reserved r) tops.0 nears.0 in
    let rest = none_near role other n alike rs tops.1 nears.1 in
    λ i. one i || rest i
  where
    by : (b : Bool) → (b && begins_with role r.role) ≡ false → (b && same_path (take n r.role) (take n role)) ≡ false → (b && begins_with other r.role) ≡ false
    by true top close = apart role other r.role n alike top close
    by false top close = refl
