-- The order in which clients are served. No path comes before itself, and if one path comes before another, the other
-- does not come before it. So at most one order of some clients is a serving order: the one that a turn computes.
use Rattle.std.proofs.Common.{◌≡◌, ℕ, ◌*◌, Bool, true, false, not, ◌&&◌, ◌||◌, ltb, eqb, inl, inr, List, [], ◌∷◌, ◌++◌, map, length, refl, sym, ap, subst, ◌∙◌, arith, is_lt}
use Rattle.std.specs.Prelude.{Some, IsTrue}
use Rattle.std.specs.List.{filter, find, list_all, list_any}
use Rattle.std.specs.List.Sorted.{IsPermutation}
use Rattle.std.specs.Cmp.Lexicographic.{nat_list_eq_equiv}
use Rattle.std.proofs.lemmas.List.{length-map}
use Rattle.std.proofs.lemmas.List.Sorted.{list_any-IsPermutation, length_permutation}
use Rattle.std.proofs.lemmas.Bool.{true≢false, cases_Bool, cond-true, cond-false, or_left, or_right, or_cases, and_from, and_parts}
use Rattle.std.proofs.lemmas.Bool.Decides.{nat_tests}
use Rattle.drf_role.specs.Text.{Text, same_text, text_below}
use Rattle.drf_role.specs.TextLaws.{same_from_test, same_itself}
use Rattle.drf_role.proofs.TextLaws.{cmp_above}
use Rattle.drf_role.specs.PathLaws.{same_path-true, same_path_itself}
use Rattle.drf_role.specs.Path.{Path, same_path}
use Rattle.drf_rows.specs.Client.{Client, path_of}
use Rattle.drf_rows.specs.Share.{Standing, Fraction, weighted_share_of, is_ahead, stands_before_below, stands_before, is_serving_order}
use Rattle.drf_bundle.proofs.ListLaws.{list_any-map}
use Rattle.drf_rows.specs.Cycle.{first_of, without, serving_order}

text_below-back : (a b : Text) → text_below a b ≡ true → text_below b a ≡ false
text_below-back a b h = ap is_lt (cmp_above a b h)

-- comparing shares p and q, then counts m and n, then names: if one node is ahead of another, the other is not ahead of
-- it
rank_back : (p q m n : ℕ) (l g : Bool)
    → (l ≡ true → g ≡ false)
    → (ltb p q || (eqb p q && (ltb m n || (eqb m n && l)))) ≡ true
    → (ltb q p || (eqb q p && (ltb n m || (eqb n m && g)))) ≡ false
rank_back p q m n l g back h = grind (arith, nat_tests)

pub is_ahead-back : (s : Standing) (parent : Path) (a b : Text)
    → is_ahead s parent a b ≡ true → is_ahead s parent b a ≡ false
unfolding is_ahead
is_ahead-back s parent a b h =
    let x : Fraction = weighted_share_of s (parent ++ a ∷ []) in
    let y : Fraction = weighted_share_of s (parent ++ b ∷ []) in
    rank_back (x.part * y.whole) (y.part * x.whole) (s.count (parent ++ a ∷ [])) (s.count (parent ++ b ∷ []))
    (text_below a b) (text_below b a) (text_below-back a b) h

-- no path comes before itself
below_itself : (s : Standing) (parent path : Path) → stands_before_below s parent path path ≡ false
below_itself s parent [] = refl
below_itself s parent (a ∷ path) = rw (same_itself a) (below_itself s (parent ++ a ∷ []) path)

pub stands_before_itself : (s : Standing) (path : Path) → stands_before s path path ≡ false
stands_before_itself s path = below_itself s [] path

-- if one path comes before another, the other does not come before it
decided_back : (s : Standing) (parent : Path) (x y : Text) (xs ys : Path)
    → (stands_before_below s (parent ++ x ∷ []) xs ys ≡ true → stands_before_below s (parent ++ x ∷ []) ys xs ≡ false)
    → stands_before_below s parent (x ∷ xs) (y ∷ ys) ≡ true
    → stands_before_below s parent (y ∷ ys) (x ∷ xs) ≡ false
decided_back s parent x y xs ys deeper h =
    elim (cases_Bool (same_text x y)) [
      | inl same ↦
          let here : stands_before_below s (parent ++ x ∷ []) xs ys ≡ true = rw same at h in
          rw (sym (same_from_test x y same), same_itself x) (deeper here)
      | inr other ↦
          let here : is_ahead s parent x y ≡ true = rw other at h in
          rw (nat_list_eq_equiv.symm y x, other) (is_ahead-back s parent x y here)
    ]

below_back : (s : Standing) (parent a b : Path)
    → stands_before_below s parent a b ≡ true → stands_before_below s parent b a ≡ false
below_back s parent [] [] h = refl
below_back s parent [] (y ∷ ys) h = refl
below_back s parent (x ∷ xs) [] h = refl
below_back s parent (x ∷ xs) (y ∷ ys) h =
    decided_back s parent x y xs ys (below_back s (parent ++ x ∷ []) xs ys) h

pub stands_before-back : (s : Standing) (a b : Path) → stands_before s a b ≡ true → stands_before s b a ≡ false
stands_before-back s a b h = below_back s [] a b h

-- what a search finds passes the test, and is in the list
found : {X : Type 0} (t : X → Bool) (xs : List X) → list_any t xs ≡ true
    → (x : X) × (find t xs ≡ Some x) × (t x ≡ true) × ((u : X → Bool) → u x ≡ true → list_any u xs ≡ true)
found t [] h = absurd (true≢false (sym h))
found t (y ∷ ys) h =
    elim (cases_Bool (t y)) [
      | inl passes ↦ (y, cond-true (t y) (Some y) (find t ys) passes, passes, λ u v. or_left (u y) (list_any u ys) v)
      | inr fails ↦
          let later = found t ys (rw fails at h) in (
            later.0,
            cond-false (t y) (Some y) (find t ys) fails ∙ later.1,
            later.2,
            λ u v. or_right (u y) (list_any u ys) (later.3 u v),
          )
    ]

list_any-filter : {X : Type 0} (t q : X → Bool) (xs : List X) → list_any t (filter q xs) ≡ list_any (λ x. q x && t x) xs
list_any-filter t q [] = refl
list_any-filter t q (x ∷ xs) = grind (arith, list_any-filter t q xs)

list_all-not_any : {X : Type 0} (t : X → Bool) (xs : List X) → list_all t xs ≡ not (list_any (λ x. not (t x)) xs)
list_all-not_any t [] = refl
list_all-not_any t (x ∷ xs) = grind (arith, list_all-not_any t xs)

-- the clients have exactly these paths, in any order and number
abbrev HasPaths : List Client → List Path → Type 0
HasPaths cs ps = (t : Path → Bool) → list_any (λ c. t (path_of c)) cs ≡ list_any t ps

-- what is true of all paths is true of one of them
all_at : (t : Path → Bool) (x : Path) (ps : List Path)
    → list_any (same_path x) ps ≡ true → list_all t ps ≡ true → t x ≡ true
all_at t x [] m h = absurd (true≢false (sym m))
all_at t x (p ∷ ps) m h =
    elim (or_cases (same_path x p) (list_any (same_path x) ps) m) [
      | inl same ↦ rw (same_path-true x p same) ((and_parts (t p) (list_all t ps) h).0)
      | inr later ↦ all_at t x ps later (and_parts (t p) (list_all t ps) h).1
    ]

all_paths : (t : Path → Bool) (cs : List Client) (ps : List Path)
    → HasPaths cs ps → list_all (λ c. t (path_of c)) cs ≡ list_all t ps
all_paths t cs ps has =
    list_all-not_any (λ c. t (path_of c)) cs ∙ ap not (has (λ p. not (t p))) ∙ sym (list_all-not_any t ps)

pub same_path-before : (s : Standing) (a b : Path) → stands_before s a b ≡ true → same_path a b ≡ false
same_path-before s a b h =
    elim (cases_Bool (same_path a b)) [
      | inl same ↦
          absurd (true≢false (sym h ∙ ap (stands_before s a) (sym (same_path-true a b same)) ∙ stands_before_itself s a))
      | inr other ↦ other
    ]

-- in a serving order the first path is not among the later ones
none_later : (s : Standing) (p : Path) (t : Path → Bool) (ps : List Path)
    → list_all (stands_before s p) ps ≡ true
    → list_any (λ q. not (same_path p q) && t q) ps ≡ list_any t ps
none_later s p t [] h = refl
none_later s p t (q ∷ ps) h =
    let here = and_parts (stands_before s p q) (list_all (stands_before s p) ps) h in
    rw (same_path-before s p q here.0) (ap (λ b. t q || b) (none_later s p t ps here.1))

-- the first path is equal to the second, or comes before it
abbrev precedes : Standing → Path → Path → Bool
precedes s a b = same_path a b || stands_before s a b

precedes_all : (s : Standing) (p : Path) (ps : List Path)
    → list_all (stands_before s p) ps ≡ true → list_all (precedes s p) ps ≡ true
precedes_all s p [] h = refl
precedes_all s p (q ∷ ps) h =
    let here = and_parts (stands_before s p q) (list_all (stands_before s p) ps) h in
    and_from (precedes s p q) (list_all (precedes s p) ps)
    (or_right (same_path p q) (stands_before s p q) here.0) (precedes_all s p ps here.1)

-- a path of a serving order that is equal to the first one or comes before it is the first one
precedes_first : (s : Standing) (p x : Path) (ps : List Path)
    → list_all (stands_before s p) ps ≡ true
    → list_any (same_path x) (p ∷ ps) ≡ true
    → precedes s x p ≡ true
    → x ≡ p
precedes_first s p x ps h m first =
    elim (or_cases (same_path x p) (stands_before s x p) first) [
      | inl same ↦ same_path-true x p same
      | inr before ↦
          elim (or_cases (same_path x p) (list_any (same_path x) ps) m) [
            | inl same ↦ same_path-true x p same
            | inr later ↦
                absurd (true≢false (sym before ∙ stands_before-back s p x (all_at (stands_before s p) x ps later h)))
          ]
    ]

-- the client that a turn picks first has the first path of the serving order
first_found : (s : Standing) (p : Path) (ps : List Path) (cs : List Client)
    → HasPaths cs (p ∷ ps)
    → list_all (stands_before s p) ps ≡ true
    → (c : Client) × (first_of s cs ≡ Some c) × (path_of c ≡ p)
first_found s p ps cs has h =
    let is_first : Path → Bool = λ x. list_all (λ d. precedes s x (path_of d)) cs in
    let all_of : (x : Path) → is_first x ≡ list_all (precedes s x) (p ∷ ps) =
    λ x. all_paths (precedes s x) cs (p ∷ ps) has in
    let p_first : is_first p ≡ true =
    all_of p ∙ and_from (precedes s p p) (list_all (precedes s p) ps)
    (or_left (same_path p p) (stands_before s p p) (same_path_itself p)) (precedes_all s p ps h) in
    let some_first : list_any (λ c. is_first (path_of c)) cs ≡ true =
    has is_first ∙ or_left (is_first p) (list_any is_first ps) p_first in
    let it = found (λ c. is_first (path_of c)) cs some_first in
    let x : Path = path_of it.0 in (
      it.0,
      it.1,
      precedes_first s p x ps h
          (sym (has (same_path x)) ∙ it.3 (λ d. same_path x (path_of d)) (same_path_itself x))
          (and_parts (precedes s x p) (list_all (precedes s x) ps) (sym (all_of x) ∙ it.2)).0,
    )

-- the other clients have the other paths
others_have : (s : Standing) (p : Path) (ps : List Path) (c : Client) (cs : List Client)
    → path_of c ≡ p
    → HasPaths cs (p ∷ ps)
    → list_all (stands_before s p) ps ≡ true
    → HasPaths (without c cs) ps
others_have s p ps c cs e has h t =
    let others : Path → Type 0 = λ x. list_any (λ q. not (same_path x q) && t q) (p ∷ ps) ≡ list_any t ps in
    let later : others p = rw (same_path_itself p) (none_later s p t ps h) in
    list_any-filter (λ d. t (path_of d)) (λ d. not (same_path (path_of c) (path_of d))) cs
    ∙ has (λ q. not (same_path (path_of c) q) && t q)
    ∙ subst others (sym e) later

one_order : (s : Standing) (ps : List Path) (cs : List Client)
    → HasPaths cs ps
    → is_serving_order s ps ≡ true
    → map path_of (serving_order s (length ps) cs) ≡ ps
one_order s [] cs has ordered = refl
one_order s (p ∷ ps) cs has ordered =
    let parts = and_parts (list_all (stands_before s p) ps) (is_serving_order s ps) ordered in
    let it = first_found s p ps cs has parts.0 in
    rw it.1 (λ i. it.2 i ∷ one_order s ps (without it.0 cs) (others_have s p ps it.0 cs it.2 has parts.0) parts.1 i)

-- the order that a turn computes is the only serving order
pub serving_order-unique : (s : Standing) (cs : List Client) (ps : List Path)
    → IsPermutation (map path_of cs) ps
    → IsTrue (is_serving_order s ps)
    → map path_of (serving_order s (length cs) cs) ≡ ps
serving_order-unique s cs ps moved ordered =
    let has : HasPaths cs ps =
    λ t. sym (list_any-map t path_of cs) ∙ list_any-IsPermutation t (map path_of cs) ps moved in
    let long : length cs ≡ length ps = sym (length_permutation (map path_of cs) ps moved ∙ length-map cs path_of) in
    rw long (one_order s ps cs has ordered)
