-- Things that are found by their numbers and removed.
use Rattle.std.specs.Prelude.{◌≡◌, ℕ, ◌==◌, ◌-◌, ◌<◌, Bool, true, false, List, [], ◌∷◌, ◌++◌, length, map, filter, find, slice_get, Option, Some, None, MatchOption, cond, IfNone, is_some, ◌||◌}
use Rattle.std.specs.List.{list_any}
use Rattle.std.proofs.Common.{refl, sym, ap, subst, ◌∙◌, zero, suc, arith, inl, inr}
use Rattle.std.proofs.lemmas.Bool.{cases_Bool, eqb-true, eq-eqb, or_parts, false≢true}
use Rattle.std.specs.Borrow.{Bor}
use Rattle.std.specs.Option.{option_to_list, option_copied}
use Rattle.std.proofs.lemmas.List.{map-append}
use Rattle.drf_bundle.proofs.ListLaws.{list_any_at}
use Rattle.drf_holdings.specs.Rising.{IsRising}
use Rattle.drf_holdings.specs.Taking.{IsTaken, HasNone}
use Rattle.drf_holdings.proofs.RisingLists.{others_split, others_from}
use Rattle.drf_holdings.proofs.Numbered.{listed_none, listed_passes}

missing_within : {X : Type 0} (xs : List X) (i : ℕ) → i < length xs → slice_get xs i ≡ None → false ≡ true
missing_within [] i within none = absurd (omega (arith, within))
missing_within (y ∷ ys) zero within none = cc
missing_within (y ∷ ys) (suc i) within none = missing_within ys i (omega (arith, within)) none

last_none : (ns : List ℕ) → slice_get ns (length ns - 1) ≡ None → ns ≡ []
last_none [] none = refl
last_none (n ∷ ns) none = absurd (false≢true (missing_within (n ∷ ns) (length (n ∷ ns) - 1) (omega arith) none))

-- what holds in any case holds if nothing is found
pub on_none : {X : Type 0} (r : Option X) (P : Type 0) → P → IfNone r P
on_none None P p = p
on_none (Some x) P p = tt

module _ {X : Type 0} (number : X → ℕ) where
  pub any_listed : (test : X → Bool) (xs : List X) → map number (filter test xs) ≡ [] → list_any test xs ≡ false
  any_listed test [] none = refl
  any_listed test (x ∷ xs) none = elim (cases_Bool (test x)) [
    | inl here ↦
        let some : number x ∷ map number (filter test xs) ≡ [] =
        sym (ap (λ (b : Bool). map number (cond b (x ∷ filter test xs) (filter test xs))) here) ∙ none in
        cc
    | inr past ↦
        let later : map number (filter test xs) ≡ [] =
        sym (ap (λ (b : Bool). map number (cond b (x ∷ filter test xs) (filter test xs))) past) ∙ none in
        rw past (any_listed test xs later)
  ]

  module _ (test : X → Bool) (old : List X) (ns : List ℕ) (listed : ns ≡ map number (filter test old)) where
    -- if nothing is listed, nothing passes the test
    pub none_by : slice_get ns (length ns - 1) ≡ None → HasNone test old old
    none_by none = record { none = any_listed test old (sym listed ∙ last_none ns none); same = refl }

    -- a listed number is that of a thing
    pub not_missing : (n i : ℕ) (new : List X) → slice_get ns i ≡ Some n → HasNone (λ x. number x == n) old new → false ≡ true
    not_missing n i new last none =
        let any : list_any (λ m. m == n) (map number (filter test old)) ≡ true =
        ap (list_any (λ m. m == n)) (sym listed) ∙ list_any_at (λ m. m == n) ns i n last (eq-eqb n n refl) in
        listed_none number test n old (others_from number n old none.none) any

    -- the thing that is removed by a listed number passes the test, and so any wider test
    pub taken_by : (wide : X → Bool) → ((x : X) → test x ≡ true → wide x ≡ true)
        → (n : ℕ) (i : ℕ) (new : List X) → IsRising (map number old) → slice_get ns i ≡ Some n → (r : Option X)
        → MatchOption r (HasNone (λ x. number x == n) old new) (IsTaken (λ x. number x == n) old new)
        → MatchOption r (HasNone wide old new) (IsTaken wide old new)
    taken_by wide widens n i new rising last None none = absurd (false≢true (not_missing n i new last none))
    taken_by wide widens n i new rising last (Some x) taken =
        let its : number x ≡ n = eqb-true (number x) n taken.passes in
        let any : list_any (λ m. m == n) (map number (filter test old)) ≡ true =
        ap (list_any (λ m. m == n)) (sym listed) ∙ list_any_at (λ m. m == n) ns i n last (eq-eqb n n refl) in
        let here : list_any (λ m. m == number x) (map number (filter test (taken.before ++ x ∷ taken.after))) ≡ true =
        (λ j. list_any (λ m. m == its j) (map number (filter test (sym taken.whole j)))) ∙ any in
        let others = others_split number taken.before taken.after x (subst (λ (xs : List X). IsRising (map number xs)) taken.whole rising) in
        record {
          before = taken.before;
          after = taken.after;
          whole = taken.whole;
          left = taken.left;
          passes = widens x (listed_passes number taken.before taken.after x others.0 others.1 test here);
        }

-- ---- rows of things

module _ {X Y : Type 0} (row : X → Y) (test : Y → Bool) where
  pub any_rows : (xs : List X) → list_any test (map row xs) ≡ list_any (λ x. test (row x)) xs
  any_rows [] = refl
  any_rows (x ∷ xs) = ap (λ (b : Bool). test (row x) || b) (any_rows xs)

  pub rows_none : (old new : List X) → HasNone (λ x. test (row x)) old new → HasNone test (map row old) (map row new)
  rows_none old new none = record { none = any_rows old ∙ none.none; same = ap (map row) none.same }

  pub rows_taken : (old new : List X) (x : X) → IsTaken (λ x. test (row x)) old new x → IsTaken test (map row old) (map row new) (row x)
  rows_taken old new x taken = record {
    before = map row taken.before;
    after = map row taken.after;
    whole = ap (map row) taken.whole ∙ map-append row taken.before (x ∷ taken.after);
    left = ap (map row) taken.left ∙ map-append row taken.before taken.after;
    passes = taken.passes;
  }

  none_passes : (xs : List X) → list_any (λ x. test (row x)) xs ≡ false → filter (λ x. test (row x)) xs ≡ []
  none_passes [] none = refl
  none_passes (x ∷ xs) none =
      let parts = or_parts (test (row x)) (list_any (λ x. test (row x)) xs) none in
      rw parts.0 (none_passes xs parts.1)

  -- if no row passes, no thing is listed
  pub unlisted : (number : X → ℕ) (xs : List X) → list_any test (map row xs) ≡ false → map number (filter (λ x. test (row x)) xs) ≡ []
  unlisted number xs none = ap (map number) (none_passes xs (sym (any_rows xs) ∙ none))

  -- whether a list of at most one number is empty says whether a row passes
  pub some_listed : (number : X → ℕ) (o : Option ℕ) (xs : List X)
      → option_to_list o ≡ map number (filter (λ x. test (row x)) xs) → is_some o ≡ list_any test (map row xs)
  some_listed number None xs listed = sym (any_rows xs ∙ any_listed number (λ x. test (row x)) xs (sym listed))
  some_listed number (Some n) xs listed = elim (cases_Bool (list_any (λ x. test (row x)) xs)) [
    | inl here ↦ sym (any_rows xs ∙ here)
    | inr none ↦
        let empty : n ∷ [] ≡ [] = listed ∙ ap (map number) (none_passes xs none) in
        cc
  ]

-- ---- finding

-- no element passes a test that is always false
pub never : {X : Type 0} (xs : List X) → list_any (λ x. false) xs ≡ false
never [] = refl
never (x ∷ xs) = never xs

pub find_any : {X : Type 0} (p : X → Bool) (xs : List X) → list_any p xs ≡ true → is_some (find p xs) ≡ true
find_any p [] any = absurd (false≢true any)
find_any {X} p (x ∷ xs) any = by (p x) (λ later. find_any p xs later) any
  where
    by : (b : Bool) → (list_any p xs ≡ true → is_some (find p xs) ≡ true) → (b || list_any p xs) ≡ true → is_some (cond b (Some x) (find p xs)) ≡ true
    by true later any = refl
    by false later any = later any

-- the value that a found reference refers to
pub some_copied : {X : Type 0} (o : Option (Bor X)) → is_some o ≡ is_some (option_copied o)
some_copied None = refl
some_copied (Some x) = refl
