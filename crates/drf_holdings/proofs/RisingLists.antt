-- Lists of things with increasing numbers: removing, inserting and finding.
use Rattle.std.specs.Prelude.{◌≡◌, ℕ, ◌==◌, ◌<◌, ◌≤◌, Bool, true, false, not, List, [], ◌∷◌, ◌++◌, length, map, filter, cond, take, drop, remove, slice_get, slice_index_or, Some, Ok, Err}
use Rattle.std.specs.List.{list_any, AllByRecursion}
use Rattle.std.specs.Ordering.{nat_cmp}
use Rattle.std.specs.List.Sorted.{IsNonDecreasingBy, IsBinarySearchResult}
use Rattle.std.proofs.Common.{refl, sym, ap, ◌∙◌, subst, zero, suc, inl, inr, get_or, arith}
use Rattle.std.proofs.lemmas.Bool.{eq-eqb, ne_eqb, or_parts, cases_lt}
use Rattle.std.proofs.lemmas.List.{map-id, get_or_default}
use Rattle.std.proofs.lemmas.List.Sorted.{searched}
use Rattle.std.proofs.lemmas.Option.{slice_get_read}
use Rattle.drf_row_laws.proofs.ReleaseLaws.{filter-none, split_at}
use Rattle.drf_bundle.proofs.ListLaws.{filter_only}
use Rattle.drf_holdings.specs.Rising.{IsRising, AreOthers}

module _ {X : Type 0} (number : X → ℕ) where
  pub less_other : (m n : ℕ) → m < n → (m == n) ≡ false
  less_other m n less = ne_eqb m n (λ same. omega (arith, less, same))

  pub more_other : (m n : ℕ) → n < m → (m == n) ≡ false
  more_other m n more = ne_eqb m n (λ same. omega (arith, more, same))

  pub above_others : (n m : ℕ) (xs : List X) → n ≤ m → AllByRecursion (λ k. m < k) (map number xs) → AreOthers number n xs
  above_others n m [] le above = tt
  above_others n m (x ∷ xs) le above =
      (more_other (number x) n (omega (arith, le, above.0)), above_others n m xs le above.1)

  pub above_at : (m : ℕ) (xs : List X) (i : ℕ) (x : X)
      → AllByRecursion (λ k. m < k) (map number xs) → slice_get xs i ≡ Some x → m < number x
  above_at m [] i x above at = cc
  above_at m (y ∷ ys) zero x above at =
      let same : y ≡ x = cc in
      subst (λ (z : X). m < number z) same above.0
  above_at m (y ∷ ys) (suc i) x above at = above_at m ys i x above.1 at

  -- the other things have other numbers
  pub others_at : (xs : List X) (i : ℕ) (x : X) → IsRising (map number xs) → slice_get xs i ≡ Some x
      → AreOthers number (number x) (take i xs) × AreOthers number (number x) (drop (suc i) xs)
  others_at [] i x rising at = cc
  others_at (y ∷ ys) zero x rising at =
      let same : y ≡ x = cc in
      (tt, subst (λ (z : X). AreOthers number (number z) ys) same (above_others (number y) (number y) ys (omega arith) rising.0))
  others_at (y ∷ ys) (suc i) x rising at =
      let more = others_at ys i x rising.1 at in
      ((less_other (number y) (number x) (above_at (number y) ys i x rising.0 at), more.0), more.1)

  -- the first number is the least
  first_least : (m : ℕ) (xs : List X) (j : ℕ) (d : X)
      → AllByRecursion (λ k. m < k) (map number xs) → j < length xs → m ≤ number (slice_index_or xs j d)
  first_least m [] j d above within = absurd (omega (arith, within))
  first_least m (x ∷ xs) zero d above within = omega (arith, above.0)
  first_least m (x ∷ xs) (suc j) d above within = first_least m xs j d above.1 (omega (arith, within))

  pub rising_by : (xs : List X) → IsRising (map number xs) → IsNonDecreasingBy number xs
  rising_by [] rising i j d le within = absurd (omega (arith, within))
  rising_by (x ∷ xs) rising zero zero d le within = omega arith
  rising_by (x ∷ xs) rising zero (suc j) d le within = first_least (number x) xs j d rising.0 (omega (arith, within))
  rising_by (x ∷ xs) rising (suc i) zero d le within = absurd (omega (arith, le))
  rising_by (x ∷ xs) rising (suc i) (suc j) d le within = rising_by xs rising.1 i j d (omega (arith, le)) (omega (arith, within))

  -- removing a thing keeps the numbers increasing
  above_out : (m : ℕ) (xs ys : List X) (x : X) → AllByRecursion (λ k. m < k) (map number (xs ++ x ∷ ys)) → AllByRecursion (λ k. m < k) (map number (xs ++ ys))
  above_out m [] ys x above = above.1
  above_out m (z ∷ xs) ys x above = (above.0, above_out m xs ys x above.1)

  pub rising_out : (xs ys : List X) (x : X) → IsRising (map number (xs ++ x ∷ ys)) → IsRising (map number (xs ++ ys))
  rising_out [] ys x rising = rising.1
  rising_out (z ∷ xs) ys x rising = (above_out (number z) xs ys x rising.0, rising_out xs ys x rising.1)

  pub above_last : (m : ℕ) (xs ys : List X) (x : X) → AllByRecursion (λ k. m < k) (map number (xs ++ x ∷ ys)) → m < number x
  above_last m [] ys x above = above.0
  above_last m (z ∷ xs) ys x above = above_last m xs ys x above.1

  -- the other things have other numbers, for a list in two parts
  pub others_split : (xs ys : List X) (x : X) → IsRising (map number (xs ++ x ∷ ys)) → AreOthers number (number x) xs × AreOthers number (number x) ys
  others_split [] ys x rising = (tt, above_others (number x) (number x) ys (omega arith) rising.0)
  others_split (z ∷ xs) ys x rising =
      let more = others_split xs ys x rising.1 in
      ((less_other (number z) (number x) (above_last (number z) xs ys x rising.0), more.0), more.1)

  -- the numbers of those that pass a test are increasing, also after a lesser number
  above_some : (p : X → Bool) (m : ℕ) (xs : List X) → AllByRecursion (λ k. m < k) (map number xs) → AllByRecursion (λ k. m < k) (map number (filter p xs))
  above_some p m [] above = tt
  above_some p m (x ∷ xs) above = by (p x) (above_some p m xs above.1)
    where
      by : (b : Bool) → AllByRecursion (λ k. m < k) (map number (filter p xs)) → AllByRecursion (λ k. m < k) (map number (cond b (x ∷ filter p xs) (filter p xs)))
      by true more = (above.0, more)
      by false more = more

  pub rising_some : (p : X → Bool) (xs : List X) → IsRising (map number xs) → IsRising (map number (filter p xs))
  rising_some p [] rising = tt
  rising_some p (x ∷ xs) rising = by (p x) (above_some p (number x) xs rising.0) (rising_some p xs rising.1)
    where
      by : (b : Bool) → AllByRecursion (λ k. number x < k) (map number (filter p xs)) → IsRising (map number (filter p xs))
          → IsRising (map number (cond b (x ∷ filter p xs) (filter p xs)))
      by true above more = (above, more)
      by false above more = more

  above_prefix : (m : ℕ) (xs ys : List X) → AllByRecursion (λ k. m < k) (map number (xs ++ ys)) → AllByRecursion (λ k. m < k) (map number xs)
  above_prefix m [] ys above = tt
  above_prefix m (x ∷ xs) ys above = (above.0, above_prefix m xs ys above.1)

  pub rising_prefix : (xs ys : List X) → IsRising (map number (xs ++ ys)) → IsRising (map number xs)
  rising_prefix [] ys rising = tt
  rising_prefix (x ∷ xs) ys rising = (above_prefix (number x) xs ys rising.0, rising_prefix xs ys rising.1)

  pub others_from : (n : ℕ) (xs : List X) → list_any (λ x. number x == n) xs ≡ false → AreOthers number n xs
  others_from n [] none = tt
  others_from n (x ∷ xs) none =
      let parts = or_parts (number x == n) (list_any (λ x. number x == n) xs) none in
      (parts.0, others_from n xs parts.1)

  -- appending a thing with a greater number
  above_in : (m : ℕ) (xs : List X) (x : X) → AllByRecursion (λ k. m < k) (map number xs) → m < number x → AllByRecursion (λ k. m < k) (map number (xs ++ x ∷ []))
  above_in m [] x above less = (less, tt)
  above_in m (y ∷ ys) x above less = (above.0, above_in m ys x above.1 less)

  pub rising_in : (xs : List X) (x : X) → IsRising (map number xs) → AllByRecursion (λ y. number y < number x) xs → IsRising (map number (xs ++ x ∷ []))
  rising_in [] x rising below = (tt, tt)
  rising_in (y ∷ ys) x rising below = (above_in (number y) ys x rising.0 below.0, rising_in ys x rising.1 below.1)

  pub below_in : (xs : List X) (x : X) (m n : ℕ) → AllByRecursion (λ y. number y < m) xs → number x < n → m ≤ n → AllByRecursion (λ y. number y < n) (xs ++ x ∷ [])
  below_in [] x m n below less le = (less, tt)
  below_in (y ∷ ys) x m n below less le = (omega (arith, below.0, le), below_in ys x m n below.1 less le)

-- ---- a number in a list of increasing numbers

rising_each : (ns : List ℕ) → IsRising ns → IsRising (map (λ n. n) ns)
rising_each ns rising = subst IsRising (sym (map-id ns)) rising

others_each : (n : ℕ) (ns : List ℕ) → ((k : ℕ) → k < length ns → (get_or ns k 0 == n) ≡ false) → AreOthers (λ m. m) n ns
others_each n [] each = tt
others_each n (m ∷ ns) each = (each 0 (omega arith), others_each n ns (λ k below. each (suc k) (omega (arith, below))))

-- a number that a binary search finds is removed
pub found_out : (ns left : List ℕ) (n i : ℕ) → IsBinarySearchResult (λ m. nat_cmp m n) ns (Ok i) → left ≡ remove ns i
    → IsRising ns → left ≡ filter (λ m. not (m == n)) ns
found_out ns left n i search removed rising =
    let found = searched ns n (Ok i) search (λ i j le below. rising_by (λ m. m) ns (rising_each ns rising) i j 0 le below) in
    let at : slice_get ns i ≡ Some n = slice_get_read ns (length ns) i n refl found.0 (sym found.1 ∙ get_or_default ns i 0 n found.0) in
    let others = others_at (λ m. m) ns i n (rising_each ns rising) at in
    removed ∙ sym (
    ap (filter (λ m. not (m == n))) (split_at ns i n at)
    ∙ filter_only (λ m. m == n) (take i ns) (drop (suc i) ns) n others.0 (eq-eqb n n refl) others.1
    )

-- the first number is removed
pub first_out : (ns rest : List ℕ) (n : ℕ) → ns ≡ n ∷ rest → IsRising ns → drop 1 ns ≡ filter (λ m. not (m == n)) ns
first_out ns rest n is rising =
    let others = others_split (λ (m : ℕ). m) [] rest n (rising_each (n ∷ rest) (subst IsRising is rising)) in
    ap (drop 1) is
    ∙ sym (filter_only (λ m. m == n) [] rest n others.0 (eq-eqb n n refl) others.1)
    ∙ ap (filter (λ m. not (m == n))) (sym is)

-- if a binary search does not find the number, it is not in the list
pub missing_out : (ns : List ℕ) (n i : ℕ) → IsBinarySearchResult (λ m. nat_cmp m n) ns (Err i)
    → IsRising ns → ns ≡ filter (λ m. not (m == n)) ns
missing_out ns n i search rising =
    let none = searched ns n (Err i) search (λ i j le below. rising_by (λ m. m) ns (rising_each ns rising) i j 0 le below) in
    sym (filter-none (λ m. m == n) ns (others_each n ns (λ k below. elim (cases_lt k i) [
      | inl before ↦ less_other (λ (m : ℕ). m) (get_or ns k 0) n (none.1 k before)
      | inr behind ↦ more_other (λ (m : ℕ). m) (get_or ns k 0) n (none.2 k behind below)
    ])))
