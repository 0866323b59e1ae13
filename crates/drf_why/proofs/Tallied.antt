-- Tallies, agent by agent.
use Rattle.std.specs.Prelude.{◌≡◌, ℕ, ◌+◌, ◌<◌, ◌≤◌, Bool, not, List, [], ◌∷◌, ◌++◌, length, map, filter, flat_map, take, drop}
use Rattle.std.proofs.Common.{refl, sym, ap, ◌∙◌, inl, inr, zero, suc, arith, append_assoc, append-nil, get_or, set}
use Rattle.std.proofs.lemmas.Bool.{cases_Bool}
use Rattle.std.proofs.lemmas.List.{length-append, map-append, at_drop_more, drop_all}
use Rattle.std.proofs.lemmas.List.Elements.{filter-append}
use Rattle.std.proofs.lemmas.List.Sums.{fold-append}
use Rattle.drf_role.specs.Path.{Path}
use Rattle.drf_rows.specs.Client.{Client, path_of}
use Rattle.drf_rows.specs.Held.{client_of, active_clients}
use Rattle.drf_rows.specs.declared.rows.ClientRow.{ClientRow}
use Rattle.drf_rows.specs.declared.rows.FrameworkRow.{FrameworkRow}
use Rattle.drf_rows.specs.declared.rows.Rows.{Rows}
use Rattle.drf_why.specs.Tally.{active_in, active_one, agents_where, comes_to, is_below_threshold, is_held_back, is_nothing_left, is_over_limit, is_reserved, more_if, tally_of, tallies_of, tells_of, with_turn}
use Rattle.drf_why.specs.Passers.{Turn, is_passed, with_passers_on}
use Rattle.drf_why.specs.Pick.{is_granted, is_inactive, is_nothing_free}
use Rattle.drf_why.specs.declared.tally.Tally.{Tally}

-- one agent more
agents-next : (test : Turn → Bool) (turns : List Turn) (turn : Turn)
    → more_if (test turn) (agents_where test turns) ≡ agents_where test (turns ++ turn ∷ [])
agents-next test turns turn =
    let all : length (filter test (turns ++ turn ∷ [])) ≡ length (filter test turns) + length (filter test (turn ∷ [])) =
    ap length (filter-append test turns (turn ∷ [])) ∙ length-append (filter test turns) (filter test (turn ∷ [])) in
    elim (cases_Bool (test turn)) [
      | inl here ↦
          let one : length (filter test (turn ∷ [])) ≡ 1 = rw here refl in
          rw here (omega (arith, all, one))
      | inr past ↦
          let none : length (filter test (turn ∷ [])) ≡ 0 = rw past refl in
          rw past (omega (arith, all, none))
    ]

tally-next : (turns : List Turn) (turn : Turn) (client : Client)
    → with_turn turn (tally_of turns (path_of client)) ≡ tally_of (turns ++ turn ∷ []) (path_of client)
tally-next turns turn client =
    let path : Path = path_of client in
    λ i. record {
      client = path;
      granted = agents-next (comes_to is_granted path) turns turn i;
      held_back = agents-next (comes_to is_held_back path) turns turn i;
      over_limit = agents-next (comes_to is_over_limit path) turns turn i;
      below_threshold = agents-next (comes_to is_below_threshold path) turns turn i;
      nothing_left = agents-next (comes_to is_nothing_left path) turns turn i;
      reserved = agents-next (comes_to is_reserved path) turns turn i;
      inactive = agents-next (tells_of is_inactive) turns turn i;
      nothing_free = agents-next (tells_of is_nothing_free) turns turn i;
      passed = agents-next (is_passed path) turns turn i;
      passers = sym (fold-append (with_passers_on path) [] turns (turn ∷ [])) i;
    }

each_next : (clients : List Client) (turns : List Turn) (turn : Turn)
    → map (with_turn turn) (map (λ c. tally_of turns (path_of c)) clients) ≡ map (λ c. tally_of (turns ++ turn ∷ []) (path_of c)) clients
each_next [] turns turn = refl
each_next (client ∷ clients) turns turn = λ i. tally-next turns turn client i ∷ each_next clients turns turn i

pub tallies-next : (rows : Rows) (turns : List Turn) (turn : Turn)
    → map (with_turn turn) (tallies_of rows turns) ≡ tallies_of rows (turns ++ turn ∷ [])
tallies-next rows turns turn = each_next (active_clients rows) turns turn

-- the elements before an index have been changed, and now one more
module _ {X : Type 0} (f : X → X) where
  pub map_next : (xs ys : List X) (i n : ℕ) (d : X) → n ≡ i + 1 → i < length xs → ys ≡ map f (take i xs) ++ drop i xs
      → set ys i (f (get_or ys i d)) ≡ map f (take n xs) ++ drop n xs
  map_next xs ys i n d next within so = rw so (at xs i n next within)
    where
      at : (xs : List X) (i n : ℕ) → n ≡ i + 1 → i < length xs
          → set (map f (take i xs) ++ drop i xs) i (f (get_or (map f (take i xs) ++ drop i xs) i d))
          ≡ map f (take n xs) ++ drop n xs
      at [] i n next within = absurd (omega arith)
      at (x ∷ xs) zero zero next within = absurd (omega arith)
      at (x ∷ xs) zero (suc n) next within =
          let none : n ≡ 0 = omega arith in
          rw none refl
      at (x ∷ xs) (suc i) zero next within = absurd (omega arith)
      at (x ∷ xs) (suc i) (suc n) next within = ap (λ l. f x ∷ l) (at xs i n (omega arith) (omega arith))

-- ---- the empty tallies

-- what is added for each element
module _ {A B : Type 0} (f : A → List B) (whole : List B) (xs : List A) (i : ℕ) where
  pub added_more : (old new : List B) (x : A) → i < length xs → x ≡ get_or xs i x → new ≡ old ++ f x
      → old ++ flat_map f (drop i xs) ≡ whole → new ++ flat_map f (drop (i + 1) xs) ≡ whole
  added_more old new x inside is added so_far =
      ap (λ ys. ys ++ flat_map f (drop (i + 1) xs)) added
      ∙ append_assoc old (f x) (flat_map f (drop (i + 1) xs))
      ∙ ap (λ y. old ++ (f y ++ flat_map f (drop (i + 1) xs))) is
      ∙ sym (at_drop_more (λ ys. old ++ flat_map f ys) xs i x inside)
      ∙ so_far

  pub added_over : (old : List B) → length xs ≤ i → old ++ flat_map f (drop i xs) ≡ whole → old ≡ whole
  added_over old past so_far = sym (append-nil old) ∙ sym (ap (λ ys. old ++ flat_map f ys) (drop_all i xs past)) ∙ so_far

abbrev pub blank : Client → Tally
blank c = tally_of [] (path_of c)

abbrev pub blank_one : FrameworkRow → ClientRow → List Tally
blank_one f c = map blank (active_one f c)

abbrev pub blank_in : FrameworkRow → List Tally
blank_in f = map blank (active_in f)

pub blank-clients : (f : FrameworkRow) (cs : List ClientRow)
    → flat_map (blank_one f) cs ≡ map blank (map (client_of f) (filter (λ c. not c.suppressed) cs))
blank-clients f [] = refl
blank-clients f (c ∷ cs) = elim (cases_Bool c.suppressed) [
  | inl here ↦ rw here (blank-clients f cs)
  | inr past ↦ rw past (ap (λ ts. blank (client_of f c) ∷ ts) (blank-clients f cs))
]

pub blank-frameworks : (fs : List FrameworkRow) → flat_map blank_in fs ≡ map blank (flat_map active_in fs)
blank-frameworks [] = refl
blank-frameworks (f ∷ fs) = ap (λ ts. blank_in f ++ ts) (blank-frameworks fs) ∙ sym (map-append blank (active_in f) (flat_map active_in fs))
