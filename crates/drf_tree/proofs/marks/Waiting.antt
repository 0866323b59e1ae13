-- The numbers that wait to be looked at, and their dirty flags.
use Rattle.std.specs.List.{list_any}
use Rattle.std.proofs.Common.{refl, sym, ap, ◌∙◌, inl, inr, arith, eq-eqb, length-append, ◌≡◌, ◌≤◌, ◌<◌, ◌+◌, ◌==◌, ℕ, zero, suc, Bool, true, false, List, [], ◌∷◌, ◌++◌, ◌||◌, length, slice_index_or, slice_set, get_or-set_other, get_or-set_same, length-set}
use Rattle.std.proofs.lemmas.Bool.{cases_Bool, cases_eq, false≢true, ne_eqb}
use Rattle.std.proofs.lemmas.List.Folds.{list_any-append}
use Rattle.std.proofs.lemmas.List.Sums.{sum_by-append, sum_by-set}
use Rattle.drf_tree.proofs.Names.{each_append, each_from, each_parts, AreWaiting, marked_in}
use Rattle.drf_tree.proofs.marks.Flags.{all_clear, down_at, few_marked, marked_once, one_if}

-- ---- one more number

-- appending a flag that is not set changes no read
padded : (flags : List Bool) (i : ℕ) → slice_index_or (flags ++ false ∷ []) i false ≡ slice_index_or flags i false
padded [] zero = refl
padded [] (suc i) = refl
padded (flag ∷ flags) zero = refl
padded (flag ∷ flags) (suc i) = padded flags i

module _ (stale listed : List Bool) (waiting : List ℕ) (room : ℕ) (are : AreWaiting stale listed waiting room) where
  pub one_number_more : (wider : ℕ) → length stale + 1 ≤ wider
      → AreWaiting (stale ++ false ∷ []) (listed ++ false ∷ []) waiting wider
  one_number_more wider more = record {
    long = omega (arith, are.long, length-append stale (false ∷ []), length-append listed (false ∷ []));
    few = omega (arith, are.few, sum_by-append one_if listed (false ∷ []));
    room_is = omega (arith, more, length-append stale (false ∷ []));
    marked = λ i up. padded listed i ∙ are.marked i (sym (padded stale i) ∙ up);
    waits = λ i up. are.waits i (sym (padded listed i) ∙ up);
    within = each_from (λ n. n < length stale) (λ n. n < length (stale ++ false ∷ [])) waiting
        (λ n below. omega (arith, below, length-append stale (false ∷ []))) are.within;
  }

  -- no number waits twice
  pub few_wait : length waiting ≤ length stale
  few_wait = omega (arith, are.few, are.long, few_marked listed)

  -- ---- setting a flag

  -- the waiting list has room for a number that is not listed
  pub has_room : (node : ℕ) → node < length stale → slice_index_or listed node false ≡ false → length waiting < room
  has_room node below out =
      let inside : node < length listed = omega (arith, below, are.long) in
      omega (
        arith,
        are.few,
        are.room_is,
        are.long,
        marked_once listed node inside out,
        few_marked (slice_set listed node true),
        length-set listed node true,
      )

  -- a number starts to wait
  pub marked_anew : (node : ℕ) → node < length stale → slice_index_or listed node false ≡ false
      → AreWaiting (slice_set stale node true) (slice_set listed node true) (waiting ++ node ∷ []) room
  marked_anew node below out =
      let inside : node < length listed = omega (arith, below, are.long) in
      let long : length (slice_set stale node true) ≡ length stale = length-set stale node true in record {
        long = omega (arith, are.long, long, length-set listed node true);
        few = omega (arith, are.few, marked_once listed node inside out, length-append waiting (node ∷ []));
        room_is = omega (arith, are.room_is, long);
        marked = λ i up. elim (cases_eq i node) [
          | inl same ↦ ap (λ n. slice_index_or (slice_set listed node true) n false) same ∙ get_or-set_same listed node true false inside
          | inr other ↦
              get_or-set_other listed node i true false other
              ∙ are.marked i (sym (get_or-set_other stale node i true false other) ∙ up)
        ];
        waits = λ i up. list_any-append (λ n. n == i) waiting (node ∷ []) ∙ (elim (cases_eq i node) [
          | inl same ↦ behind (list_any (λ n. n == i) waiting) (node == i) (eq-eqb node i (sym same))
          | inr other ↦
              before (list_any (λ n. n == i) waiting) (node == i)
              (are.waits i (sym (get_or-set_other listed node i true false other) ∙ up))
        ]);
        within = each_append (λ n. n < length (slice_set stale node true)) waiting (node ∷ [])
            (each_from (λ n. n < length stale) (λ n. n < length (slice_set stale node true)) waiting
            (λ n within. omega (arith, within, long)) are.within) (omega (arith, below, long), tt);
      }
    where
      before : (a b : Bool) → a ≡ true → (a || (b || false)) ≡ true
      before a b is = ap (λ c. c || (b || false)) is

      behind : (a b : Bool) → b ≡ true → (a || (b || false)) ≡ true
      behind true b is = refl
      behind false b is = ap (λ c. c || false) is

  -- ---- clearing a flag

  pub forgotten : (node : ℕ) → AreWaiting (slice_set stale node false) listed waiting room
  forgotten node = record {
    long = are.long ∙ sym (length-set stale node false);
    few = are.few;
    room_is = omega (arith, are.room_is, length-set stale node false);
    marked = λ i up. elim (cases_eq i node) [
      | inl same ↦ absurd (false≢true (sym (down_at stale node i same) ∙ up))
      | inr other ↦ are.marked i (sym (get_or-set_other stale node i false false other) ∙ up)
    ];
    waits = are.waits;
    within = each_from (λ n. n < length stale) (λ n. n < length (slice_set stale node false)) waiting
        (λ n below. omega (arith, below, length-set stale node false)) are.within;
  }

  -- if no number waits, no flag is set
  pub nobody_waits : waiting ≡ [] → marked_in stale ≡ 0
  nobody_waits none = all_clear stale (λ i. elim (cases_Bool (slice_index_or stale i false)) [
    | inl up ↦ absurd (false≢true (ap (list_any (λ n. n == i)) (sym none) ∙ are.waits i (are.marked i up)))
    | inr down ↦ down
  ])

-- at most one flag fewer is set
fewer_at_most : (listed : List Bool) (node : ℕ) → node < length listed
    → marked_in listed ≤ marked_in (slice_set listed node false) + 1
fewer_at_most listed node below =
    omega (arith, sum_by-set one_if listed node false false below, at_most_one (slice_index_or listed node false))
  where
    at_most_one : (flag : Bool) → one_if flag ≤ 1
    at_most_one true = omega arith
    at_most_one false = omega arith

-- the last number that waits is removed, if its flag is not set
module _ (stale listed : List Bool) (prefix : List ℕ) (node room : ℕ) (are : AreWaiting stale listed (prefix ++ node ∷ []) room) where
  pub last_within : node < length stale
  last_within = (each_parts (λ n. n < length stale) prefix (node ∷ []) are.within).1.0

  pub unlisted : slice_index_or stale node false ≡ false → AreWaiting stale (slice_set listed node false) prefix room
  unlisted down =
      let inside : node < length listed = omega (arith, last_within, are.long) in record {
        long = length-set listed node false ∙ are.long;
        few = omega (arith, are.few, length-append prefix (node ∷ []), fewer_at_most listed node inside);
        room_is = are.room_is;
        marked = λ i up. elim (cases_eq i node) [
          | inl same ↦ absurd (false≢true (sym down ∙ ap (λ n. slice_index_or stale n false) (sym same) ∙ up))
          | inr other ↦ get_or-set_other listed node i false false other ∙ are.marked i up
        ];
        waits = λ i up. elim (cases_eq i node) [
          | inl same ↦ absurd (false≢true (sym (down_at listed node i same) ∙ up))
          | inr other ↦
              not_last (list_any (λ n. n == i) prefix) (node == i) (ne_eqb node i (λ e. other (sym e)))
              (sym (list_any-append (λ n. n == i) prefix (node ∷ []))
              ∙ are.waits i (sym (get_or-set_other listed node i false false other) ∙ up))
        ];
        within = (each_parts (λ n. n < length stale) prefix (node ∷ []) are.within).0;
      }
    where
      not_last : (a b : Bool) → b ≡ false → (a || (b || false)) ≡ true → a ≡ true
      not_last true b is either = refl
      not_last false b is either = sym (ap (λ c. c || false) is) ∙ either
