-- Passing the places of sets of numbers.
use Rattle.std.proofs.Common.{◌≡◌, ◌≢◌, ℕ, ◌+◌, ◌<◌, ◌≤◌, ◌^◌, Bool, true, false, not, List, [], ◌∷◌, min, ◌⊎◌, inl, inr, refl, sym, ◌∙◌, arith}
use Rattle.std.proofs.lemmas.Bool.{lt-ltb, le-ltb, eq-eqb, ne_eqb, le-leb, lt-leb, cases_eq, cases_lt}
use Rattle.drf_kinds.specs.declared.interval.Interval.{Interval}
use Rattle.drf_kinds.specs.Intervals.{AreMaximal, AreMaximalFrom, is_in}
use Rattle.drf_kinds.specs.Sweep.{Steps, next_place, passed, places_of, steps_of, rest}
use Rattle.drf_kinds.proofs.SweepLemmas.{AreFrom, is_member}
use Rattle.drf_kinds.specs.Sets.{is_met}

-- the steps t are the steps s after a place that is at most all places of s
pub record Passes (place : ℕ) (s t : Steps) : Type 0 where
  pub from : AreFrom (place + 1) t.inside t.places
  pub before : (n : ℕ) → n < place → is_member s.inside s.places n ≡ s.inside
  pub upto : (n : ℕ) → n ≤ place → is_member t.inside t.places n ≡ t.inside
  pub after : (n : ℕ) → place ≤ n → is_member t.inside t.places n ≡ is_member s.inside s.places n

before_places : (inside : Bool) (ps : List ℕ) (n : ℕ) → n < next_place ps → is_member inside ps n ≡ inside
before_places inside [] n h = refl
before_places inside (p ∷ ps) n h = rw (lt-ltb n p h)

pub AreFrom-lower : (low lower : ℕ) (inside : Bool) (ps : List ℕ) → lower ≤ low → AreFrom low inside ps → AreFrom lower inside ps
AreFrom-lower low lower inside [] h from = from
AreFrom-lower low lower inside (p ∷ ps) h from = (omega arith, from.1, from.2)

-- a place that is not the next changes nothing
passed_none : (place : ℕ) (s : Steps) → (next_place s.places ≡ place → ⊥) → passed place s ≡ s
passed_none place s other = rw (ne_eqb (next_place s.places) place other)

passed_next : (place : ℕ) (s : Steps) → next_place s.places ≡ place → passed place s ≡ record { inside = not s.inside; places = rest s.places }
passed_next place s same = rw (eq-eqb (next_place s.places) place same)

stays : (place low : ℕ) (s : Steps) → AreFrom low s.inside s.places → place < next_place s.places → AreFrom (place + 1) s.inside s.places → Passes place s s
stays place low s from within above = record {
  from = above;
  before = λ n h. before_places s.inside s.places n (omega arith);
  upto = λ n h. before_places s.inside s.places n (omega arith);
  after = λ n _. refl;
}

above_place : (place low : ℕ) (inside : Bool) (ps : List ℕ) → AreFrom low inside ps → place < next_place ps → AreFrom (place + 1) inside ps
above_place place low inside [] from within = from
above_place place low inside (p ∷ ps) from within = (omega arith, from.1, from.2)

next_above : (low : ℕ) (inside : Bool) (ps : List ℕ) → low ≤ 2 ^ 32 + 1 → AreFrom low inside ps → low ≤ next_place ps
next_above low inside [] small from = omega arith
next_above low inside (p ∷ ps) small from = from.0

goes : (p low : ℕ) (inside : Bool) (ps : List ℕ) → AreFrom low inside (p ∷ ps) → Passes p (record { inside = inside; places = p ∷ ps }) (record { inside = not inside; places = ps })
goes p low inside ps from =
    let above : p + 1 ≤ next_place ps = next_above (p + 1) (not inside) ps (omega (arith, from.1)) from.2 in
    record {
      from = from.2;
      before = λ n h. before_places inside (p ∷ ps) n h;
      upto = λ n h. before_places (not inside) ps n (omega arith);
      after = λ n h. rw (le-ltb n p h);
    }

goes_at : (low place : ℕ) (s : Steps) → AreFrom low s.inside s.places → next_place s.places ≡ place → place ≢ 2 ^ 33 → Passes place s (record { inside = not s.inside; places = rest s.places })
goes_at low place s from same some =
    elim s.places as (λ ps. AreFrom low s.inside ps → next_place ps ≡ place → Passes place (record { inside = s.inside; places = ps }) (record { inside = not s.inside; places = rest ps })) [
      | [] ↦ λ _ same. absurd (some (sym same))
      | p ∷ ps ↦ λ from same. rw (← same) (goes p low s.inside ps from)
    ] from same

-- what passing a place keeps and changes
passes : (low place : ℕ) (s t : Steps) → AreFrom low s.inside s.places → place ≤ next_place s.places → place ≢ 2 ^ 33 → t ≡ passed place s → Passes place s t
passes low place s t from within some is =
    elim (cases_eq (next_place s.places) place) [
      | inl same ↦ rw (is, passed_next place s same) (goes_at low place s from same some)
      | inr other ↦ rw (is, passed_none place s other) (let below : place < next_place s.places = grind (arith, other) in stays place low s from below (above_place place low s.inside s.places from below))
    ]

-- the places of maximal intervals
pub places_from : (low : ℕ) (is : List Interval) → AreMaximalFrom low is → AreFrom low false (places_of is)
places_from low [] maximal = refl
places_from low (i ∷ is) maximal =
    (maximal.0, omega (arith, maximal.1, maximal.2), (omega (arith, maximal.1), omega (arith, maximal.2), AreFrom-lower (i.last + 2) _ _ _ (omega arith) (places_from (i.last + 2) is maximal.3)))

-- no number below the first interval is in one
pub none_below : (low : ℕ) (is : List Interval) (n : ℕ) → AreMaximalFrom low is → n < low → is_in is n ≡ false
none_below low [] n maximal h = refl
none_below low (i ∷ is) n maximal h = rw (lt-leb i.first n (omega (arith, maximal.0))) (none_below (i.last + 2) is n maximal.3 (omega (arith, maximal.0, maximal.1)))

-- the places determine the members
pub member_of_places : (low : ℕ) (is : List Interval) (n : ℕ) → AreMaximalFrom low is → is_member false (places_of is) n ≡ is_in is n
member_of_places low [] n maximal = refl
member_of_places low (i ∷ is) n maximal =
    let later = member_of_places (i.last + 2) is n maximal.3 in
    elim (cases_lt n i.first) [
      | inl before ↦ rw (lt-ltb n i.first before, lt-leb i.first n before) (sym (none_below (i.last + 2) is n maximal.3 (omega (arith, maximal.1))))
      | inr after ↦
          elim (cases_lt n (i.last + 1)) [
            | inl within ↦ rw (le-ltb n i.first after, le-leb i.first n after, lt-ltb n (i.last + 1) within, le-leb n i.last (omega arith))
            | inr past ↦ rw (le-ltb n i.first after, le-leb i.first n after, le-ltb n (i.last + 1) past, lt-leb n i.last (omega arith)) later
          ]
    ]

-- the steps s' and t' are s and t after the next place of either
pub record PassesBoth (low place : ℕ) (s t s' t' : Steps) : Type 0 where
  pub above : low ≤ place
  pub below : place ≤ 2 ^ 32
  pub left : Passes place s s'
  pub right : Passes place t t'

bounded_next : (low : ℕ) (inside : Bool) (ps : List ℕ) → AreFrom low inside ps → (low ≤ next_place ps) × (next_place ps ≤ 2 ^ 32) ⊎ (next_place ps ≡ 2 ^ 33)
bounded_next low inside [] from = inr refl
bounded_next low inside (p ∷ ps) from = inl (from.0, from.1)

next_bounds : (low place : ℕ) (s t : Steps) → AreFrom low s.inside s.places → AreFrom low t.inside t.places → place ≡ min (next_place s.places) (next_place t.places) → place ≢ 2 ^ 33 → (low ≤ place) × (place ≤ 2 ^ 32)
next_bounds low place s t s_from t_from next some =
    let left = bounded_next low s.inside s.places s_from in
    let right = bounded_next low t.inside t.places t_from in
    grind (arith, some)

pub passes_both : (low place : ℕ) (s t s' t' : Steps) → AreFrom low s.inside s.places → AreFrom low t.inside t.places → place ≡ min (next_place s.places) (next_place t.places) → place ≢ 2 ^ 33 → s' ≡ passed place s → t' ≡ passed place t → PassesBoth low place s t s' t'
passes_both low place s t s' t' s_from t_from next some s_is t_is = record {
  above = (next_bounds low place s t s_from t_from next some).0;
  below = (next_bounds low place s t s_from t_from next some).1;
  left = passes low place s s' s_from (omega arith) some s_is;
  right = passes low place t t' t_from (omega arith) some t_is;
}

-- no number that was passed counts as met, and the sets contain the others
pub record Unmet (inside : Bool) (left right : ℕ → Bool) (s t : Steps) : Type 0 where
  pub left_from : AreFrom 0 s.inside s.places
  pub right_from : AreFrom 0 t.inside t.places
  pub out : is_met inside s.inside t.inside ≡ false
  pub same : (n : ℕ) → is_met inside (left n) (right n) ≡ is_met inside (is_member s.inside s.places n) (is_member t.inside t.places n)

-- before the first place nothing counts as met
pub unmet_start : (inside : Bool) (a b : List Interval) → AreMaximal a → AreMaximal b → Unmet inside (is_in a) (is_in b) (steps_of false a) (steps_of false b)
unmet_start inside a b a_maximal b_maximal = record {
  left_from = places_from 0 a a_maximal;
  right_from = places_from 0 b b_maximal;
  out = refl;
  same = λ n. rw (member_of_places 0 a n a_maximal, member_of_places 0 b n b_maximal);
}

pub unmet_step : (inside : Bool) (left right : ℕ → Bool) (low place : ℕ) (s t s' t' : Steps) → Unmet inside left right s t → PassesBoth low place s t s' t' → is_met inside s'.inside t'.inside ≡ false → Unmet inside left right s' t'
unmet_step inside left right low place s t s' t' unmet both out = record {
  left_from = AreFrom-lower _ 0 _ _ (omega arith) both.left.from;
  right_from = AreFrom-lower _ 0 _ _ (omega arith) both.right.from;
  out = out;
  same = λ n. elim (cases_lt n place) [
    | inl before ↦
        unmet.same n
        ∙ rw (both.left.before n before, both.right.before n before, both.left.upto n (omega arith), both.right.upto n (omega arith)) (unmet.out ∙ sym out)
    | inr after ↦ rw (both.left.after n after, both.right.after n after) (unmet.same n)
  ];
}

pub met_at : (inside : Bool) (left right : ℕ → Bool) (low place : ℕ) (s t s' t' : Steps) → Unmet inside left right s t → PassesBoth low place s t s' t' → is_met inside s'.inside t'.inside ≡ true → is_met inside (left place) (right place) ≡ true
met_at inside left right low place s t s' t' unmet both met =
    unmet.same place
    ∙ rw (← (both.left.after place (omega arith)), ← (both.right.after place (omega arith)), both.left.upto place (omega arith), both.right.upto place (omega arith)) met
