-- The intervals of the numbers that are kept of two sets.
use Rattle.std.proofs.Common.{◌≡◌, ℕ, ◌+◌, ◌-◌, ◌<◌, ◌≤◌, ◌^◌, Bool, true, false, ◌&&◌, ◌||◌, List, [], ◌∷◌, ◌++◌, nat_le, inl, inr, refl, sym, ◌∙◌, arith}
use Rattle.std.specs.Bool.{beq}
use Rattle.std.proofs.Math.Bool.{or_assoc, or-false}
use Rattle.std.proofs.lemmas.Bool.{le-leb, lt-leb, cases_lt, true≢false}
use Rattle.drf_kinds.specs.declared.interval.Interval.{Interval}
use Rattle.drf_kinds.specs.Intervals.{AreMaximal, AreMaximalFrom, is_in, is_within}
use Rattle.drf_kinds.specs.Sweep.{Steps, steps_of}
use Rattle.drf_kinds.proofs.SweepLemmas.{AreFrom, is_member}
use Rattle.drf_kinds.specs.Sets.{is_kept}
use Rattle.drf_kinds.proofs.Steps.{PassesBoth, AreFrom-lower, member_of_places, places_from}

-- where the next of maximal intervals can begin
abbrev pub end_of : ℕ → List Interval → ℕ
end_of low [] = low
end_of low (i ∷ is) = end_of (i.last + 2) is

pub end_of-append : (low : ℕ) (is : List Interval) (i : Interval) → end_of low (is ++ i ∷ []) ≡ i.last + 2
end_of-append low [] i = refl
end_of-append low (j ∷ is) i = end_of-append (j.last + 2) is i

pub AreMaximal-append : (low : ℕ) (is : List Interval) (i : Interval) → AreMaximalFrom low is → end_of low is ≤ i.first → i.first ≤ i.last → i.last < 2 ^ 32 → AreMaximalFrom low (is ++ i ∷ [])
AreMaximal-append low [] i maximal apart ordered small = (apart, ordered, small, tt)
AreMaximal-append low (j ∷ is) i maximal apart ordered small =
    (maximal.0, maximal.1, maximal.2, AreMaximal-append (j.last + 2) is i maximal.3 apart ordered small)

pub is_in-append : (is : List Interval) (i : Interval) (n : ℕ) → is_in (is ++ i ∷ []) n ≡ (is_in is n || is_within i n)
is_in-append [] i n = or-false (is_within i n)
is_in-append (j ∷ is) i n = rw (is_in-append is i n) (sym (or_assoc (is_within j n) (is_in is n) (is_within i n)))

-- where the next place can be: after the intervals so far, or after the beginning of an open one
abbrev pub low_of : List Interval → ℕ → Bool → ℕ
low_of found start true = start + 1
low_of found start false = end_of 0 found

-- an open interval begins after the intervals before it
abbrev pub IsBegun : List Interval → ℕ → Bool → Type 0
IsBegun found start true = end_of 0 found ≤ start
IsBegun found start false = start ≤ end_of 0 found

pub none_kept : (united : Bool) → is_kept united false false ≡ false
none_kept true = refl
none_kept false = refl

-- `kept` says whether a number is kept, given whether it is in each of the two sets
module _ (kept : Bool → Bool → Bool) where
  -- the numbers in the intervals found so far are those that are kept; from `start` on the remaining steps decide
  pub record Found (left right : ℕ → Bool) (s t : Steps) (found : List Interval) (start : ℕ) (inside : Bool) : Type 0 where
    pub is : inside ≡ kept s.inside t.inside
    pub maximal : AreMaximal found
    pub begun : IsBegun found start inside
    pub left_from : AreFrom (low_of found start inside) s.inside s.places
    pub right_from : AreFrom (low_of found start inside) t.inside t.places
    pub same : (n : ℕ) → (is_in found n || (nat_le start n && kept (is_member s.inside s.places n) (is_member t.inside t.places n))) ≡ kept (left n) (right n)

  pub found_start : (a b : List Interval) → kept false false ≡ false → AreMaximal a → AreMaximal b → Found (is_in a) (is_in b) (steps_of false a) (steps_of false b) [] 0 false
  found_start a b none a_maximal b_maximal = record {
    is = sym none;
    maximal = tt;
    begun = omega arith;
    left_from = places_from 0 a a_maximal;
    right_from = places_from 0 b b_maximal;
    same = λ n. rw (member_of_places 0 a n a_maximal, member_of_places 0 b n b_maximal, le-leb 0 n (omega arith));
  }

  -- up to the place, all numbers are kept, or none is
  alone_before : (low place : ℕ) (s t s' t' : Steps) (n : ℕ) → PassesBoth low place s t s' t' → n < place → kept (is_member s.inside s.places n) (is_member t.inside t.places n) ≡ kept s.inside t.inside
  alone_before low place s t s' t' n both before = rw (both.left.before n before, both.right.before n before)

  alone_upto : (low place : ℕ) (s t s' t' : Steps) (n : ℕ) → PassesBoth low place s t s' t' → n < place → kept (is_member s'.inside s'.places n) (is_member t'.inside t'.places n) ≡ kept s'.inside t'.inside
  alone_upto low place s t s' t' n both before = rw (both.left.upto n (omega arith), both.right.upto n (omega arith))

  -- from the place on, those are kept that were kept before
  alone_after : (low place : ℕ) (s t s' t' : Steps) (n : ℕ) → PassesBoth low place s t s' t' → place ≤ n → kept (is_member s'.inside s'.places n) (is_member t'.inside t'.places n) ≡ kept (is_member s.inside s.places n) (is_member t.inside t.places n)
  alone_after low place s t s' t' n both after = rw (both.left.after n after, both.right.after n after)

  same_after : (f s x x' : Bool) → x' ≡ x → (f || (s && x')) ≡ (f || (s && x))
  same_after f s x x' e = rw e

  begun_before : (f s p x x' : Bool) → p ≡ false → x ≡ false → (f || (p && x')) ≡ (f || (s && x))
  begun_before f true p x x' p_is x_is = rw (p_is, x_is)
  begun_before f false p x x' p_is x_is = rw p_is

  begun_after : (f s p x x' : Bool) → p ≡ true → s ≡ true → x' ≡ x → (f || (p && x')) ≡ (f || (s && x))
  begun_after f s p x x' p_is s_is x_is = rw (p_is, s_is, x_is)

  ended_before : (f s l x x' : Bool) → l ≡ true → x ≡ true → x' ≡ false → ((f || (s && l)) || (s && x')) ≡ (f || (s && x))
  ended_before true s l x x' l_is x_is x'_is = refl
  ended_before false true l x x' l_is x_is x'_is = rw (l_is, x_is)
  ended_before false false l x x' l_is x_is x'_is = refl

  ended_after : (f s l x x' : Bool) → l ≡ false → x' ≡ x → ((f || (s && l)) || (s && x')) ≡ (f || (s && x))
  ended_after true s l x x' l_is x_is = refl
  ended_after false true l x x' l_is x_is = rw (l_is, x_is)
  ended_after false false l x x' l_is x_is = refl

  -- a place where nothing changes
  on : (left right : ℕ → Bool) (s t s' t' : Steps) (found : List Interval) (start place : ℕ) (inside : Bool) → Found left right s t found start inside → PassesBoth (low_of found start inside) place s t s' t' → inside ≡ kept s'.inside t'.inside → Found left right s' t' found start inside
  on left right s t s' t' found start place inside known both is = record {
    is = is;
    maximal = known.maximal;
    begun = known.begun;
    left_from = AreFrom-lower (place + 1) _ _ _ (omega (arith, both.above)) both.left.from;
    right_from = AreFrom-lower (place + 1) _ _ _ (omega (arith, both.above)) both.right.from;
    same = λ n.
        same_after (is_in found n) (nat_le start n) _ _
        (elim (cases_lt n place) [
          | inl less ↦ alone_upto _ place s t s' t' n both less ∙ sym is ∙ known.is ∙ sym (alone_before _ place s t s' t' n both less)
          | inr more ↦ alone_after _ place s t s' t' n both more
        ])
        ∙ known.same n;
  }

  -- a place where an interval begins
  begin : (left right : ℕ → Bool) (s t s' t' : Steps) (found : List Interval) (start place : ℕ) → Found left right s t found start false → PassesBoth (low_of found start false) place s t s' t' → true ≡ kept s'.inside t'.inside → Found left right s' t' found place true
  begin left right s t s' t' found start place known both is = record {
    is = is;
    maximal = known.maximal;
    begun = both.above;
    left_from = both.left.from;
    right_from = both.right.from;
    same = λ n.
        elim (cases_lt n place) [
          | inl less ↦ begun_before (is_in found n) (nat_le start n) _ _ _ (lt-leb place n less) (alone_before _ place s t s' t' n both less ∙ sym known.is)
          | inr more ↦ begun_after (is_in found n) (nat_le start n) _ _ _ (le-leb place n more) (le-leb start n (omega (arith, known.begun, both.above))) (alone_after _ place s t s' t' n both more)
        ]
        ∙ known.same n;
  }

  -- a place where an interval ends
  end : (left right : ℕ → Bool) (s t s' t' : Steps) (found : List Interval) (start place : ℕ) → Found left right s t found start true → PassesBoth (low_of found start true) place s t s' t' → false ≡ kept s'.inside t'.inside → Found left right s' t' (found ++ record { first = start; last = place - 1 } ∷ []) start false
  end left right s t s' t' found start place known both is =
      let ends = end_of-append 0 found (record { first = start; last = place - 1 }) in
      let past : end_of 0 (found ++ record { first = start; last = place - 1 } ∷ []) ≡ place + 1 = omega (arith, ends, both.above) in
      record {
        is = is;
        maximal = AreMaximal-append 0 found _ known.maximal known.begun (omega (arith, both.above)) (omega (arith, both.above, both.below));
        begun = omega (arith, past, both.above);
        left_from = rw past both.left.from;
        right_from = rw past both.right.from;
        same = λ n.
            rw (is_in-append found (record { first = start; last = place - 1 }) n)
            (elim (cases_lt n place) [
              | inl less ↦
                  ended_before (is_in found n) (nat_le start n) _ _ _ (le-leb n (place - 1) (omega arith)) (alone_before _ place s t s' t' n both less ∙ sym known.is) (alone_upto _ place s t s' t' n both less ∙ sym is)
              | inr more ↦ ended_after (is_in found n) (nat_le start n) _ _ _ (lt-leb n (place - 1) (omega (arith, both.above))) (alone_after _ place s t s' t' n both more)
            ]
            ∙ known.same n);
      }

  pub found_on : (left right : ℕ → Bool) (s t s' t' : Steps) (found : List Interval) (start place : ℕ) (was inside : Bool) → Found left right s t found start was → PassesBoth (low_of found start was) place s t s' t' → inside ≡ kept s'.inside t'.inside → beq inside was ≡ true → Found left right s' t' found start inside
  found_on left right s t s' t' found start place true true known both is same = on left right s t s' t' found start place true known both is
  found_on left right s t s' t' found start place false false known both is same = on left right s t s' t' found start place false known both is
  found_on left right s t s' t' found start place true false known both is same = absurd (true≢false (sym same))
  found_on left right s t s' t' found start place false true known both is same = absurd (true≢false (sym same))

  pub found_begin : (left right : ℕ → Bool) (s t s' t' : Steps) (found : List Interval) (start place : ℕ) (was inside : Bool) → Found left right s t found start was → PassesBoth (low_of found start was) place s t s' t' → inside ≡ kept s'.inside t'.inside → beq inside was ≡ false → inside ≡ true → Found left right s' t' found place inside
  found_begin left right s t s' t' found start place was false known both is other now = absurd (true≢false (sym now))
  found_begin left right s t s' t' found start place true true known both is other now = absurd (true≢false other)
  found_begin left right s t s' t' found start place false true known both is other now = begin left right s t s' t' found start place known both is

  pub found_end : (left right : ℕ → Bool) (s t s' t' : Steps) (found : List Interval) (start place : ℕ) (was inside : Bool) → Found left right s t found start was → PassesBoth (low_of found start was) place s t s' t' → inside ≡ kept s'.inside t'.inside → beq inside was ≡ false → inside ≡ false → Found left right s' t' (found ++ record { first = start; last = place - 1 } ∷ []) start inside
  found_end left right s t s' t' found start place was true known both is other now = absurd (true≢false now)
  found_end left right s t s' t' found start place false false known both is other now = absurd (true≢false other)
  found_end left right s t s' t' found start place true false known both is other now = end left right s t s' t' found start place known both is
