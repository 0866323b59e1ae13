-- Which bytes need an escape, for many bytes at once.
use Rattle.std.proofs.Common.{◌≡◌, ℕ, zero, suc, ◌+◌, ◌*◌, ◌%◌, ◌^◌, ◌<◌, ◌≤◌, ltb, Bool, true, false, not, cond, eqb, T, get_or, List, [], ◌∷◌, ◌&&◌, map, length, drop, ◌⊎◌, inl, inr, refl, sym, ap, ap₂, ◌∙◌, subst, arith, w8, Fits, not-suc-le-zero}
use Rattle.std.proofs.lemmas.Simd.{mask_l-mod, chunk-drop, none_from_empty_mask, run_in_chunk_le, run_in_chunk_fails, trailing_mask_l, length-chunk}
use Rattle.std.proofs.lemmas.List.{length-map}
use Rattle.std.proofs.lemmas.List.Folds.{list_all-append}
use Rattle.std.proofs.lemmas.Bool.{cases_order, eq-eqb, ne_eqb}
use Rattle.std.specs.List.{list_all, prefix_len}
use lib.Bits.{bit_or}
use lib.Count.{count_trailing_zeros}
use lib.Lanes.{zip2, mask_l, top, Each1, chunk}
use Rattle.json.specs.Run.{is_stop}
use Rattle.drf_lines.specs.Written.{is_plain_byte, ArePlainFrom}

-- ---- a property of each of the 256 bytes, by computation

abbrev pub upto : (ℕ → Bool) → ℕ → Bool
upto p zero = true
upto p (suc n) = p n && upto p n

both : (a b : Bool) → T (a && b) → T a × T b
both true b h = (tt, h)
both false b h = absurd h

pub upto_sound : (p : ℕ → Bool) (n : ℕ) → T (upto p n) → (i : ℕ) → i < n → T (p i)
upto_sound p zero h i lt = absurd (not-suc-le-zero lt)
upto_sound p (suc n) h i lt = go (upto_sound p n (both (p n) (upto p n) h).1 i) (cases_order i n)
  where
    go : (i < n → T (p i)) → (i ≡ n) ⊎ ((i < n) ⊎ (n < i)) → T (p i)
    go before (inl e) = subst (λ x. T (p x)) (sym e) (both (p n) (upto p n) h).0
    go before (inr (inl l)) = before l
    go before (inr (inr g)) = absurd (omega (arith, g, lt))

abbrev same : Bool → Bool → Bool
same a b = cond a b (not b)

same_is : (a b : Bool) → T (same a b) → a ≡ b
same_is true true h = refl
same_is false false h = refl
same_is true false h = absurd h
same_is false true h = absurd h

-- ---- a mask, lane by lane

abbrev pub hit : ℕ → ℕ → ℕ
hit a b = cond (eqb a b) 255 0

abbrev pub below : ℕ → ℕ → ℕ
below a b = cond (ltb a b) 255 0

-- the lane of a byte
abbrev lane : ℕ → ℕ
lane x = bit_or (bit_or (hit x 34) (hit x 92)) (below x 32)

pub joined : (f g : ℕ → ℕ) (v : List ℕ) {a b : List ℕ} → a ≡ map f v → b ≡ map g v → zip2 bit_or a b ≡ map (λ x. bit_or (f x) (g x)) v
joined f g v p q = ap₂ (zip2 bit_or) p q ∙ each v
  where
    each : (xs : List ℕ) → zip2 bit_or (map f xs) (map g xs) ≡ map (λ x. bit_or (f x) (g x)) xs
    each [] = refl
    each (x ∷ xs) = ap (λ r. bit_or (f x) (g x) ∷ r) (each xs)

each_byte : (v : List ℕ) → Each1 (Fits w8) v → map (top 7) (map lane v) ≡ map is_stop v
each_byte [] fits = refl
each_byte (x ∷ xs) fits =
    ap₂ (λ a b. a ∷ b) (same_is _ _ (upto_sound (λ y. same (top 7 (lane y)) (is_stop y)) 256 tt x fits.0.fits)) (each_byte xs fits.1)

pub stops_in : (n : ℕ) (v : List ℕ) → n ≤ 64 → length v ≡ n → Each1 (Fits w8) v → {z : List ℕ}
    → z ≡ map lane v → mask_l (map (top 7) z) % 2 ^ 64 ≡ mask_l (map is_stop v)
stops_in n v few long fits e =
    ap (λ l. mask_l l % 2 ^ 64) (ap (map (top 7)) e ∙ each_byte v fits) ∙ mask_l-mod (map is_stop v) 64 (omega (arith, few, long, length-map v is_stop))

-- ---- what the mask means

plain_is : (x : ℕ) → is_plain_byte x ≡ not (is_stop x)
plain_is x = grind arith

none_stops : (b : Bool) (m : ℕ) → (not b && eqb m 0) ≡ eqb (cond b 1 0 + 2 * m) 0
none_stops true m = sym (ne_eqb (1 + 2 * m) 0 (λ e. omega (arith, e)))
none_stops false zero = refl
none_stops false (suc m) = ne_eqb (suc m) 0 (λ e. omega (arith, e)) ∙ sym (ne_eqb (0 + 2 * suc m) 0 (λ e. omega (arith, e)))

plain_by_mask : (xs : List ℕ) → list_all is_plain_byte xs ≡ eqb (mask_l (map is_stop xs)) 0
plain_by_mask [] = refl
plain_by_mask (x ∷ xs) =
    (λ i. plain_is x i && plain_by_mask xs i) ∙ none_stops (is_stop x) (mask_l (map is_stop xs))

module _ (i n : ℕ) (bytes : List ℕ) where
  parts : list_all is_plain_byte (drop i bytes) ≡ (eqb (mask_l (map is_stop (chunk i n bytes))) 0 && list_all is_plain_byte (drop (i + n) bytes))
  parts =
      ap (list_all is_plain_byte) (chunk-drop i n bytes) ∙ list_all-append is_plain_byte (chunk i n bytes) (drop (i + n) bytes)
      ∙ ap (λ b. b && list_all is_plain_byte (drop (i + n) bytes)) (plain_by_mask (chunk i n bytes))

  -- without a set bit the later bytes decide
  pub none_stop : mask_l (map is_stop (chunk i n bytes)) ≡ 0 → list_all is_plain_byte (drop i bytes) ≡ list_all is_plain_byte (drop (i + n) bytes)
  none_stop none = parts ∙ ap (λ b. b && list_all is_plain_byte (drop (i + n) bytes)) (eq-eqb _ 0 none)

  -- with a set bit the bytes are not all plain
  pub one_stops : 0 < mask_l (map is_stop (chunk i n bytes)) → list_all is_plain_byte (drop i bytes) ≡ false
  one_stops some = parts ∙ ap (λ b. b && list_all is_plain_byte (drop (i + n) bytes)) (ne_eqb _ 0 (λ e. omega (arith, some, e)))

-- ---- a property of each index from one up to another

module _ (P : ℕ → Type 0) (from : ℕ) where
  pub none_between : (k : ℕ) → from ≤ k → k < from → P k
  none_between k after before = absurd (omega (arith, after, before))

  pub more_between : (i to : ℕ) → ((k : ℕ) → from ≤ k → k < i → P k) → ((k : ℕ) → i ≤ k → k < to → P k) → (k : ℕ) → from ≤ k → k < to → P k
  more_between i to first next k after before = go (cases_order k i)
    where
      go : (k ≡ i) ⊎ ((k < i) ⊎ (i < k)) → P k
      go (inl e) = next k (omega (arith, e)) before
      go (inr (inl less)) = first k after less
      go (inr (inr more)) = next k (omega (arith, more)) before

  pub one_more_between : (i : ℕ) → ((k : ℕ) → from ≤ k → k < i → P k) → P i → (k : ℕ) → from ≤ k → k < i + 1 → P k
  one_more_between i first here = more_between i (i + 1) first (λ k after before. let e : i ≡ k = omega (arith, after, before) in subst P e here)

-- the bytes of a load are plain if no bit is set, and otherwise those before the first set bit are
module _ (bytes : List ℕ) (i n : ℕ) (room : i + n ≤ length bytes) where
  pub plain_where_none : mask_l (map is_stop (chunk i n bytes)) ≡ 0 → ArePlainFrom bytes i (i + n)
  plain_where_none none k after before = plain_is (get_or bytes k 0) ∙ ap not (none_from_empty_mask is_stop bytes i n 0 room none k after before)

  module _ (few : n ≤ 64) (some : 0 < mask_l (map is_stop (chunk i n bytes))) where
    abbrev pub before_bit : ℕ
    before_bit = count_trailing_zeros 64 (mask_l (map is_stop (chunk i n bytes)))

    counted : before_bit ≡ prefix_len (λ x. not (is_stop x)) (chunk i n bytes)
    counted = trailing_mask_l is_stop 64 (chunk i n bytes) (omega (arith, length-chunk i n bytes room)) some

    pub bit_within : before_bit ≤ n
    bit_within = run_in_chunk_le is_stop bytes i n before_bit 0 room counted

    pub plain_before_bit : ArePlainFrom bytes i (i + before_bit)
    plain_before_bit k after before = plain_is (get_or bytes k 0) ∙ ap not (run_in_chunk_fails is_stop bytes i n before_bit 0 room counted k after before)
