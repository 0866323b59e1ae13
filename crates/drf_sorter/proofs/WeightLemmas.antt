-- Weights stay within their range when one is set.
use Rattle.std.proofs.Common.{◌≡◌, ◌<◌, ◌≤◌, ℕ, zero, suc, false, IsTrue, List, [], ◌∷◌, ◌++◌, Some, length, get_or, set, refl, sym, ap, inl, inr, arith, nat_le, nat_lt}
use Rattle.std.specs.List.{list_any, position, position_or_len}
use Rattle.std.proofs.lemmas.Bool.{true≢false, cases_Bool, and_parts, and_from, le-leb}
use Rattle.std.proofs.lemmas.List.Quantifiers.{position-Some}
use Rattle.drf_role.specs.Path.{same_path}
use Rattle.drf_rows.specs.declared.rows.WeightRow.{WeightRow}
use Rattle.drf_rows.specs.Weights.{is_weight, are_weights, weights_with}

-- a weight within the range replaces another
pub weights-stay : (ws : List WeightRow) (i : ℕ) (w : WeightRow) → 1 ≤ w.weight → w.weight ≤ 1000000
    → IsTrue (are_weights ws) → IsTrue (are_weights (set ws i w))
weights-stay [] i w some most all = refl
weights-stay (x ∷ xs) zero w some most all =
    let parts = and_parts (is_weight x.weight) (are_weights xs) all in
    let new = and_from (nat_le 1 w.weight) (nat_le w.weight 1000000) (le-leb 1 w.weight some)
    (le-leb w.weight 1000000 most) in
    and_from (is_weight w.weight) (are_weights xs) new parts.1
weights-stay (x ∷ xs) (suc i) w some most all =
    let parts = and_parts (is_weight x.weight) (are_weights xs) all in
    and_from (is_weight x.weight) (are_weights (set xs i w)) parts.0 (weights-stay xs i w some most parts.1)

module _ (role : List (List ℕ)) (weight : ℕ) where
  -- the row that was found is the first of the role
  set_at : (ws : List WeightRow) (i : ℕ) (w : WeightRow)
      → i ≡ position_or_len (λ (w : WeightRow). same_path w.role role) ws → i < length ws → w ≡ get_or ws i w
      → set ws i (record w { weight = weight }) ≡ weights_with ws role weight
  set_at [] i w first inside is = absurd (omega arith)
  set_at (x ∷ xs) zero w first inside is = elim (cases_Bool (same_path x.role role)) [
    | inl here ↦ rw here (λ j. record (is j) { weight = weight } ∷ xs)
    | inr past ↦ absurd (omega (arith, rw past at first))
  ]
  set_at (x ∷ xs) (suc i) w first inside is = elim (cases_Bool (same_path x.role role)) [
    | inl here ↦ absurd (omega (arith, rw here at first))
    | inr past ↦ rw past (ap (λ ws. x ∷ ws) (set_at xs i w (omega (arith, rw past at first)) (omega arith) is))
  ]

  pub weights-set : (ws : List WeightRow) (i : ℕ) (w : WeightRow)
      → Some i ≡ position (λ (w : WeightRow). same_path w.role role) ws → w ≡ get_or ws i w
      → set ws i (record w { weight = weight }) ≡ weights_with ws role weight
  weights-set ws i w at is =
      let found = position-Some (λ (w : WeightRow). same_path w.role role) ws i w (sym at) in
      set_at ws i w (first found.0 at) found.0 is
    where
      first : i < length ws → Some i ≡ position (λ (w : WeightRow). same_path w.role role) ws
          → i ≡ position_or_len (λ (w : WeightRow). same_path w.role role) ws
      first inside at =
          elim (cases_Bool (nat_lt (position_or_len (λ (w : WeightRow). same_path w.role role) ws) (length ws))) [
            | inl within ↦ let same = rw within at at in cc
            | inr past ↦ absurd (let bad = rw past at at in cc)
          ]

  -- a role that had no weight
  pub weights-push : (ws : List WeightRow) → list_any (λ (w : WeightRow). same_path w.role role) ws ≡ false
      → ws ++ record { role = role; weight = weight } ∷ [] ≡ weights_with ws role weight
  weights-push [] none = refl
  weights-push (x ∷ xs) none = elim (cases_Bool (same_path x.role role)) [
    | inl here ↦ absurd (true≢false (rw here at none))
    | inr past ↦ rw past (ap (λ ws. x ∷ ws) (weights-push xs (rw past at none)))
  ]
