-- If siblings are one agent apart, each has its part by weight, less one agent for each sibling.
use Rattle.std.specs.Prelude.{◌≡◌, ℕ, ◌+◌, ◌*◌, ◌≤◌, List, [], ◌∷◌, length, sum_by}
use Rattle.std.proofs.Common.{refl, sym, ap, subst, arith}
use Rattle.std.proofs.Math.Nat.{mul-le-mul_right, le_of_mul-le-mul_right, one-le-mul}
use Rattle.std.proofs.lemmas.List.Sums.{sum_by-cons}
use Rattle.drf_role.specs.Path.{Path}
use Rattle.drf_role.specs.Text.{Text}
use Rattle.drf_bundle.specs.declared.quantities.Entry.{Entry}
use Rattle.drf_rows.specs.Consistent.{IsConsistent}
use Rattle.drf_rows.specs.Held.{cluster_total, held_by}
use Rattle.drf_rows.specs.Held as rows_word
use Rattle.drf_rows.specs.Share.{Fraction}
use Rattle.drf_row_laws.proofs.WeightLaws.{weight_of-in_range}
use Rattle.drf_rows.specs.declared.rows.Rows.{Rows}
use Rattle.drf_sorter.specs.Fractions.{dominant_of, weigh}
use Rattle.drf_sorter.proofs.theorems.OrderLaws.{greatest_above}
use Rattle.drf_promises.specs.Apart.{largest_agent, AreOneAgentApart, TakesPart}
use Rattle.drf_promises.specs.Sharing.{share_at, times, weight_at, SharingIncentive}
use Rattle.drf_promises.specs.Siblings.{child, AtMost, AtMostSum}
use Rattle.drf_promises.proofs.theorems.Apart.{none_held}
use Rattle.drf_promises.proofs.theorems.Shares.{SomeWhole, dominant_grows, dominant_sum}

-- ---- sums of multiples of two fractions

module _ (k : ℕ) (g h : Fraction) where
  -- k times f is at most a times g and b times h together
  abbrev pub Mix : Fraction → ℕ → ℕ → Type 0
  Mix f a b = AtMostSum (times k f) (times a g) (times b h)

  pub mix_less : (e f : Fraction) (a b : ℕ) → SomeWhole f → AtMost e f → Mix f a b → Mix e a b
  mix_less e f a b some less mix =
      le_of_mul-le-mul_right {m = k * e.part * (g.whole * h.whole)} {n = (a * g.part * h.whole + b * h.part * g.whole) * e.whole} {k = f.whole}
      (omega (arith, mul-le-mul_right (k * (g.whole * h.whole)) less, mul-le-mul_right e.whole mix)) some

  mix_sum : (e f l : Fraction) (a b c d : ℕ) → SomeWhole f → SomeWhole l → AtMostSum e f l → Mix f a b → Mix l c d → Mix e (a + c) (b + d)
  mix_sum e f l a b c d one two sum first second =
      le_of_mul-le-mul_right {m = k * e.part * (g.whole * h.whole)} {n = ((a + c) * g.part * h.whole + (b + d) * h.part * g.whole) * e.whole} {k = f.whole * l.whole}
      (omega (
        arith,
        mul-le-mul_right (k * (g.whole * h.whole)) sum,
        mul-le-mul_right (l.whole * e.whole) first,
        mul-le-mul_right (f.whole * e.whole) second,
      ))
      (one-le-mul one two)

  mix_none : (f : Fraction) (a b : ℕ) → f.part ≡ 0 → Mix f a b
  mix_none f a b none = omega (arith, ap (λ n. k * n * (g.whole * h.whole)) none)

-- a sibling that is at most one agent apart
apart_mix : (f g h : Fraction) (w k : ℕ) → 1 ≤ w → AtMostSum (weigh f w) (weigh g k) (weigh h w) → Mix k g h f w k
apart_mix f g h w k some apart =
    le_of_mul-le-mul_right {m = k * f.part * (g.whole * h.whole)} {n = (w * g.part * h.whole + k * h.part * g.whole) * f.whole} {k = 1000 * w}
    (omega (arith, apart)) (omega (arith, some))

-- ---- the children of a node

module _ (rows : Rows) (parent : Path) (one : Text) (consistent : IsConsistent rows) (apart : AreOneAgentApart rows) (takes : TakesPart rows (child parent one)) where
  abbrev mine : Fraction
  mine = share_at rows (child parent one)

  abbrev w : ℕ
  w = weight_at rows (child parent one)

  abbrev total : List Entry
  total = cluster_total rows.agents

  abbrev held_in : List Text → Text → ℕ
  held_in names label = sum_by (λ name. held_by rows (child parent name) label) names

  abbrev weight_in : List Text → ℕ
  weight_in names = sum_by (λ name. weight_at rows (child parent name)) names

  child_mix : (name : Text) → Mix w mine (largest_agent rows) (share_at rows (child parent name)) (weight_at rows (child parent name)) w
  unfolding rows_word.standing_of
  child_mix name =
      apart_mix (share_at rows (child parent name)) mine (largest_agent rows) (weight_at rows (child parent name)) w
      (weight_of-in_range rows.weights (child parent name) consistent.weights.each).0 (apart parent name one takes)

  others_mix : (names : List Text) → Mix w mine (largest_agent rows) (dominant_of (held_in names) total) (weight_in names) (w * length names)
  unfolding rows_word.standing_of
  others_mix [] = mix_none w mine (largest_agent rows) (dominant_of (held_in []) total) 0 (w * 0) (none_held total)
  others_mix (name ∷ names) =
      let f : Fraction = share_at rows (child parent name) in
      let rest : Fraction = dominant_of (held_in names) total in
      let sum : AtMostSum (dominant_of (held_in (name ∷ names)) total) f rest =
      dominant_sum (held_in (name ∷ names)) (held_by rows (child parent name)) (held_in names)
      (λ label. sum_by-cons (λ n. held_by rows (child parent n) label) name names) total in
      let weights : weight_at rows (child parent name) + weight_in names ≡ weight_in (name ∷ names) =
      sym (sum_by-cons (λ n. weight_at rows (child parent n)) name names) in
      let agents : w + w * length names ≡ w * length (name ∷ names) = omega arith in
      subst (λ (p : ℕ × ℕ). Mix w mine (largest_agent rows) (dominant_of (held_in (name ∷ names)) total) p.0 p.1) (λ i. (weights i, agents i))
      (mix_sum w mine (largest_agent rows) (dominant_of (held_in (name ∷ names)) total) f rest (weight_at rows (child parent name)) w (weight_in names)
      (w * length names) (greatest_above (held_by rows (child parent name)) total) (greatest_above (held_in names) total) sum
      (child_mix name) (others_mix names))

pub sharing_incentive : SharingIncentive
unfolding rows_word.standing_of
sharing_incentive rows parent one others consistent apart takes all =
    let g : Fraction = share_at rows (child parent one) in
    let most : Fraction = largest_agent rows in
    let k : ℕ = weight_at rows (child parent one) in
    let es : List Entry = cluster_total rows.agents in
    let held : Text → ℕ = held_by rows (child parent one) in
    let rest : Text → ℕ = λ label. sum_by (λ name. held_by rows (child parent name) label) others in
    let weights : ℕ = sum_by (λ name. weight_at rows (child parent name)) others in
    let both : Text → ℕ = λ label. held label + rest label in
    let itself : Mix k g most g k 0 = omega arith in
    let sum = mix_sum k g most (dominant_of both es) g (dominant_of rest es) k 0 weights (k * length others)
    (greatest_above held es) (greatest_above rest es) (dominant_sum both held rest (λ label. refl) es) itself
    (others_mix rows parent one consistent apart takes others) in
    let agents : 0 + k * length others ≡ k * length others = omega arith in
    mix_less k g most (share_at rows parent) (dominant_of both es) (k + weights) (k * length others) (greatest_above both es)
    (dominant_grows (held_by rows parent) both all es)
    (subst (λ (n : ℕ). Mix k g most (dominant_of both es) (k + weights) n) agents sum)
