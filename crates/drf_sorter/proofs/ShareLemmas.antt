-- Computing the greatest of some fractions, from the last one to the first.
use Rattle.std.proofs.Common.{◌≡◌, ◌<◌, ◌≤◌, ◌+◌, ◌-◌, ◌*◌, ℕ, zero, suc, Bool, true, false, cond, IsTrue, List, [], ◌∷◌, length, drop, get_or, sym, ap, subst, ◌∙◌, arith}
use Rattle.std.proofs.Math.Nat.{mul-mul-mul_comm}
use Rattle.std.specs.List.{list_all}
use Rattle.std.specs.Ordering.{is_lt, nat_cmp, ord_max}
use Rattle.std.proofs.lemmas.Bool.{and_parts, lt-ltb}
use Rattle.std.proofs.lemmas.List.{drop_more}
use Rattle.std.proofs.lemmas.List.Elements.{All-get_or}
use Rattle.std.proofs.lemmas.List.Sums.{AllPass-from_list_all}
use Rattle.drf_role.specs.Text.{text_below}
use Rattle.drf_role.proofs.TextLaws.{below_other}
use Rattle.drf_bundle.specs.Quantities.{amount_of, is_in_order}
use Rattle.drf_bundle.proofs.theorems.QuantitiesLaws.{amount_head}
use Rattle.drf_bundle.specs.declared.quantities.Entry.{Entry}
use Rattle.drf_rows.specs.Share.{Fraction, IsLowest, is_less, greater, lowest_terms}
use Rattle.drf_row_laws.proofs.LowestLaws.{lowest_terms-is, lowest_terms-same}
use Rattle.drf_sorter.specs.declared.share.Share.{Share}
use Rattle.drf_sorter.specs.Fractions.{fraction_cmp, weigh, weighted, dominant_of}
use Rattle.drf_sorter.specs.laws.FractionLaws.{nat_cmp-scale, product_above}
use Rattle.drf_sorter.proofs.theorems.FractionLaws.{is_lt-fraction_cmp, same_as_weighed}
use Rattle.drf_sorter.specs.laws.ShareLaws.{above_zero, below_128}
use Rattle.drf_sorter.specs.Share.{IsUnweighted, fraction_of, share_cmp}

-- an equal weight on both sides does not matter
fraction_cmp-weigh : (f g : Fraction) (weight : ℕ) → 1 ≤ weight
    → fraction_cmp (weigh f weight) (weigh g weight) ≡ fraction_cmp f g
fraction_cmp-weigh f g weight weighs =
    ap (λ n. nat_cmp n (g.part * 1000 * (f.whole * weight))) (mul-mul-mul_comm f.part 1000 g.whole weight)
    ∙ ap (λ n. nat_cmp (f.part * g.whole * (1000 * weight)) n) (mul-mul-mul_comm g.part 1000 f.whole weight)
    ∙ sym
    (nat_cmp-scale (f.part * g.whole) (g.part * f.whole) (1000 * weight) (product_above 1000 weight (omega arith) weighs))

-- two shares with the same weight compare as with weight 1
pub same_weight : (a b : Share) → a.weight ≡ b.weight
    → share_cmp a b ≡ nat_cmp (a.part * b.whole) (b.part * a.whole)
same_weight a b same =
    let f : Fraction = record { part = a.part; whole = a.whole } in
    let g : Fraction = record { part = b.part; whole = b.whole } in
    ap (λ n. fraction_cmp (fraction_of a) (weigh g n)) (sym same) ∙ fraction_cmp-weigh f g a.weight a.weighs

chosen : (b : Bool) (d e : Share) (f g : Fraction) → IsUnweighted g d → IsUnweighted f e
    → IsUnweighted (cond b g f) (cond b d e)
chosen true d e f g p q = p
chosen false d e f g p q = q

-- the fraction of a share with weight 1
pub fraction-unweighted : (f : Fraction) (share : Share) → IsUnweighted f share → fraction_of share ≡ weigh f 1000
fraction-unweighted f share is = λ i. weighted (is.part i) (is.whole i) (is.weight i)

max-unweighted : (d e : Share) (f g : Fraction) → IsUnweighted g d → IsUnweighted f e
    → IsUnweighted (cond (is_less f g) g f) (ord_max share_cmp d e)
max-unweighted d e f g p q =
    let test : is_lt (share_cmp e d) ≡ is_less f g =
    (λ i. is_lt (fraction_cmp (fraction-unweighted f e q i) (fraction-unweighted g d p i)))
    ∙ ap is_lt (fraction_cmp-weigh f g 1000 (omega arith)) ∙ is_lt-fraction_cmp f g in
    subst (λ (b : Bool). IsUnweighted (cond (is_less f g) g f) (cond b d e)) (sym test) (chosen (is_less f g) d e f g p q)

-- a share with weight 1 has the lowest terms of its part and whole
pub lowest-of_weight_one : (share : Share) → share.weight ≡ 1000
    → lowest_terms (record { part = share.part; whole = share.whole }) ≡ lowest_terms (fraction_of share)
lowest-of_weight_one share one =
    let plain : Fraction = record { part = share.part; whole = share.whole } in
    sym (lowest_terms-same (fraction_of share) plain (above_zero share) (below_128 share) share.some
    (omega (arith, share.fits))
    (same_as_weighed (fraction_of share) plain (λ i. weighted share.part share.whole (one i))))

-- the result of `lowest_terms` is in lowest terms
pub lowest-terms_are : (share : Share) (result : Fraction) → result ≡ lowest_terms (fraction_of share)
    → IsLowest (fraction_of share) result
lowest-terms_are share result is =
    subst (IsLowest (fraction_of share)) (sym is) (lowest_terms-is (fraction_of share) (above_zero share) (below_128 share))

-- one more scalar is considered, from the last one on
module _ (held : List ℕ → ℕ) (total : List Entry) (i : ℕ) (e : Entry) (some : 0 < i) (inside : i - 1 < length total)
    (is : e ≡ get_or total (i - 1) e) where
  ends : drop (i - 1) total ≡ e ∷ drop i total
  ends = drop_more total (i - 1) e inside ∙ (λ j. sym is j ∷ drop (back j) total)
    where
      back : i - 1 + 1 ≡ i
      back = omega arith

  dominant-more : 0 < e.amount
      → dominant_of held (drop (i - 1) total)
      ≡ greater (record { part = held e.label; whole = e.amount }) (dominant_of held (drop i total))
  dominant-more above = rw (ends) (rw (lt-ltb 0 e.amount above))

  pub max-more : (d new : Share) → 0 < e.amount → IsUnweighted (dominant_of held (drop i total)) d
      → IsUnweighted (record { part = held e.label; whole = e.amount }) new
      → IsUnweighted (dominant_of held (drop (i - 1) total)) (ord_max share_cmp d new)
  max-more d new above so_far more =
      let f : Fraction = record { part = held e.label; whole = e.amount } in
      subst (λ (g : Fraction). IsUnweighted g (ord_max share_cmp d new)) (sym (dominant-more above))
      (max-unweighted d new f (dominant_of held (drop i total)) so_far more)

-- the amount of an entry is that of its label
pub amount_at : (total : List Entry) (i : ℕ) (e : Entry) → IsTrue (is_in_order total) → i < length total
    → e ≡ get_or total i e → amount_of total e.label ≡ e.amount
amount_at [] i e ordered inside is = absurd (omega arith)
amount_at (x ∷ xs) zero e ordered inside is =
    subst (λ (y : Entry). amount_of (x ∷ xs) y.label ≡ y.amount) (sym is) (amount_head x xs)
amount_at (x ∷ xs) (suc i) e ordered inside is =
    let parts = and_parts (list_all (λ f. text_below x.label f.label) xs) (is_in_order xs) ordered in
    let within : i < length xs = omega arith in
    let there =
    All-get_or (λ f. text_below x.label f.label ≡ true) xs i e within
    (AllPass-from_list_all (λ f. text_below x.label f.label) xs parts.0) in
    let below : IsTrue (text_below x.label e.label) =
    subst (λ (y : Entry). text_below x.label y.label ≡ true) (sym is) there in
    rw (below_other x.label e.label below) (amount_at xs i e parts.1 within is)
