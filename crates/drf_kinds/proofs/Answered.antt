-- What a walk through two sets side by side says about the sets.
use Rattle.std.proofs.Common.{◌≡◌, ◌↔◌, Bool, true, false, not, ◌&&◌, Some, None, IsSome, IsTrue, cond, refl, sym, ap, ◌∙◌, subst}
use Rattle.std.specs.Bool.{OnTrue, OnFalse, beq}
use Rattle.std.specs.declared.cmp.Ordering.{Ordering}
use Rattle.std.specs.Cmp.{IsTotalOrder}
use Rattle.std.specs.FinSet as set
use Rattle.std.proofs.lemmas.Bool.{true≢false, both_ways}
use Rattle.drf_amount.specs.Algebra.{Covers, IsRest}
use Rattle.drf_kinds.specs.Sets.{IsSetOf, are_disjoint, set_join, is_met, is_kept}
use Rattle.drf_kinds.specs.SetLaws.{out_of_both, disjoint_from, join_of, is_rest_difference, subset_of_rest, covers_subset}

met_inside : (x y : Bool) → (x && beq y true) ≡ (x && y)
met_inside true true = refl
met_inside true false = refl
met_inside false y = refl

-- a member of one set that is not in another
met_outside : (x y : Bool) → (x && beq y false) ≡ true → (x ≡ true) × (y ≡ false)
met_outside true true e = absurd (true≢false (sym e))
met_outside true false e = (refl, refl)
met_outside false y e = absurd (true≢false (sym e))

unmet_outside : (x y : Bool) → (x && beq y false) ≡ false → x ≡ true → y ≡ true
unmet_outside true true e f = refl
unmet_outside true false e f = absurd (true≢false e)
unmet_outside false y e f = absurd (true≢false (sym f))

module _ {K : Type 0} {R : K → K → Ordering} (o : IsTotalOrder R) (same : set.IsAntisymmetric R) (P : K → Type 0) where
  IsSome-join : (s t : set.FinSet R) → IsSome (set_join s t) ↔ (are_disjoint s t ≡ true)
  IsSome-join s t =
      elim (are_disjoint s t) as (λ d. IsSome (cond d (Some (set.union s t)) None) ↔ (d ≡ true)) [
        | true ↦ (λ _. refl, λ _. refl)
        | false ↦ (λ e. e, λ e. e)
      ]

  in_both : (in_s in_t : K → Bool) (s t : set.FinSet R) → ((k : K) → set.contains s k ≡ in_s k) → ((k : K) → set.contains t k ≡ in_t k) → (k : K) → (set.contains s k && set.contains t k) ≡ is_met true (in_s k) (in_t k)
  in_both in_s in_t s t s_is t_is k = rw (s_is k, t_is k) (sym (met_inside (in_s k) (in_t k)))

  -- whether two sets are disjoint
  pub disjoint_answer : (in_s in_t : K → Bool) (s t : set.FinSet R) (met : Bool) → ((k : K) → set.contains s k ≡ in_s k) → ((k : K) → set.contains t k ≡ in_t k) →
      OnTrue met ((k : K) × IsTrue (is_met true (in_s k) (in_t k))) → OnFalse met ((k : K) → is_met true (in_s k) (in_t k) ≡ false) → IsTrue (not met) ↔ IsSome (set_join s t)
  disjoint_answer in_s in_t s t true s_is t_is found none = (
    λ e. absurd (true≢false (sym e)),
    λ some.
        absurd (both_ways _ (sym (in_both in_s in_t s t s_is t_is found.0) ∙ out_of_both o same s t ((IsSome-join s t).0 some) found.0) found.1),
  )
  disjoint_answer in_s in_t s t false s_is t_is found none =
      (λ e. (IsSome-join s t).1 (disjoint_from o same s t (λ k. in_both in_s in_t s t s_is t_is k ∙ none k)), λ _. refl)

  -- whether a set covers another
  pub covers_answer : (in_part in_whole : K → Bool) (part whole : set.FinSet R) (met : Bool) → ((k : K) → set.contains part k ≡ in_part k) → ((k : K) → set.contains whole k ≡ in_whole k) → IsSetOf P whole →
      OnTrue met ((k : K) × IsTrue (is_met false (in_part k) (in_whole k))) → OnFalse met ((k : K) → is_met false (in_part k) (in_whole k) ≡ false) → IsTrue (not met) ↔ Covers (IsSetOf P) set_join whole part
  covers_answer in_part in_whole part whole true part_is whole_is given found none = (
    λ e. absurd (true≢false (sym e)),
    λ covers.
        let outside = met_outside (in_part found.0) (in_whole found.0) found.1 in
        absurd
        (both_ways _ (whole_is found.0 ∙ outside.1) (set.is_subset-contains o part whole (subset_of_rest o same P whole part covers) found.0 (part_is found.0 ∙ outside.0))),
  )
  covers_answer in_part in_whole part whole false part_is whole_is given found none = (
    λ _.
        covers_subset o same P whole part given
        (set.contains-is_subset o part whole (λ k is. whole_is k ∙ unmet_outside (in_part k) (in_whole k) (none k) (sym (part_is k) ∙ is))),
    λ _. refl,
  )

  -- the set of the members of either set is the union
  pub united_answer : (s t found : set.FinSet R) → ((k : K) → set.contains found k ≡ is_kept true (set.contains s k) (set.contains t k)) → found ≡ set.union s t
  united_answer s t found each = set.same_set o same _ _ (λ k. each k ∙ sym (set.contains-union o s t k))

  -- the set of the members that are only in the left set is the difference
  pub difference_answer : (s t found : set.FinSet R) → ((k : K) → set.contains found k ≡ is_kept false (set.contains s k) (set.contains t k)) → found ≡ set.difference s t
  difference_answer s t found each = set.same_set o same _ _ (λ k. each k ∙ sym (set.contains-difference o s t k))

  -- the union of disjoint sets is their join
  pub joined_answer : (s t found : set.FinSet R) → IsSome (set_join s t) → found ≡ set.union s t → set_join s t ≡ Some found
  joined_answer s t found some is = join_of o same s t ((IsSome-join s t).0 some) ∙ ap Some (sym is)

  -- the difference of a set and a part of it is the rest
  pub rest_answer : (whole part found : set.FinSet R) → IsSetOf P whole → Covers (IsSetOf P) set_join whole part → found ≡ set.difference whole part → IsRest (IsSetOf P) set_join whole part found
  rest_answer whole part found given covers is =
      subst (IsRest (IsSetOf P) set_join whole part) (sym is) (is_rest_difference o same P whole part given (subset_of_rest o same P whole part covers))

  -- the members that are kept of two sets
  pub kept_answer : (kept : Bool → Bool → Bool) (in_s in_t in_found : K → Bool) (s t found : set.FinSet R) → ((k : K) → set.contains s k ≡ in_s k) → ((k : K) → set.contains t k ≡ in_t k) → ((k : K) → set.contains found k ≡ in_found k) →
      ((k : K) → in_found k ≡ kept (in_s k) (in_t k)) → (k : K) → set.contains found k ≡ kept (set.contains s k) (set.contains t k)
  kept_answer kept in_s in_t in_found s t found s_is t_is found_is each k = found_is k ∙ each k ∙ rw (s_is k, t_is k)
