-- Finite sets satisfy what a type of amounts must satisfy.
use Rattle.std.proofs.Common.{◌≡◌, ◌↔◌, ℕ, suc, zero, ◌+◌, ◌-◌, inl, inr, Bool, true, false, not, cond, ◌&&◌, ◌||◌, List, [], ◌∷◌, Some, None, IsSome, IfSome, eqb, refl, sym, ap, ◌∙◌, subst, arith}
use Rattle.std.specs.Prelude.{option_and_then}
use Rattle.std.specs.declared.cmp.Ordering.{Ordering}
use Rattle.std.specs.Cmp.{IsTotalOrder, tied_itself, Equal-is, both_ways}
use Rattle.std.specs.List.{list_any}
use Rattle.std.specs.Ordering.{eq_by_cmp, is_eq}
use Rattle.std.specs.FinSet as set
use Rattle.std.proofs.Math.Bool.{and_comm, or_comm, or_assoc, or-false, and-true, and-false, or-true}
use Rattle.std.proofs.lemmas.Bool.{true≢false, eqb-true, eqb-false, eq-eqb, and_parts, and_from, or_cases}
use Rattle.drf_amount.specs.Algebra.{AlgebraLaws, Covers, IsRest, IsRefusal}
use Rattle.drf_amount.specs.declared.algebra.AlgebraFault.TheVariants.{Overlap}
use Rattle.drf_kinds.specs.Sets.{IsSetOf, are_disjoint, set_join, set_refusal}

not_first : (x y : Bool) → (x && y) ≡ false → y ≡ true → x ≡ false
not_first true y e f = sym f ∙ e
not_first false y e f = refl

still_out : (x y z : Bool) → (x && y) ≡ false → (x && (z && y)) ≡ false
still_out true y true e = e
still_out true y false e = refl
still_out false y z e = refl

one_more_of : (tie x y : Bool) → (tie ≡ true → y ≡ true) → (x || y) ≡ (tie || (x || (not tie && y)))
one_more_of true x y f = ap (λ b. x || b) (f refl) ∙ or-true x
one_more_of false x y f = refl

-- if (x or y) and z is false, so are (x and z) and (y and z)
and_or : (x y z : Bool) → ((x || y) && z) ≡ false → ((x && z) ≡ false) × ((y && z) ≡ false)
and_or true y true e = absurd (true≢false e)
and_or true true false e = (refl, refl)
and_or true false false e = (refl, refl)
and_or false true z e = (refl, e)
and_or false false z e = (refl, refl)

and_or_from : (x y z : Bool) → (x && z) ≡ false → (y && z) ≡ false → ((x || y) && z) ≡ false
and_or_from true y z e f = e
and_or_from false y z e f = f

same_rest : (x y z : Bool) → (x && y) ≡ false → (x && z) ≡ false → (x || y) ≡ (x || z) → y ≡ z
same_rest true true z e f g = absurd (true≢false e)
same_rest true false true e f g = absurd (true≢false f)
same_rest true false false e f g = refl
same_rest false y z e f g = g

apart : (x y : Bool) → ((x && not y) && y) ≡ false
apart true true = refl
apart true false = refl
apart false y = refl

put_back : (x y : Bool) → (y ≡ true → x ≡ true) → ((x && not y) || y) ≡ x
put_back true true f = refl
put_back true false f = refl
put_back false true f = sym (f refl)
put_back false false f = refl

module _ {K : Type 0} {R : K → K → Ordering} (o : IsTotalOrder R) (same : set.IsAntisymmetric R) where
  abbrev has : set.FinSet R → K → Bool
  has a k = set.contains a k

  pub same_set : (a b : set.FinSet R) → ((k : K) → has a k ≡ has b k) → a ≡ b
  same_set a b each = set.same_set o same a b each

  -- disjoint sets have no member in common
  pub out_of_both : (a b : set.FinSet R) → are_disjoint a b ≡ true → (k : K) → (has a k && has b k) ≡ false
  out_of_both a b disjoint k =
      sym (set.contains-intersection o a b k)
      ∙ ap (λ s. set.contains s k) (set.empty_of_len (set.intersection a b) (eqb-true _ _ disjoint))
      ∙ set.contains-empty R k

  pub disjoint_from : (a b : set.FinSet R) → ((k : K) → (has a k && has b k) ≡ false) → are_disjoint a b ≡ true
  disjoint_from a b out =
      let none : set.intersection a b ≡ set.empty = same_set _ _ (λ k. set.contains-intersection o a b k ∙ out k ∙ sym (set.contains-empty R k)) in
      eq-eqb _ _ (ap set.len none ∙ set.len-empty R)

  intersection-comm : (a b : set.FinSet R) → set.intersection a b ≡ set.intersection b a
  intersection-comm a b = same_set _ _ (λ k. set.contains-intersection o a b k ∙ and_comm (has a k) (has b k) ∙ sym (set.contains-intersection o b a k))

  union-comm : (a b : set.FinSet R) → set.union a b ≡ set.union b a
  union-comm a b = same_set _ _ (λ k. set.contains-union o a b k ∙ or_comm (has a k) (has b k) ∙ sym (set.contains-union o b a k))

  union-assoc : (a b c : set.FinSet R) → set.union (set.union a b) c ≡ set.union a (set.union b c)
  union-assoc a b c = same_set _ _ (λ k.
      set.contains-union o (set.union a b) c k ∙ ap (λ x. x || has c k) (set.contains-union o a b k) ∙ or_assoc (has a k) (has b k) (has c k)
      ∙ sym (set.contains-union o a (set.union b c) k ∙ ap (λ x. has a k || x) (set.contains-union o b c k)))

  union-empty : (a : set.FinSet R) → set.union a set.empty ≡ a
  union-empty a = same_set _ _ (λ k. set.contains-union o a set.empty k ∙ ap (λ x. has a k || x) (set.contains-empty R k) ∙ or-false (has a k))

  are_disjoint-comm : (a b : set.FinSet R) → are_disjoint a b ≡ are_disjoint b a
  are_disjoint-comm a b = ap (λ s. eqb (set.len s) 0) (intersection-comm a b)

  union_parts : (a b c : set.FinSet R) → are_disjoint (set.union a b) c ≡ true → (k : K) → ((has a k && has c k) ≡ false) × ((has b k && has c k) ≡ false)
  union_parts a b c disjoint k =
      and_or (has a k) (has b k) (has c k) (ap (λ x. x && has c k) (sym (set.contains-union o a b k)) ∙ out_of_both (set.union a b) c disjoint k)

  union_joined : (a b c : set.FinSet R) → (are_disjoint a c ≡ true) × (are_disjoint b c ≡ true) → are_disjoint (set.union a b) c ≡ true
  union_joined a b c each =
      disjoint_from (set.union a b) c
      (λ k. ap (λ x. x && has c k) (set.contains-union o a b k) ∙ and_or_from (has a k) (has b k) (has c k) (out_of_both a c each.0 k) (out_of_both b c each.1 k))

  are_disjoint-union : (a b c : set.FinSet R) → are_disjoint (set.union a b) c ≡ (are_disjoint a c && are_disjoint b c)
  are_disjoint-union a b c =
      both_ways _ (are_disjoint a c && are_disjoint b c)
      (λ disjoint. and_from (are_disjoint a c) (are_disjoint b c) (disjoint_from a c (λ k. (union_parts a b c disjoint k).0)) (disjoint_from b c (λ k. (union_parts a b c disjoint k).1)))
      (λ both. union_joined a b c (and_parts (are_disjoint a c) (are_disjoint b c) both))

  -- what follows if there is a join
  pub join_some : (a b c : set.FinSet R) → set_join a b ≡ Some c → (are_disjoint a b ≡ true) × (set.union a b ≡ c)
  join_some a b c joined =
      elim (are_disjoint a b) as (λ d. cond d (Some (set.union a b)) None ≡ Some c → (d ≡ true) × (set.union a b ≡ c)) [
        | true ↦ λ e. (refl, cc)
        | false ↦ λ e. absurd (cc)
      ] joined

  pub join_of : (a b : set.FinSet R) → are_disjoint a b ≡ true → set_join a b ≡ Some (set.union a b)
  join_of a b disjoint = rw disjoint

  commutative : (a b : set.FinSet R) → set_join a b ≡ set_join b a
  commutative a b = rw (are_disjoint-comm a b, union-comm a b)

  two_joins : (a b c : set.FinSet R) (ab bc ac : Bool) → are_disjoint a b ≡ ab → are_disjoint b c ≡ bc → are_disjoint a c ≡ ac →
      option_and_then (λ x. set_join x c) (cond ab (Some (set.union a b)) None) ≡ option_and_then (set_join a) (cond bc (Some (set.union b c)) None)
  two_joins a b c true true ac ab_is bc_is ac_is =
      let left : are_disjoint (set.union a b) c ≡ ac = are_disjoint-union a b c ∙ rw (ac_is, bc_is) (and-true ac) in
      let right : are_disjoint a (set.union b c) ≡ ac = are_disjoint-comm a (set.union b c) ∙ are_disjoint-union b c a ∙ rw (are_disjoint-comm b a, are_disjoint-comm c a, ac_is, ab_is) in
      rw (left, right, union-assoc a b c)
  two_joins a b c true false ac ab_is bc_is ac_is =
      let left : are_disjoint (set.union a b) c ≡ false = are_disjoint-union a b c ∙ rw (ac_is, bc_is) (and-false ac) in
      rw left
  two_joins a b c false true ac ab_is bc_is ac_is =
      let right : are_disjoint a (set.union b c) ≡ false = are_disjoint-comm a (set.union b c) ∙ are_disjoint-union b c a ∙ rw (are_disjoint-comm b a, are_disjoint-comm c a, ac_is, ab_is) in
      rw right
  two_joins a b c false false ac ab_is bc_is ac_is = refl

  associative : (a b c : set.FinSet R) → option_and_then (λ ab. set_join ab c) (set_join a b) ≡ option_and_then (set_join a) (set_join b c)
  associative a b c = two_joins a b c _ _ _ refl refl refl

  cancellative : (a b c whole : set.FinSet R) → set_join a b ≡ Some whole → set_join a c ≡ Some whole → b ≡ c
  cancellative a b c whole first second =
      let with_b = join_some a b whole first in
      let with_c = join_some a c whole second in
      same_set b c
      (λ k. same_rest (has a k) (has b k) (has c k) (out_of_both a b with_b.0 k) (out_of_both a c with_c.0 k)
      (sym (set.contains-union o a b k) ∙ ap (λ s. has s k) (with_b.1 ∙ sym with_c.1) ∙ set.contains-union o a c k))

  neutral : (a : set.FinSet R) → set_join a set.empty ≡ Some a
  neutral a =
      join_of a set.empty (disjoint_from a set.empty (λ k. ap (λ x. has a k && x) (set.contains-empty R k) ∙ and-false (has a k)))
      ∙ ap Some (union-empty a)

  itself : (k : K) → eq_by_cmp R k k ≡ true
  itself k = ap is_eq (tied_itself o k)

  -- a set that is not empty has a member
  pub some_member : (a : set.FinSet R) (n : ℕ) → set.len a ≡ suc n → (k : K) × (has a k ≡ true)
  some_member a n more = pick (set.items a) refl where
    pick : (ks : List K) → set.items a ≡ ks → (k : K) × (has a k ≡ true)
    pick [] none = absurd (omega (arith, ap set.len (same_set a set.empty (λ k. set.contains-items a k ∙ ap (list_any (eq_by_cmp R k)) none ∙ sym (set.contains-empty R k))) ∙ set.len-empty R, more))
    pick (k ∷ ks) is = (k, set.contains-items a k ∙ ap (list_any (eq_by_cmp R k)) is ∙ ap (λ x. x || list_any (eq_by_cmp R k) ks) (itself k))

  -- the union, one member added later
  one_more : (a b : set.FinSet R) (k : K) → has b k ≡ true → set.union a b ≡ set.insert (set.union a (set.remove b k)) k
  one_more a b k is = same_set _ _ (λ q.
      set.contains-union o a b q
      ∙ one_more_of (eq_by_cmp R q k) (has a q) (has b q) (λ tie. ap (has b) (same q k ((Equal-is (R q k)).0 tie)) ∙ is)
      ∙ sym (set.contains-insert o (set.union a (set.remove b k)) k q
      ∙ ap (λ x. eq_by_cmp R q k || x) (set.contains-union o a (set.remove b k) q ∙ ap (λ x. has a q || x) (set.contains-remove o b k q))))

  without : (a b : set.FinSet R) (k q : K) → (has a q && has b q) ≡ false → (has a q && has (set.remove b k) q) ≡ false
  without a b k q out = ap (λ x. has a q && x) (set.contains-remove o b k q) ∙ still_out (has a q) (has b q) (not (eq_by_cmp R q k)) out

  len-union-from : (n : ℕ) (a b : set.FinSet R) → set.len b ≡ n → ((k : K) → (has a k && has b k) ≡ false) → set.len (set.union a b) ≡ set.len a + set.len b
  len-union-from zero a b none out =
      let empty : b ≡ set.empty = set.empty_of_len b none in
      ap (λ s. set.len (set.union a s)) empty ∙ ap set.len (union-empty a) ∙ omega (arith, none)
  len-union-from (suc n) a b more out =
      let member = some_member b n more in
      let k = member.0 in
      let fewer : set.len (set.remove b k) ≡ n = set.len-remove o b k ∙ ap (λ x. cond x (set.len b - 1) (set.len b)) member.1 ∙ omega (arith, more) in
      let rest = len-union-from n a (set.remove b k) fewer (λ q. without a b k q (out q)) in
      let new : has (set.union a (set.remove b k)) k ≡ false =
      set.contains-union o a (set.remove b k) k ∙ ap (λ x. has a k || x) (set.contains-remove o b k k ∙ ap (λ x. not x && has b k) (itself k))
      ∙ or-false (has a k) ∙ not_first (has a k) (has b k) (out k) member.1 in
      ap set.len (one_more a b k member.1)
      ∙ set.len-insert o (set.union a (set.remove b k)) k
      ∙ ap (λ x. cond x (set.len (set.union a (set.remove b k))) (set.len (set.union a (set.remove b k)) + 1)) new
      ∙ omega (arith, rest, fewer, more)

  -- the union of disjoint sets has as many members as both together
  pub len-union : (a b : set.FinSet R) → are_disjoint a b ≡ true → set.len (set.union a b) ≡ set.len a + set.len b
  len-union a b disjoint = len-union-from (set.len b) a b refl (out_of_both a b disjoint)

  refused : (a b : set.FinSet R) → (set_join a b ≡ None) ↔ IsSome (set_refusal a b)
  refused a b =
      elim (are_disjoint a b) as (λ d. (cond d (Some (set.union a b)) None ≡ None) ↔ IsSome (cond d None (Some Overlap))) [
        | true ↦ (λ e. absurd (cc), λ e. absurd (cc))
        | false ↦ (λ _. refl, λ _. refl)
      ]

  refusals : (a b : set.FinSet R) → IfSome (set_refusal a b) IsRefusal
  refusals a b = elim (are_disjoint a b) as (λ d. IfSome (cond d None (Some Overlap)) IsRefusal) [ true ↦ tt | false ↦ tt ]

  module _ (P : K → Type 0) where
    empty_given : IsSetOf P (set.empty {R = R})
    empty_given = record { each = λ k is. absurd (true≢false (sym is ∙ set.contains-empty R k)) }

    pub union_given : (a b : set.FinSet R) → IsSetOf P a → IsSetOf P b → IsSetOf P (set.union a b)
    union_given a b a_given b_given = record {
      each = λ k is. elim (or_cases (has a k) (has b k) (sym (set.contains-union o a b k) ∙ is)) [ inl in_a ↦ a_given.each k in_a | inr in_b ↦ b_given.each k in_b ];
    }

    pub set_laws : AlgebraLaws (IsSetOf {R = R} P) set.empty set_join set_refusal set.len
    set_laws = record {
      empty_given = empty_given;
      join_given = λ a b c a_given b_given joined. subst (IsSetOf P) (join_some a b c joined).1 (union_given a b a_given b_given);
      commutative = λ a b _ _. commutative a b;
      associative = λ a b c _ _ _. associative a b c;
      cancellative = λ a b c whole _ _ _ first second. cancellative a b c whole first second;
      neutral = λ a _. neutral a;
      amount_adds = λ a b c _ _ joined. let is = join_some a b c joined in ap set.len (sym is.1) ∙ len-union a b is.0;
      amount_zero = λ a _. (set.empty_of_len a, λ empty. ap set.len empty ∙ set.len-empty R);
      refused = λ a b _ _. refused a b;
      refusals = λ a b _ _. refusals a b;
    }

    -- the difference is the rest of a subset
    pub is_rest_difference : (whole part : set.FinSet R) → IsSetOf P whole → set.is_subset part whole ≡ true → IsRest (IsSetOf P) set_join whole part (set.difference whole part)
    is_rest_difference whole part given within = record {
      given = record { each = λ k is. given.each k (and_parts (has whole k) (not (has part k)) (sym (set.contains-difference o whole part k) ∙ is)).0 };
      joined =
          join_of (set.difference whole part) part
          (disjoint_from _ _ (λ k. ap (λ x. x && has part k) (set.contains-difference o whole part k) ∙ apart (has whole k) (has part k)))
          ∙ ap Some (same_set _ whole (λ k.
          set.contains-union o (set.difference whole part) part k
          ∙ ap (λ x. x || has part k) (set.contains-difference o whole part k)
          ∙ put_back (has whole k) (has part k) (set.is_subset-contains o part whole within k)));
    }

    -- only a subset has a rest
    pub subset_of_rest : (whole part : set.FinSet R) → Covers (IsSetOf P) set_join whole part → set.is_subset part whole ≡ true
    subset_of_rest whole part covers =
        let is = join_some covers.rest part whole covers.is_rest.joined in
        set.contains-is_subset o part whole (λ k in_part.
        ap (λ s. has s k) (sym is.1) ∙ set.contains-union o covers.rest part k ∙ ap (λ x. has covers.rest k || x) in_part ∙ or-true (has covers.rest k))

    pub covers_subset : (whole part : set.FinSet R) → IsSetOf P whole → set.is_subset part whole ≡ true → Covers (IsSetOf P) set_join whole part
    covers_subset whole part given within = record { rest = set.difference whole part; is_rest = is_rest_difference whole part given within }

  -- sets that are not disjoint share a member
  pub shared_member : (a b : set.FinSet R) → are_disjoint a b ≡ false → (k : K) × (has a k ≡ true) × (has b k ≡ true)
  shared_member a b meet =
      let some = some_member (set.intersection a b) (set.len (set.intersection a b) - 1) (omega (arith, eqb-false _ _ meet)) in
      let both = and_parts (has a some.0) (has b some.0) (sym (set.contains-intersection o a b some.0) ∙ some.1) in
      (some.0, both.0, both.1)

  pub difference_given : (P : K → Type 0) (a b : set.FinSet R) → IsSetOf P a → IsSetOf P (set.difference a b)
  difference_given P a b given = record { each = λ k is. given.each k (and_parts (has a k) (not (has b k)) (sym (set.contains-difference o a b k) ∙ is)).0 }
