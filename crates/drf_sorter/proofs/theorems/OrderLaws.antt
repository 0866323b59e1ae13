-- Theorems about the order in which clients are served.
use Rattle.std.proofs.Common.{◌≡◌, ◌≢◌, ℕ, ◌*◌, ◌<◌, ◌≤◌, Bool, true, false, not, ◌&&◌, ◌||◌, cond, List, [], ◌∷◌, ◌++◌, nat_lt, refl, sym, ap, subst, ◌∙◌, inl, inr, arith}
use Rattle.std.specs.declared.cmp.Ordering.{Ordering}
use Rattle.std.specs.declared.cmp.Ordering.TheVariants.{Less, Equal, Greater}
use Rattle.std.specs.Ordering.{nat_cmp, is_lt, is_eq, ordering_then, ordering_reverse}
use Rattle.std.specs.Cmp.{IsTotalOrder, nat_cmp_total, then_flip, unsigned_tied}
use Rattle.std.specs.Cmp.Lexicographic.{slice_cmp, nat_list_cmp_total, nat_list_eq_equiv}
use Rattle.std.proofs.lemmas.Bool.{false≢true, cases_Bool, ltb-true}
use Rattle.std.proofs.lemmas.Cmp.{then_total, on_total, tied_itself}
use Rattle.drf_role.specs.Text.{Text, same_text}
use Rattle.drf_role.specs.TextLaws.{less_from_test, same_from_cmp, same_itself}
use Rattle.drf_role.proofs.TextLaws.{cases_same}
use Rattle.drf_bundle.specs.declared.quantities.Entry.{Entry}
use Rattle.drf_role.specs.Path.{Path, begins_with}
use Rattle.drf_rows.specs.Share.{Fraction, is_less, greatest, Standing, share_of, weighted_share_of, is_ahead, stands_before_below, stands_before}
use Rattle.drf_row_laws.proofs.ServingOrder.{is_ahead-back}
use Rattle.drf_sorter.specs.Fractions.{fraction_cmp, held_fractions}
use Rattle.drf_sorter.specs.laws.FractionLaws.{fraction_cmp-antisymm, fraction_cmp-trans, fraction_cmp-congr, product_above, is_eq-fraction_cmp}
use Rattle.drf_sorter.proofs.theorems.FractionLaws.{is_lt-fraction_cmp, is_lt-nat_cmp}
use Rattle.drf_sorter.specs.Keys.{Key, key_cmp, key_of, keys_of}

-- ---- siblings

-- the comparison of two children of a node
abbrev pub sibling_cmp : Standing → Path → Text → Text → Ordering
sibling_cmp s parent a b = key_cmp (key_of s parent a) (key_of s parent b)

is_lt-then : (o p : Ordering) → is_lt (ordering_then o p) ≡ (is_lt o || (is_eq o && is_lt p))
is_lt-then Less p = refl
is_lt-then Equal p = refl
is_lt-then Greater p = refl

is_lt-twice : (o p q : Ordering) (a b c d : Bool) → is_lt o ≡ a → is_eq o ≡ b → is_lt p ≡ c → is_eq p ≡ d
    → is_lt (ordering_then o (ordering_then p q)) ≡ (a || (b && (c || (d && is_lt q))))
is_lt-twice o p q a b c d e f g h =
    is_lt-then o (ordering_then p q) ∙ (λ i. e i || (f i && (is_lt-then p q ∙ (λ j. g j || (h j && is_lt q))) i))

pub is_ahead-is : (s : Standing) (parent : Path) (a b : Text)
    → is_ahead s parent a b ≡ is_lt (sibling_cmp s parent a b)
unfolding is_ahead
is_ahead-is s parent a b =
    let x = key_of s parent a in
    let y = key_of s parent b in
    sym (is_lt-twice (fraction_cmp x.share y.share) (nat_cmp x.count y.count) (slice_cmp nat_cmp a b) _ _ _ _
    (is_lt-fraction_cmp x.share y.share) (is_eq-fraction_cmp x.share y.share) (is_lt-nat_cmp x.count y.count)
    (unsigned_tied x.count y.count))

pub key_cmp-antisymm : (x y : Key) → key_cmp x y ≡ ordering_reverse (key_cmp y x)
key_cmp-antisymm x y =
    let low =
    (λ i. ordering_then (nat_cmp_total.antisymm x.count y.count i) (nat_list_cmp_total.antisymm x.name y.name i))
    ∙ then_flip (nat_cmp y.count x.count) (slice_cmp nat_cmp y.name x.name) in
    (λ i. ordering_then (fraction_cmp-antisymm x.share y.share i) (low i))
    ∙ then_flip (fraction_cmp y.share x.share)
    (ordering_then (nat_cmp y.count x.count) (slice_cmp nat_cmp y.name x.name))

one_of_both : (o : Ordering) → o ≢ Equal → is_lt (ordering_reverse o) ≡ not (is_lt o)
one_of_both Less h = refl
one_of_both Equal h = absurd (h refl)
one_of_both Greater h = refl

both_tied : (o p : Ordering) → ordering_then o p ≡ Equal → (o ≡ Equal) × (p ≡ Equal)
both_tied Less p h = absurd (false≢true (ap is_eq h))
both_tied Equal p h = (refl, h)
both_tied Greater p h = absurd (false≢true (ap is_eq h))

-- siblings with different names are never tied
pub sibling_cmp-apart : (s : Standing) (parent : Path) (a b : Text) → a ≢ b
    → sibling_cmp s parent a b ≢ Equal
sibling_cmp-apart s parent a b other tied =
    let x = key_of s parent a in
    let y = key_of s parent b in
    let low = (both_tied (fraction_cmp x.share y.share) _ tied).1 in
    other (same_from_cmp a b (both_tied (nat_cmp x.count y.count) _ low).1)

pub is_ahead-total : (s : Standing) (parent : Path) (a b : Text) → a ≢ b
    → is_ahead s parent b a ≡ not (is_ahead s parent a b)
is_ahead-total s parent a b other =
    is_ahead-is s parent b a
    ∙ ap is_lt (key_cmp-antisymm (key_of s parent b) (key_of s parent a))
    ∙ one_of_both (sibling_cmp s parent a b) (sibling_cmp-apart s parent a b other)
    ∙ ap not (sym (is_ahead-is s parent a b))

-- ---- denominators are above 0

greater_above : (b : Bool) (f g : Fraction) → 0 < f.whole → 0 < g.whole → 0 < (cond b g f).whole
greater_above true f g p q = q
greater_above false f g p q = p

pub greatest_above : (held : Text → ℕ) (total : List Entry) → 0 < (greatest (held_fractions held total)).whole
greatest_above held [] = omega arith
greatest_above held (e ∷ es) = elim (cases_Bool (nat_lt 0 e.amount)) [
  | inl some ↦
      rw some
      (greater_above (is_less (record { part = held e.label; whole = e.amount }) (greatest (held_fractions held es)))
      (record { part = held e.label; whole = e.amount }) (greatest (held_fractions held es))
      (ltb-true 0 e.amount some) (greatest_above held es))
  | inr none ↦ rw none (greatest_above held es)
]

pub weighted_share-above : (s : Standing) (node : Path) → 1 ≤ s.weight node
    → 0 < (weighted_share_of s node).whole
weighted_share-above s node weighs =
    product_above (share_of s node).whole (s.weight node) (greatest_above (s.held node) s.total) weighs

-- ---- siblings are in a total order

module _ (s : Standing) (weighs : (node : Path) → 1 ≤ s.weight node) (parent : Path) where
  above : (a : Text) → 0 < (key_of s parent a).share.whole
  above a = weighted_share-above s (parent ++ a ∷ []) (weighs (parent ++ a ∷ []))

  shares_total : IsTotalOrder (λ a b. fraction_cmp (key_of s parent a).share (key_of s parent b).share)
  shares_total = record {
    antisymm = λ a b. fraction_cmp-antisymm (key_of s parent a).share (key_of s parent b).share;
    trans = λ a b c. fraction_cmp-trans (key_of s parent a).share (key_of s parent b).share (key_of s parent c).share
        (above a) (above b) (above c);
    congr = λ a b c. fraction_cmp-congr (key_of s parent a).share (key_of s parent b).share (key_of s parent c).share
        (above a) (above b) (above c);
  }

  pub sibling_cmp-total : IsTotalOrder (sibling_cmp s parent)
  sibling_cmp-total =
      then_total shares_total
      (then_total (on_total (λ a. (key_of s parent a).count) nat_cmp_total) nat_list_cmp_total)

  pub is_ahead-transitive : (a b c : Text) → is_ahead s parent a b ≡ true → is_ahead s parent b c ≡ true
      → is_ahead s parent a c ≡ true
  is_ahead-transitive a b c first second =
      let near = less_from_test (sibling_cmp s parent a b) (sym (is_ahead-is s parent a b) ∙ first) in
      let far = less_from_test (sibling_cmp s parent b c) (sym (is_ahead-is s parent b c) ∙ second) in
      is_ahead-is s parent a c ∙ ap is_lt (sibling_cmp-total.trans a b c near far)

-- ---- clients

-- different names decide
differ : (s : Standing) (parent : Path) (a b : Text) (xs ys : Path) → same_text a b ≡ false
    → stands_before_below s parent (a ∷ xs) (b ∷ ys) ≡ is_ahead s parent a b
differ s parent a b xs ys other = rw other

-- equal names do not decide
agree : (s : Standing) (parent : Path) (a : Text) (xs ys : Path)
    → stands_before_below s parent (a ∷ xs) (a ∷ ys) ≡ stands_before_below s (parent ++ a ∷ []) xs ys
agree s parent a xs ys = rw (same_itself a)

other_way : (a b : Text) → same_text a b ≡ false → same_text b a ≡ false
other_way a b other = nat_list_eq_equiv.symm b a ∙ other

-- if no path begins with the other, the rests after a shared name do not either
below_same : (a : Text) (xs ys : Path) → begins_with (a ∷ xs) (a ∷ ys) ≡ false → begins_with xs ys ≡ false
below_same a xs ys h = rw (same_itself a) at h

below-total : (s : Standing) (parent : Path) (a b : Path) → begins_with a b ≡ false
    → begins_with b a ≡ false → stands_before_below s parent b a ≡ not (stands_before_below s parent a b)
below-total s parent [] b first second = absurd (false≢true (sym second))
below-total s parent (a ∷ xs) [] first second = absurd (false≢true (sym first))
below-total s parent (a ∷ xs) (b ∷ ys) first second = elim (cases_same a b) [
  | inl same ↦
      subst
      (λ (n : Text). begins_with (a ∷ xs) (n ∷ ys) ≡ false → begins_with (n ∷ ys) (a ∷ xs) ≡ false
      → stands_before_below s parent (n ∷ ys) (a ∷ xs) ≡ not (stands_before_below s parent (a ∷ xs) (n ∷ ys)))
      same.1
      (λ f g. agree s parent a ys xs ∙ below-total s (parent ++ a ∷ []) xs ys (below_same a xs ys f)
      (below_same a ys xs g) ∙ ap not (sym (agree s parent a xs ys)))
      first second
  | inr other ↦
      differ s parent b a ys xs (other_way a b other.0) ∙ is_ahead-total s parent a b other.1
      ∙ ap not (sym (differ s parent a b xs ys other.0))
]

-- if neither client's path begins with the other's, exactly one client comes before the other
pub stands_before-total : (s : Standing) (a b : Path) → begins_with a b ≡ false → begins_with b a ≡ false
    → stands_before s b a ≡ not (stands_before s a b)
stands_before-total s a b = below-total s [] a b

module _ (s : Standing) (weighs : (node : Path) → 1 ≤ s.weight node) where
  below-transitive : (parent : Path) (a b c : Path) → stands_before_below s parent a b ≡ true
      → stands_before_below s parent b c ≡ true → stands_before_below s parent a c ≡ true
  below-transitive parent [] b c first second = absurd (false≢true first)
  below-transitive parent (a ∷ xs) [] c first second = absurd (false≢true first)
  below-transitive parent (a ∷ xs) (b ∷ ys) [] first second = absurd (false≢true second)
  below-transitive parent (a ∷ xs) (b ∷ ys) (c ∷ zs) first second = elim (cases_same a b) [
    | inl near ↦
        subst
        (λ (n : Text). stands_before_below s parent (a ∷ xs) (n ∷ ys) ≡ true
        → stands_before_below s parent (n ∷ ys) (c ∷ zs) ≡ true
        → stands_before_below s parent (a ∷ xs) (c ∷ zs) ≡ true)
        near.1
        (λ f g. elim (cases_same a c) [
          | inl far ↦
              subst
              (λ (n : Text). stands_before_below s parent (a ∷ ys) (n ∷ zs) ≡ true
              → stands_before_below s parent (a ∷ xs) (n ∷ zs) ≡ true)
              far.1
              (λ h. agree s parent a xs zs ∙ below-transitive (parent ++ a ∷ []) xs ys zs
              (sym (agree s parent a xs ys) ∙ f) (sym (agree s parent a ys zs) ∙ h))
              g
          | inr far ↦ differ s parent a c xs zs far.0 ∙ sym (differ s parent a c ys zs far.0) ∙ g
        ]) first second
    | inr near ↦
        let ahead = sym (differ s parent a b xs ys near.0) ∙ first in
        elim (cases_same b c) [
          | inl far ↦
              subst (λ (n : Text). stands_before_below s parent (a ∷ xs) (n ∷ zs) ≡ true) far.1
              (differ s parent a b xs zs near.0 ∙ ahead)
          | inr far ↦
              let behind = sym (differ s parent b c ys zs far.0) ∙ second in
              let through = is_ahead-transitive s weighs parent a b c ahead behind in
              elim (cases_same a c) [
                | inl ends ↦
                    absurd
                    (false≢true (sym (is_ahead-back s parent a b ahead)
                    ∙ subst (λ (n : Text). is_ahead s parent b n ≡ true) (sym ends.1) behind))
                | inr ends ↦ differ s parent a c xs zs ends.0 ∙ through
              ]
        ]
  ]

  -- the order is transitive
  pub stands_before-transitive : (a b c : Path) → stands_before s a b ≡ true → stands_before s b c ≡ true
      → stands_before s a c ≡ true
  stands_before-transitive a b c = below-transitive [] a b c

-- ---- the comparison of keys decides

key_cmp-itself : (x : Key) → key_cmp x x ≡ Equal
key_cmp-itself x =
    λ i. ordering_then (tied_itself nat_cmp_total (x.share.part * x.share.whole) i)
    (ordering_then (tied_itself nat_cmp_total x.count i) (tied_itself nat_list_cmp_total x.name i))

first_decides : (o p : Ordering) → o ≢ Equal → is_lt (ordering_then o p) ≡ is_lt o
first_decides Less p other = refl
first_decides Equal p other = absurd (other refl)
first_decides Greater p other = refl

-- for two clients whose paths do not begin with one another
pub is_lt-keys : (s : Standing) (parent : Path) (a b : Path) → begins_with a b ≡ false
    → begins_with b a ≡ false
    → is_lt (slice_cmp key_cmp (keys_of s parent a) (keys_of s parent b)) ≡ stands_before_below s parent a b
is_lt-keys s parent [] b first second = absurd (false≢true (sym second))
is_lt-keys s parent (a ∷ xs) [] first second = absurd (false≢true (sym first))
is_lt-keys s parent (a ∷ xs) (b ∷ ys) first second = elim (cases_same a b) [
  | inl same ↦
      subst
      (λ (n : Text). begins_with (a ∷ xs) (n ∷ ys) ≡ false → begins_with (n ∷ ys) (a ∷ xs) ≡ false
      → is_lt (slice_cmp key_cmp (keys_of s parent (a ∷ xs)) (keys_of s parent (n ∷ ys)))
      ≡ stands_before_below s parent (a ∷ xs) (n ∷ ys))
      same.1
      (λ f g. (λ i. is_lt (ordering_then (key_cmp-itself (key_of s parent a) i)
      (slice_cmp key_cmp (keys_of s (parent ++ a ∷ []) xs) (keys_of s (parent ++ a ∷ []) ys))))
      ∙ is_lt-keys s (parent ++ a ∷ []) xs ys (below_same a xs ys f) (below_same a ys xs g)
      ∙ sym (agree s parent a xs ys)) first second
  | inr other ↦
      first_decides (sibling_cmp s parent a b) _ (sibling_cmp-apart s parent a b other.1)
      ∙ sym (is_ahead-is s parent a b) ∙ sym (differ s parent a b xs ys other.0)
]
