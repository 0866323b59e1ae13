-- Two bundles have a join exactly if their stocks together fit.
use Rattle.std.specs.Prelude.{◌≡◌, ◌⊎◌, ℕ, ◌+◌, ◌^◌, ◌<◌, ◌≤◌, ◌&&◌, Bool, true, false, not, List, [], ◌∷◌, IsTrue, Option, Some, None, nat_le}
use Rattle.std.specs.List.{list_any}
use Rattle.std.proofs.Common.{refl, sym, ap, ◌∙◌, subst, inl, inr, cond, arith, zero, suc}
use Rattle.std.proofs.lemmas.Bool.{false≢true, true≢false, not-false, and_parts, and_from, cases_Bool, false_from_ne_true, leb-true, or_cases}
use Rattle.std.proofs.lemmas.Bool.Decides.{nat_tests}
use Rattle.drf_role.specs.Text.{Text, same_text}
use Rattle.drf_role.specs.TextLaws.{same_itself, same_from_test, test_from_same}
use Rattle.drf_amount.specs.declared.algebra.AlgebraFault.{AlgebraFault}
use Rattle.drf_amount.specs.declared.algebra.AlgebraFault.TheVariants as fault
use Rattle.drf_bundle.specs.Value.{Point, Thousandths, Number, Member, units_in, most, is_one_kind, is_same_kind, clash_in}
use Rattle.drf_bundle.specs.laws.ValueLaws.{amount-united, given-united, filled_point, kind_at, shared_point, share_at}
use Rattle.drf_bundle.specs.Bundle.{Key, key_of, same_key, units, stock, IsResource, Fits, IsBundle, both_of, merged, have_clash, is_too_large, refusal, join_or, join}
use Rattle.drf_bundle.specs.laws.KeyLaws.{Has, at_each, unit_of, where-cons, unit-here, unit-none}
use Rattle.drf_bundle.specs.laws.JoinLaws.{KeysJoin, where-merged, in_order-merged, each-merged}
use Rattle.drf_bundle.specs.laws.SumLaws.{of_name}
use Rattle.drf_bundle.specs.declared.resource.Resource.{Resource}
use Rattle.drf_bundle.specs.declared.value.Clash.{Clash}
use Rattle.drf_bundle.specs.declared.value.Clash.TheVariants.{Kinds, Members}

pub zero_or_some : (n : ℕ) → (n ≡ 0) ⊎ (0 < n)
zero_or_some zero = inl refl
zero_or_some (suc n) = inr (omega arith)

-- ---- stocks and the resources that they come from

-- if all resources with such units pass a test, some resource does
found_any : (test : Resource → Bool) (name : Text) (p : Point) (rs : List Resource) → 0 < stock rs name p
    → ((r : Resource) → same_text name r.label ≡ true → 0 < units_in r.value p → test r ≡ true) → list_any test rs ≡ true
found_any test name p [] some each = absurd (omega arith)
found_any test name p (r ∷ rs) some each = elim (cases_Bool (test r)) [
  | inl passes ↦ rw passes refl
  | inr fails ↦ rw fails (found_any test name p rs (omega (arith, where-cons (of_name name) p r rs, none fails)) each)
]
  where
    none : test r ≡ false → unit_of (of_name name) p r ≡ 0
    none fails = elim (cases_Bool (of_name name (key_of r))) [
      | inl named ↦ elim (zero_or_some (units_in r.value p)) [
        | inl zero_here ↦ unit-here (of_name name) p r named ∙ zero_here
        | inr some_here ↦ absurd (true≢false (sym (each r named some_here) ∙ fails))
      ]
      | inr other ↦ unit-none (of_name name) p r other
    ]

-- a resource that passes a test
record IsFound (test : Resource → Bool) (rs : List Resource) : Type 0 where
  pub found : Resource
  pub has : Has rs found
  pub passes : test found ≡ true

find : (test : Resource → Bool) (rs : List Resource) → list_any test rs ≡ true → IsFound test rs
find test [] any = absurd (false≢true any)
find test (r ∷ rs) any = elim (or_cases (test r) (list_any test rs) any) [
  | inl here ↦ record { found = r; has = inl refl; passes = here }
  | inr later ↦ let more = find test rs later in record { found = more.found; has = inr more.has; passes = more.passes }
]

any_has : (test : Resource → Bool) (rs : List Resource) (r : Resource) → Has rs r → test r ≡ true
    → list_any test rs ≡ true
any_has test [] r has passes = absurd has
any_has test (s ∷ ss) r (inl is) passes = let here : test s ≡ true = ap test is ∙ passes in rw here refl
any_has test (s ∷ ss) r (inr later) passes = elim (cases_Bool (test s)) [
  | inl here ↦ rw here refl
  | inr other ↦ rw other (any_has test ss r later passes)
]

-- the stock of a name contains the units of each of its resources
pub stock_has : (rs : List Resource) (r : Resource) (p : Point) → Has rs r → units_in r.value p ≤ stock rs r.label p
stock_has [] r p has = absurd has
stock_has (s ∷ ss) r p (inl is) =
    let here : units_in s.value p ≤ stock (s ∷ ss) s.label p = omega (arith, where-cons (λ key. same_text s.label key.0) p s ss, unit-here (λ key. same_text s.label key.0) p s (same_itself s.label)) in
    subst (λ (t : Resource). units_in t.value p ≤ stock (s ∷ ss) t.label p) is here
stock_has (s ∷ ss) r p (inr later) = omega (arith, where-cons (λ key. same_text r.label key.0) p s ss, stock_has ss r p later)

-- ---- clashes

-- if units of one name in both bundles clash, the bundles clash
found_clash : (clash : Clash) (a b : List Resource) (name : Text) (p q : Point) → 0 < stock a name p
    → 0 < stock b name q
    → ((r s : Resource) → 0 < units_in r.value p → 0 < units_in s.value q → clash_in clash r.value s.value ≡ true) → have_clash clash a b ≡ true
found_clash clash a b name p q some other each =
    found_any (λ r. list_any (λ s. same_text r.label s.label && clash_in clash r.value s.value) b) name p a some
    (λ r named here. found_any (λ s. same_text r.label s.label && clash_in clash r.value s.value) name q b other
    (λ s named_too there. and_from _ _ (test_from_same r.label s.label (sym (same_from_test name r.label named) ∙ same_from_test name s.label named_too)) (each r s here there)))

-- two resources of one name that clash
record IsClash (clash : Clash) (a b : List Resource) : Type 0 where
  pub first : Resource
  pub second : Resource
  pub in_first : Has a first
  pub in_second : Has b second
  pub same_name : first.label ≡ second.label
  pub clashes : clash_in clash first.value second.value ≡ true

clash_found : (clash : Clash) (a b : List Resource) → have_clash clash a b ≡ true → IsClash clash a b
clash_found clash a b clashes =
    let r = find (λ r. list_any (λ s. same_text r.label s.label && clash_in clash r.value s.value) b) a clashes in
    let s = find (λ s. same_text r.found.label s.label && clash_in clash r.found.value s.value) b r.passes in
    let both = and_parts (same_text r.found.label s.found.label) (clash_in clash r.found.value s.found.value) s.passes in
    record { first = r.found; second = s.found; in_first = r.has; in_second = s.has; same_name = same_from_test r.found.label s.found.label both.0; clashes = both.1 }

no_clash : (clash : Clash) (a b : List Resource) (r s : Resource) → have_clash clash a b ≡ false → Has a r → Has b s
    → r.label ≡ s.label → clash_in clash r.value s.value ≡ false
no_clash clash a b r s none in_a in_b same =
    false_from_ne_true _ (λ clashes. false≢true (sym none ∙
    any_has (λ r. list_any (λ s. same_text r.label s.label && clash_in clash r.value s.value) b) a r in_a
    (any_has (λ s. same_text r.label s.label && clash_in clash r.value s.value) b s in_b (and_from _ _ (test_from_same r.label s.label same) clashes))))

-- ---- what fits

pub fits_less : (f g : Text → Point → ℕ) → Fits f → ((name : Text) (p : Point) → g name p ≤ f name p) → Fits g
fits_less f g fits below = record {
  one_kind = λ name p q some other. fits.one_kind name p q (omega (arith, some, below name p)) (omega (arith, other, below name q));
  at_most = λ name p. omega (arith, fits.at_most name p, below name p);
}

-- the stock of a name in both bundles together
abbrev pub stock_of_both : List Resource → List Resource → Text → Point → ℕ
stock_of_both a b name p = stock a name p + stock b name p

one_kind_turn : (p q : Point) → is_one_kind p q ≡ is_one_kind q p
one_kind_turn Thousandths Thousandths = refl
one_kind_turn Thousandths (Number n) = refl
one_kind_turn Thousandths (Member m) = refl
one_kind_turn (Number n) Thousandths = refl
one_kind_turn (Number n) (Number m) = refl
one_kind_turn (Number n) (Member m) = refl
one_kind_turn (Member m) Thousandths = refl
one_kind_turn (Member m) (Number n) = refl
one_kind_turn (Member m) (Member n) = refl

-- nothing clashes, and nothing is too large
pub record IsFree (a b : List Resource) : Type 0 where
  pub kinds : have_clash Kinds a b ≡ false
  pub members : have_clash Members a b ≡ false
  pub small : is_too_large a b ≡ false

pub free_from_refusal : (a b : List Resource) → refusal a b ≡ None → IsFree a b
free_from_refusal a b none = of (have_clash Kinds a b) (have_clash Members a b) (is_too_large a b) refl refl refl none
  where
    of : (x y z : Bool) → have_clash Kinds a b ≡ x → have_clash Members a b ≡ y → is_too_large a b ≡ z
        → cond x (Some fault.Kind) (cond y (Some fault.Overlap) (cond z (Some fault.TooLarge) None)) ≡ None → IsFree a b
    of true y z kinds members small none = absurd (cc)
    of false true z kinds members small none = absurd (cc)
    of false false true kinds members small none = absurd (cc)
    of false false false kinds members small none = record { kinds = kinds; members = members; small = small }

refusal_from_free : (a b : List Resource) → IsFree a b → refusal a b ≡ None
refusal_from_free a b free = rw (free.kinds, free.members, free.small) refl

module _ (a b : List Resource) (first : IsBundle a) (second : IsBundle b) where
  sum_small : IsFree a b → (name : Text) → stock a name Thousandths + stock b name Thousandths < 2 ^ 64
  sum_small free name = elim (zero_or_some (stock a name Thousandths)) [
    | inl none ↦ omega (arith, none, second.fits.at_most name Thousandths)
    | inr some ↦ elim (cases_Bool (nat_le (2 ^ 64) (stock a name Thousandths + stock b name Thousandths))) [
      | inl large ↦ absurd (false≢true (sym free.small ∙
          found_any (λ r. nat_le (2 ^ 64) (stock a r.label Thousandths + stock b r.label Thousandths)) name Thousandths a some
          (λ r named here. subst (λ (t : Text). nat_le (2 ^ 64) (stock a t Thousandths + stock b t Thousandths) ≡ true) (same_from_test name r.label named) large)))
      | inr small ↦ grind (arith, nat_tests, small)
    ]
  ]

  both_single : IsFree a b → (name : Text) (p : Point) → most p ≡ 1 → stock a name p + stock b name p ≤ most p
  both_single free name p single = elim (zero_or_some (stock a name p)) [
    | inl none ↦ omega (arith, none, second.fits.at_most name p)
    | inr some ↦ elim (zero_or_some (stock b name p)) [
      | inl none ↦ omega (arith, none, first.fits.at_most name p)
      | inr other ↦ absurd (false≢true (sym free.members ∙ found_clash Members a b name p p some other (λ r s here there. share_at p r.value s.value single here there)))
    ]
  ]

  both_at_most : IsFree a b → (name : Text) (p : Point) → stock a name p + stock b name p ≤ most p
  both_at_most free name Thousandths = omega (arith, sum_small free name)
  both_at_most free name (Number n) = both_single free name (Number n) refl
  both_at_most free name (Member m) = both_single free name (Member m) refl

  kinds_across : have_clash Kinds a b ≡ false → (name : Text) (p q : Point) → 0 < stock a name p
      → 0 < stock b name q → IsTrue (is_one_kind p q)
  kinds_across none name p q some other = elim (cases_Bool (is_one_kind p q)) [
    | inl one ↦ one
    | inr two ↦ absurd (false≢true (sym none ∙ found_clash Kinds a b name p q some other
        (λ r s here there. ap not (kind_at r.value s.value p q here there ∙ two))))
  ]

  -- if no kinds clash, each name has one kind in both bundles together
  pub one_kind_of_both : have_clash Kinds a b ≡ false → (name : Text) (p q : Point) → 0 < stock_of_both a b name p
      → 0 < stock_of_both a b name q → IsTrue (is_one_kind p q)
  one_kind_of_both none name p q some other = elim (zero_or_some (stock a name p)) [
    | inl none_here ↦
        let in_b : 0 < stock b name p = omega (arith, none_here, some) in
        elim (zero_or_some (stock a name q)) [
          | inl none_too ↦ second.fits.one_kind name p q in_b (omega (arith, none_too, other))
          | inr in_a ↦ one_kind_turn p q ∙ kinds_across none name q p in_a in_b
        ]
    | inr in_a ↦ elim (zero_or_some (stock a name q)) [
      | inl none_here ↦ kinds_across none name p q in_a (omega (arith, none_here, other))
      | inr in_a_too ↦ first.fits.one_kind name p q in_a in_a_too
    ]
  ]

  pub fits_from_free : IsFree a b → Fits (stock_of_both a b)
  fits_from_free free = record { one_kind = one_kind_of_both free.kinds; at_most = both_at_most free }

  free_from_fits : Fits (stock_of_both a b) → IsFree a b
  free_from_fits fits = record {
    kinds = false_from_ne_true _ (λ clashes.
        let at = clash_found Kinds a b clashes in
        let p = filled_point at.first.value (at_each IsResource a at.first first.each at.in_first).filled in
        let q = filled_point at.second.value (at_each IsResource b at.second second.each at.in_second).filled in
        let there : units_in at.second.value q.0 ≤ stock b at.first.label q.0 = subst (λ (t : Text). units_in at.second.value q.0 ≤ stock b t q.0) (sym at.same_name) (stock_has b at.second q.0 at.in_second) in
        let one = fits.one_kind at.first.label p.0 q.0 (omega (arith, p.1, stock_has a at.first p.0 at.in_first)) (omega (arith, q.1, there)) in
        let same : is_same_kind at.first.value at.second.value ≡ true = kind_at at.first.value at.second.value p.0 q.0 p.1 q.1 ∙ one in
        false≢true (ap not (sym same) ∙ at.clashes));
    members = false_from_ne_true _ (λ clashes.
        let at = clash_found Members a b clashes in
        let shared = shared_point at.first.value at.second.value at.clashes in
        let there : units_in at.second.value shared.point ≤ stock b at.first.label shared.point = subst (λ (t : Text). units_in at.second.value shared.point ≤ stock b t shared.point) (sym at.same_name) (stock_has b at.second shared.point at.in_second) in
        omega (arith, shared.in_first, shared.in_second, shared.single, there, stock_has a at.first shared.point at.in_first, fits.at_most at.first.label shared.point));
    small = false_from_ne_true _ (λ large.
        let at = find (λ r. nat_le (2 ^ 64) (stock a r.label Thousandths + stock b r.label Thousandths)) a large in
        omega (arith, leb-true _ _ at.passes, fits.at_most at.found.label Thousandths));
  }

  keys_join : IsFree a b → KeysJoin a b
  keys_join free r s in_a in_b keys =
      let same : r.label ≡ s.label = λ i. (keys i).0 in
      record { same_kind = not-false _ (no_clash Kinds a b r s free.kinds in_a in_b same); apart = no_clash Members a b r s free.members in_a in_b same }

  -- if the stocks fit, the merged list is a bundle
  bundle-merged : KeysJoin a b → Fits (stock_of_both a b) → IsBundle (merged a b)
  bundle-merged joins fits = record {
    in_order = in_order-merged a b first.in_order second.in_order;
    each = each-merged IsResource a b passes first.each second.each;
    fits = fits_less (stock_of_both a b) (stock (merged a b)) fits (λ name p. omega (arith, where-merged (λ key. same_text name key.0) p a b joins));
  }
    where
      passes : (r s : Resource) → Has a r → Has b s → key_of r ≡ key_of s → IsResource r → IsResource s
          → IsResource (both_of r s)
      passes r s in_a in_b keys one other =
          let same : s.label ≡ r.label = λ i. (sym keys i).0 in
          let joinable = joins r s in_a in_b keys in
          record {
            label = one.label;
            role = one.role;
            role_read = one.role_read;
            value = given-united r.value s.value one.value other.value
                (omega (arith, stock_has a r Thousandths in_a, subst (λ (t : Text). units_in s.value Thousandths ≤ stock b t Thousandths) same (stock_has b s Thousandths in_b), fits.at_most r.label Thousandths));
            filled = omega (arith, amount-united r.value s.value joinable, one.filled);
          }

-- ---- joins

pub join_or_some : (refused : Option AlgebraFault) (whole c : List Resource) → join_or refused whole ≡ Some c
    → (refused ≡ None) × (whole ≡ c)
join_or_some None whole c is = (refl, cc)
join_or_some (Some f) whole c is = absurd (cc)

-- the join of two bundles has the units of both
pub record IsJoinOf (a b whole : List Resource) : Type 0 where
  pub is_merged : merged a b ≡ whole
  pub joins : KeysJoin a b
  pub fits : Fits (stock_of_both a b)
  pub bundle : IsBundle whole
  pub units_add : (key : Key) (p : Point) → units whole key p ≡ units a key p + units b key p
  pub stocks_add : (name : Text) (p : Point) → stock whole name p ≡ stock a name p + stock b name p

pub join_of_free : (a b : List Resource) → IsBundle a → IsBundle b → IsFree a b → IsJoinOf a b (merged a b)
join_of_free a b first second free =
    let joins = keys_join a b first second free in
    let fits = fits_from_free a b first second free in
    record {
      is_merged = refl;
      joins = joins;
      fits = fits;
      bundle = bundle-merged a b first second joins fits;
      units_add = λ key p. where-merged (same_key key) p a b joins;
      stocks_add = λ name p. where-merged (λ key. same_text name key.0) p a b joins;
    }

pub join_some : (a b whole : List Resource) → IsBundle a → IsBundle b → join a b ≡ Some whole → IsJoinOf a b whole
join_some a b whole first second joined =
    let is = join_or_some (refusal a b) (merged a b) whole joined in
    subst (IsJoinOf a b) is.1 (join_of_free a b first second (free_from_refusal a b is.0))

-- if the stocks fit, there is a join
pub join_fits : (a b : List Resource) → IsBundle a → IsBundle b → Fits (stock_of_both a b)
    → (join a b ≡ Some (merged a b)) × IsJoinOf a b (merged a b)
join_fits a b first second fits =
    let free = free_from_fits a b first second fits in
    (rw (refusal_from_free a b free) refl, join_of_free a b first second free)

-- there is a join exactly if the stocks fit
pub cases_join : (a b : List Resource) → IsBundle a → IsBundle b
    → Fits (stock_of_both a b) ⊎ ((join a b ≡ None) × (¬ Fits (stock_of_both a b)))
cases_join a b first second = of (refusal a b) refl
  where
    of : (refused : Option AlgebraFault) → refusal a b ≡ refused
        → Fits (stock_of_both a b) ⊎ ((join a b ≡ None) × (¬ Fits (stock_of_both a b)))
    of None none = inl (fits_from_free a b first second (free_from_refusal a b none))
    of (Some f) some = inr (rw some refl, λ fits. some_not_none f (sym some ∙ refusal_from_free a b (free_from_fits a b first second fits)))
      where
        some_not_none : (f : AlgebraFault) → Some f ≡ None → ⊥
        some_not_none f e = cc
