-- Bundles satisfy what a type of amounts must satisfy.
use Rattle.std.specs.Prelude.{◌≡◌, ◌⊎◌, ◌↔◌, ℕ, ◌+◌, Bool, true, false, List, [], ◌∷◌, Option, Some, None, IsSome, IfSome, option_and_then}
use Rattle.std.proofs.Common.{refl, sym, ap, ◌∙◌, inl, inr, cond, arith}
use Rattle.std.proofs.lemmas.List.Elements.{All-head, All-nil}
use Rattle.std.proofs.lemmas.List.Sums.{sum_by-cons}
use Rattle.drf_role.specs.Text.{Text}
use Rattle.drf_amount.specs.Algebra.{AlgebraLaws, IsRefusal}
use Rattle.drf_amount.specs.declared.algebra.AlgebraFault.{AlgebraFault}
use Rattle.drf_amount.specs.declared.algebra.AlgebraFault.TheVariants as fault
use Rattle.drf_bundle.specs.Value.{Point, amount_in}
use Rattle.drf_bundle.specs.Bundle.{Key, stock, units, IsResource, Fits, IsBundle, amount, merged, have_clash, is_too_large, refusal, join_or, join}
use Rattle.drf_bundle.specs.laws.JoinLaws.{merged-empty, amount-merged, IsOrderly, same_bundle}
use Rattle.drf_bundle.specs.laws.FitLaws.{fits_less, IsJoinOf, join_some, join_fits, cases_join}
use Rattle.drf_bundle.specs.declared.resource.Resource.{Resource}
use Rattle.drf_bundle.specs.declared.value.Clash.TheVariants.{Kinds, Members}

pub orderly : (a : List Resource) → IsBundle a → IsOrderly a
orderly a is = record { in_order = is.in_order; each = is.each }

-- two bundles with the same units are equal
pub known_by_units : (a b : List Resource) → IsBundle a → IsBundle b
    → ((key : Key) (p : Point) → units a key p ≡ units b key p) → a ≡ b
known_by_units a b first second same = same_bundle a b (orderly a first) (orderly b second) same

-- two joins with the same units are equal
same_joins : (a b c d whole other : List Resource) → IsJoinOf a b whole → IsJoinOf c d other
    → ((key : Key) (p : Point) → units a key p + units b key p ≡ units c key p + units d key p) → whole ≡ other
same_joins a b c d whole other one two same =
    known_by_units whole other one.bundle two.bundle (λ key p. omega (arith, one.units_add key p, two.units_add key p, same key p))

pub bundle-empty : IsBundle []
bundle-empty = record {
  in_order = refl;
  each = All-nil IsResource;
  fits = record { one_kind = λ name p q some other. absurd (omega (arith, some)); at_most = λ name p. omega arith };
}

commutative : (a b : List Resource) → IsBundle a → IsBundle b → join a b ≡ join b a
commutative a b first second = elim (cases_join a b first second) [
  | inl fits ↦
      let one = join_fits a b first second fits in
      let two = join_fits b a second first (fits_less _ _ fits (λ name p. omega arith)) in
      one.0 ∙ ap Some (same_joins a b b a (merged a b) (merged b a) one.1 two.1 (λ key p. omega arith)) ∙ sym two.0
  | inr none ↦ elim (cases_join b a second first) [
    | inl fits ↦ absurd (none.1 (fits_less _ _ fits (λ name p. omega arith)))
    | inr none_too ↦ none.0 ∙ sym none_too.0
  ]
]

module _ (a b c : List Resource) (is_a : IsBundle a) (is_b : IsBundle b) (is_c : IsBundle c) where
  abbrev of_all : Text → Point → ℕ
  of_all name p = stock a name p + stock b name p + stock c name p

  record IsWhole (side : Option (List Resource)) : Type 0 where
    pub whole : List Resource
    pub is : side ≡ Some whole
    pub bundle : IsBundle whole
    pub units_add : (key : Key) (p : Point) → units whole key p ≡ units a key p + units b key p + units c key p
    pub fits : Fits of_all

  abbrev from_left : Option (List Resource)
  from_left = option_and_then (λ ab. join ab c) (join a b)

  abbrev from_right : Option (List Resource)
  from_right = option_and_then (join a) (join b c)

  left_cases : IsWhole from_left ⊎ ((from_left ≡ None) × (¬ Fits of_all))
  left_cases = elim (cases_join a b is_a is_b) [
    | inl fits ↦
        let ab = join_fits a b is_a is_b fits in
        elim (cases_join (merged a b) c ab.1.bundle is_c) [
          | inl fits_too ↦
              let abc = join_fits (merged a b) c ab.1.bundle is_c fits_too in
              inl (record {
                whole = merged (merged a b) c;
                is = ap (option_and_then (λ ab. join ab c)) ab.0 ∙ abc.0;
                bundle = abc.1.bundle;
                units_add = λ key p. omega (arith, abc.1.units_add key p, ab.1.units_add key p);
                fits = fits_less _ _ fits_too (λ name p. omega (arith, ab.1.stocks_add name p));
              })
          | inr none ↦ inr (ap (option_and_then (λ ab. join ab c)) ab.0 ∙ none.0, λ all. none.1 (fits_less _ _ all (λ name p. omega (arith, ab.1.stocks_add name p))))
        ]
    | inr none ↦ inr (ap (option_and_then (λ ab. join ab c)) none.0, λ all. none.1 (fits_less _ _ all (λ name p. omega arith)))
  ]

  right_cases : IsWhole from_right ⊎ ((from_right ≡ None) × (¬ Fits of_all))
  right_cases = elim (cases_join b c is_b is_c) [
    | inl fits ↦
        let bc = join_fits b c is_b is_c fits in
        elim (cases_join a (merged b c) is_a bc.1.bundle) [
          | inl fits_too ↦
              let abc = join_fits a (merged b c) is_a bc.1.bundle fits_too in
              inl (record {
                whole = merged a (merged b c);
                is = ap (option_and_then (join a)) bc.0 ∙ abc.0;
                bundle = abc.1.bundle;
                units_add = λ key p. omega (arith, abc.1.units_add key p, bc.1.units_add key p);
                fits = fits_less _ _ fits_too (λ name p. omega (arith, bc.1.stocks_add name p));
              })
          | inr none ↦ inr (ap (option_and_then (join a)) bc.0 ∙ none.0, λ all. none.1 (fits_less _ _ all (λ name p. omega (arith, bc.1.stocks_add name p))))
        ]
    | inr none ↦ inr (ap (option_and_then (join a)) none.0, λ all. none.1 (fits_less _ _ all (λ name p. omega arith)))
  ]

  associative : from_left ≡ from_right
  associative = elim left_cases [
    | inl left ↦ elim right_cases [
      | inl right ↦ left.is ∙ ap Some (known_by_units left.whole right.whole left.bundle right.bundle (λ key p. omega (arith, left.units_add key p, right.units_add key p))) ∙ sym right.is
      | inr none ↦ absurd (none.1 left.fits)
    ]
    | inr none ↦ elim right_cases [
      | inl right ↦ absurd (none.1 right.fits)
      | inr none_too ↦ none.0 ∙ sym none_too.0
    ]
  ]

cancellative : (a b c whole : List Resource) → IsBundle a → IsBundle b → IsBundle c → join a b ≡ Some whole
    → join a c ≡ Some whole → b ≡ c
cancellative a b c whole is_a is_b is_c one two =
    let with_b = join_some a b whole is_a is_b one in
    let with_c = join_some a c whole is_a is_c two in
    known_by_units b c is_b is_c (λ key p. omega (arith, with_b.units_add key p, with_c.units_add key p))

pub neutral : (a : List Resource) → IsBundle a → join a [] ≡ Some a
neutral a is =
    (join_fits a [] is bundle-empty (fits_less _ _ is.fits (λ name p. omega arith))).0 ∙ ap Some (merged-empty a)

amount_zero : (a : List Resource) → IsBundle a → (amount a ≡ 0) ↔ (a ≡ [])
amount_zero [] is = (λ zero. refl, λ empty. refl)
amount_zero (r ∷ rs) is = (
  λ zero. absurd (omega (arith, zero, sum_by-cons (λ r. amount_in r.value) r rs, (All-head IsResource r rs is.each).filled)),
  λ empty. absurd (not_empty empty),
)
  where
    not_empty : r ∷ rs ≡ [] → ⊥
    not_empty e = cc

refused : (a b : List Resource) → (join a b ≡ None) ↔ IsSome (refusal a b)
refused a b = of (refusal a b) (merged a b)
  where
    of : (f : Option AlgebraFault) (whole : List Resource) → (join_or f whole ≡ None) ↔ IsSome f
    of None whole = (λ e. absurd (cc), λ e. absurd (cc))
    of (Some f) whole = (λ e. refl, λ e. refl)

refusals : (a b : List Resource) → IfSome (refusal a b) IsRefusal
refusals a b = of (have_clash Kinds a b) (have_clash Members a b) (is_too_large a b)
  where
    of : (x y z : Bool)
        → IfSome (cond x (Some fault.Kind) (cond y (Some fault.Overlap) (cond z (Some fault.TooLarge) None))) IsRefusal
    of true y z = tt
    of false true z = tt
    of false false true = tt
    of false false false = tt

pub bundle_laws : AlgebraLaws IsBundle [] join refusal amount
bundle_laws = record {
  empty_given = bundle-empty;
  join_given = λ a b c is_a is_b joined. (join_some a b c is_a is_b joined).bundle;
  commutative = commutative;
  associative = associative;
  cancellative = cancellative;
  neutral = neutral;
  amount_adds = λ a b c is_a is_b joined. let is = join_some a b c is_a is_b joined in ap amount (sym is.is_merged) ∙ amount-merged a b is.joins;
  amount_zero = amount_zero;
  refused = λ a b is_a is_b. refused a b;
  refusals = λ a b is_a is_b. refusals a b;
}
