-- Lemmas about `specs/TaskLaws.antt`.
use Rattle.std.specs.Prelude.{◌≡◌, ◌⊎◌, ◌↔◌, ℕ, ◌+◌, ◌-◌, ◌<◌, ◌≤◌, Bool, true, false, not, ◌&&◌, List, [], ◌∷◌, Option, Some, None, option_and_then, is_some, nat_lt, sum_by, All, IsTrue}
use Rattle.std.specs.List.{list_all, AllByRecursion}
use Rattle.std.specs.Option.{option_map_or}
use Rattle.std.proofs.Common.{refl, sym, ap, subst, ◌∙◌, inl, inr, cond, arith}
use Rattle.std.proofs.lemmas.Bool.{cases_Bool, and_parts, and_from, false≢true, le-leb, leb-true, lt-ltb, lt-leb}
use Rattle.std.proofs.lemmas.List.Elements.{All-head, All-tail}
use Rattle.std.proofs.lemmas.List.Sums.{sum_by-cons}
use Rattle.drf_amount.specs.Algebra.{Covers}
use Rattle.drf_role.specs.Text.{Text, same_text}
use Rattle.drf_bundle.specs.Value.{Point, Thousandths, Number, Member, units_in, most}
use Rattle.drf_bundle.specs.Bundle.{Key, key_of, same_key, units, stock, Fits, IsBundle, amount, join, merged, covers, value_at}
use Rattle.drf_bundle.specs.laws.BundleLaws.{bundle-empty, bundle_laws}
use Rattle.drf_bundle.proofs.theorems.BundleLaws.{covers_exact}
use Rattle.drf_bundle.specs.laws.FitLaws.{fits_less, join_some, join_fits, zero_or_some}
use Rattle.drf_bundle.specs.laws.KeyLaws.{where-cons, units_other, cases_same}
use Rattle.drf_bundle.proofs.theorems.KeyLaws.{units_found, units_at}
use Rattle.drf_bundle.proofs.theorems.RestLaws.{covered_units, covers_units}
use Rattle.drf_bundle.specs.Taken.{joined, units_of_all, rest_of_all}
use Rattle.drf_bundle.proofs.theorems.TakenLaws.{joined-rest_of_all, bundle-rest_of_all, sum-joined, units-adds_up, stock-adds_up}
use Rattle.drf_bundle.specs.declared.resource.Resource.{Resource}
use Rattle.drf_bundle.specs.declared.value.Value.{Value}
use Rattle.drf_rows.specs.Offers.{is_empty}
use Rattle.drf_rows.specs.Tasks.{Start, uses, covers_all}
use Rattle.drf_rows.specs.TaskLaws.{is_apart, are_apart, is_enough}

-- the bundle has at least the units of all parts together
abbrev pub HasAll : List Resource → List (List Resource) → Type 0
HasAll whole parts = (key : Key) (p : Point) → units_of_all parts key p ≤ units whole key p

-- the stocks of all parts together
abbrev pub stock_of_all : List (List Resource) → Text → Point → ℕ
stock_of_all parts name p = sum_by (λ part. stock part name p) parts

more_units : (part : List Resource) (parts : List (List Resource)) (key : Key) (p : Point)
    → units_of_all (part ∷ parts) key p ≡ units part key p + units_of_all parts key p
more_units part parts key p = sum_by-cons (λ (part : List Resource). units part key p) part parts

more_stock : (part : List Resource) (parts : List (List Resource)) (name : Text) (p : Point)
    → stock_of_all (part ∷ parts) name p ≡ stock part name p + stock_of_all parts name p
more_stock part parts name p = sum_by-cons (λ (part : List Resource). stock part name p) part parts

-- ---- joins of all parts

bundle-joined : (bundle whole : List Resource) (parts : List (List Resource)) → IsBundle bundle → AllByRecursion IsBundle parts
    → joined bundle parts ≡ Some whole → IsBundle whole
bundle-joined bundle whole [] is each same =
    let one : bundle ≡ whole = cc in
    subst IsBundle one is
bundle-joined bundle whole (part ∷ parts) is each same =
    by (join bundle part) refl same (λ both right some. bundle-joined both whole parts right each.1 some)
  where
    by : (found : Option (List Resource)) → join bundle part ≡ found
        → option_and_then (λ both. joined both parts) found ≡ Some whole
        → ((both : List Resource) → IsBundle both → joined both parts ≡ Some whole → IsBundle whole) → IsBundle whole
    by None none some later = cc
    by (Some both) joins some later = later both (join_some bundle part both is each.0 joins).bundle some

-- the bundle and the parts have a join (`joined-fits`: they have one if their stocks fit)
record IsJoinOfAll (bundle : List Resource) (parts : List (List Resource)) : Type 0 where
  pub whole : List Resource
  pub is : joined bundle parts ≡ Some whole

joined-fits : (bundle : List Resource) (parts : List (List Resource)) → IsBundle bundle → AllByRecursion IsBundle parts
    → Fits (λ name p. stock bundle name p + stock_of_all parts name p) → IsJoinOfAll bundle parts
joined-fits bundle [] is each fits = record { whole = bundle; is = refl }
joined-fits bundle (part ∷ parts) is each fits =
    let both = join_fits bundle part is each.0 (fits_less _ _ fits (λ name p. omega (arith, more_stock part parts name p))) in
    let all = joined-fits (merged bundle part) parts both.1.bundle each.1
    (fits_less _ _ fits (λ name p. omega (arith, more_stock part parts name p, both.1.stocks_add name p))) in
    record { whole = all.whole; is = ap (option_and_then (λ both. joined both parts)) both.0 ∙ all.is }

-- if the bundle has all units of the parts, it has all of their stocks
stocks_within : (whole : List Resource) (parts : List (List Resource)) → IsBundle whole → AllByRecursion IsBundle parts → HasAll whole parts
    → (name : Text) (p : Point) → stock_of_all parts name p ≤ stock whole name p
stocks_within whole parts is each has name p = omega (
  arith,
  sum-joined (λ rs. stock rs name p) (stock-adds_up name p) (rest_of_all whole parts) whole parts (bundle-rest_of_all whole parts is) each
      (joined-rest_of_all whole parts is each has),
)

-- ---- a bundle covers the join of all parts exactly if it has all their units

pub units-covers_all : (whole : List Resource) (parts : List (List Resource)) → IsBundle whole → AllByRecursion IsBundle parts
    → covers_all whole parts ≡ true → HasAll whole parts
units-covers_all whole parts is each covered = by (joined [] parts) refl covered
  where
    by : (found : Option (List Resource)) → joined [] parts ≡ found → option_map_or (covers whole) found false ≡ true → HasAll whole parts
    by None none lacking = absurd (false≢true lacking)
    by (Some all) some below = λ key p. omega (
      arith,
      covered_units whole all is.in_order (bundle-joined [] all parts bundle-empty each some).in_order below key p,
      sum-joined (λ rs. units rs key p) (units-adds_up key p) [] all parts bundle-empty each some,
    )

pub covers_all-units : (whole : List Resource) (parts : List (List Resource)) → IsBundle whole → AllByRecursion IsBundle parts
    → HasAll whole parts → covers_all whole parts ≡ true
covers_all-units whole parts is each has =
    let join = joined-fits [] parts bundle-empty each
    (fits_less _ _ is.fits (λ name p. omega (arith, stocks_within whole parts is each has name p))) in
    let all = bundle-joined [] join.whole parts bundle-empty each join.is in
    ap (λ (o : Option (List Resource)). option_map_or (covers whole) o false) join.is
    ∙ covers_units whole join.whole is.in_order all.in_order all.each
    (λ key p. omega (arith, has key p, sum-joined (λ rs. units rs key p) (units-adds_up key p) [] join.whole parts bundle-empty each join.is))

-- ---- the rest

not_empty : (r : Resource) (rs : List Resource) → r ∷ rs ≡ [] → ⊥
not_empty r rs e = cc

-- something is left exactly if the amounts of the parts add up to less than the amount of the bundle
pub leaves : (whole : List Resource) (parts : List (List Resource)) (left : ℕ) → IsBundle whole → AllByRecursion IsBundle parts
    → covers_all whole parts ≡ true → left ≡ amount whole - sum_by amount parts
    → nat_lt 0 left ≡ not (is_empty (rest_of_all whole parts))
leaves whole parts left is each covered reported =
    by (rest_of_all whole parts) refl
  where
    rest : List Resource
    rest = rest_of_all whole parts

    more : amount whole ≡ amount rest + sum_by amount parts
    more = sum-joined amount bundle_laws.amount_adds rest whole parts (bundle-rest_of_all whole parts is) each
        (joined-rest_of_all whole parts is each (units-covers_all whole parts is each covered))

    by : (rs : List Resource) → rs ≡ rest → nat_lt 0 left ≡ not (is_empty rs)
    by [] none =
        let zero : left ≡ 0 = omega (arith, reported, more, (bundle_laws.amount_zero rest (bundle-rest_of_all whole parts is)).1 (sym none)) in
        ap (nat_lt 0) zero
    by (r ∷ rs) some = lt-ltb 0 left (above (zero_or_some (amount rest)))
      where
        above : (amount rest ≡ 0) ⊎ (0 < amount rest) → 0 < left
        above (inl zero) = absurd (not_empty r rs (some ∙ (bundle_laws.amount_zero rest (bundle-rest_of_all whole parts is)).0 zero))
        above (inr below) = omega (arith, reported, more, below)

-- a truth value that says `Covers` is the result of `covers`
pub covers_from : (b : Bool) (whole part : List Resource) → IsBundle whole → IsBundle part
    → (IsTrue b ↔ Covers IsBundle join whole part) → b ≡ covers whole part
covers_from b whole part first second reported =
    let exact = covers_exact whole part first second in
    same_tests b (covers whole part) (λ here. exact.1 (reported.0 here)) (λ here. reported.1 (exact.0 here))
  where
    -- two truth values that imply each other are equal
    same_tests : (a b : Bool) → (a ≡ true → b ≡ true) → (b ≡ true → a ≡ true) → a ≡ b
    same_tests true true there back = refl
    same_tests true false there back = sym (there refl)
    same_tests false true there back = back refl
    same_tests false false there back = refl

-- the value at a key has all units of the scalar at this key
pub scalar_found : (bundle : List Resource) (key : Key) (found : Option Value) → IsBundle bundle → found ≡ value_at bundle key
    → units_at found Thousandths ≡ units bundle key Thousandths
scalar_found bundle key found is same = ap (λ (o : Option Value). units_at o Thousandths) same ∙ sym (units_found bundle key Thousandths is.in_order)

-- ---- task by task

pub uses_each : (starts : List Start) → All (λ s. IsBundle s.1) starts → AllByRecursion IsBundle (uses starts)
uses_each [] all = tt
uses_each (s ∷ starts) all =
    (All-head (λ (s : Start). IsBundle s.1) s starts all, uses_each starts (All-tail (λ (s : Start). IsBundle s.1) s starts all))

abbrev pub fits_all : List Resource → List (List Resource) → Bool
fits_all whole parts = list_all (covers whole) parts && are_apart parts && list_all (is_enough whole parts) whole

-- ---- the test is sufficient

none_of_all : (parts : List (List Resource)) (key : Key) (p : Point) → AllByRecursion (λ part. units part key p ≡ 0) parts
    → units_of_all parts key p ≡ 0
none_of_all [] key p none = refl
none_of_all (part ∷ parts) key p none = omega (arith, more_units part parts key p, none.0, none_of_all parts key p none.1)

each_covered : (whole : List Resource) (parts : List (List Resource)) → IsBundle whole → AllByRecursion IsBundle parts
    → list_all (covers whole) parts ≡ true → (key : Key) (p : Point) → AllByRecursion (λ part. units part key p ≤ units whole key p) parts
each_covered whole [] is each all key p = tt
each_covered whole (part ∷ parts) is each all key p =
    let both = and_parts (covers whole part) (list_all (covers whole) parts) all in
    (covered_units whole part is.in_order each.0.in_order both.0 key p, each_covered whole parts is each.1 both.1 key p)

each_none : (parts : List (List Resource)) (key : Key) (p : Point) (n : ℕ) → n ≡ 0 → AllByRecursion (λ part. units part key p ≤ n) parts
    → AllByRecursion (λ part. units part key p ≡ 0) parts
each_none [] key p n zero below = tt
each_none (part ∷ parts) key p n zero below = (omega (arith, zero, below.0), each_none parts key p n zero below.1)

-- a scalar of which a bundle has units is one of its resources
enough_at : (whole : List Resource) (parts : List (List Resource)) (rs : List Resource) (key : Key)
    → list_all (is_enough whole parts) rs ≡ true → 0 < units rs key Thousandths
    → units_of_all parts key Thousandths ≤ units whole key Thousandths
enough_at whole parts [] key all some = absurd (omega (arith, some))
enough_at whole parts (r ∷ rs) key all some =
    let both = and_parts (is_enough whole parts r) (list_all (is_enough whole parts) rs) all in
    elim (cases_same key (key_of r)) [
      | inl same ↦ subst (λ (k : Key). units_of_all parts k Thousandths ≤ units whole k Thousandths) (sym same.1)
          (leb-true (units_of_all parts (key_of r) Thousandths) (units whole (key_of r) Thousandths) both.0)
      | inr other ↦ enough_at whole parts rs key both.1 (omega (arith, some, units_other key r rs Thousandths other))
    ]

scalars_within : (whole : List Resource) (parts : List (List Resource)) → IsBundle whole → AllByRecursion IsBundle parts
    → list_all (covers whole) parts ≡ true → list_all (is_enough whole parts) whole ≡ true
    → (key : Key) → units_of_all parts key Thousandths ≤ units whole key Thousandths
scalars_within whole parts is each all enough key = elim (zero_or_some (units whole key Thousandths)) [
  | inl zero ↦ omega (
    arith,
    none_of_all parts key Thousandths
        (each_none parts key Thousandths (units whole key Thousandths) zero (each_covered whole parts is each all key Thousandths)),
  )
  | inr some ↦ enough_at whole parts whole key enough some
]

units_in_stock : (rs : List Resource) (key : Key) (p : Point) → units rs key p ≤ stock rs key.0 p
units_in_stock [] key p = omega arith
units_in_stock (r ∷ rs) key p = omega (
  arith,
  where-cons (same_key key) p r rs,
  where-cons (λ k. same_text key.0 k.0) p r rs,
  units_in_stock rs key p,
  by (same_text key.0 (key_of r).0) (same_text key.1 (key_of r).1),
)
  where
    by : (a b : Bool) → cond (a && b) (units_in r.value p) 0 ≤ cond a (units_in r.value p) 0
    by true true = omega arith
    by true false = omega arith
    by false b = omega arith

-- a member is not in both of two bundles that have a join
members_apart : (a b : List Resource) (key : Key) (p : Point) → IsBundle a → IsBundle b → is_some (join a b) ≡ true → most p ≡ 1
    → units a key p + units b key p ≤ 1
members_apart a b key p first second joins single = by (join a b) refl joins
  where
    by : (found : Option (List Resource)) → join a b ≡ found → is_some found ≡ true → units a key p + units b key p ≤ 1
    by None none some = absurd (false≢true some)
    by (Some both) is some =
        let join = join_some a b both first second is in
        omega (arith, join.units_add key p, units_in_stock both key p, join.bundle.fits.at_most key.0 p, single)

others_none : (part : List Resource) (parts : List (List Resource)) (key : Key) (p : Point) → IsBundle part → AllByRecursion IsBundle parts
    → is_apart part parts ≡ true → most p ≡ 1 → 0 < units part key p → AllByRecursion (λ other. units other key p ≡ 0) parts
others_none part [] key p is each apart single some = tt
others_none part (other ∷ parts) key p is each apart single some =
    let both = and_parts (is_some (join part other)) (is_apart part parts) apart in
    (omega (arith, some, members_apart part other key p is each.0 both.0 single), others_none part parts key p is each.1 both.1 single some)

members_within : (whole : List Resource) (parts : List (List Resource)) (key : Key) (p : Point) → AllByRecursion IsBundle parts
    → AllByRecursion (λ part. units part key p ≤ units whole key p) parts → are_apart parts ≡ true → most p ≡ 1
    → units_of_all parts key p ≤ units whole key p
members_within whole [] key p each below apart single = omega arith
members_within whole (part ∷ parts) key p each below apart single =
    let both = and_parts (is_apart part parts) (are_apart parts) apart in
    elim (zero_or_some (units part key p)) [
      | inl zero ↦ omega (arith, zero, more_units part parts key p, members_within whole parts key p each.1 below.1 both.1 single)
      | inr some ↦ omega (arith, more_units part parts key p, below.0, none_of_all parts key p (others_none part parts key p each.0 each.1 both.0 single some))
    ]

units-fits_all : (whole : List Resource) (parts : List (List Resource)) → IsBundle whole → AllByRecursion IsBundle parts
    → fits_all whole parts ≡ true → HasAll whole parts
units-fits_all whole parts is each fits = by
  where
    all : (list_all (covers whole) parts && are_apart parts ≡ true) × (list_all (is_enough whole parts) whole ≡ true)
    all = and_parts (list_all (covers whole) parts && are_apart parts) (list_all (is_enough whole parts) whole) fits

    first : (list_all (covers whole) parts ≡ true) × (are_apart parts ≡ true)
    first = and_parts (list_all (covers whole) parts) (are_apart parts) all.0

    by : HasAll whole parts
    by key Thousandths = scalars_within whole parts is each first.0 all.1 key
    by key (Number n) = members_within whole parts key (Number n) each (each_covered whole parts is each first.0 key (Number n)) first.1 refl
    by key (Member m) = members_within whole parts key (Member m) each (each_covered whole parts is each first.0 key (Member m)) first.1 refl

-- ---- the test is necessary

covers_each : (whole : List Resource) (parts : List (List Resource)) → IsBundle whole → AllByRecursion IsBundle parts → HasAll whole parts
    → list_all (covers whole) parts ≡ true
covers_each whole [] is each has = refl
covers_each whole (part ∷ parts) is each has = and_from _ _
    (covers_units whole part is.in_order each.0.in_order each.0.each (λ key p. omega (arith, has key p, more_units part parts key p)))
    (covers_each whole parts is each.1 (λ key p. omega (arith, has key p, more_units part parts key p)))

apart_within : (whole part : List Resource) (parts : List (List Resource)) → IsBundle whole → IsBundle part → AllByRecursion IsBundle parts
    → ((name : Text) (p : Point) → stock part name p + stock_of_all parts name p ≤ stock whole name p) → is_apart part parts ≡ true
apart_within whole part [] is one each below = refl
apart_within whole part (other ∷ parts) is one each below = and_from _ _
    (ap is_some (join_fits part other one each.0 (fits_less _ _ is.fits (λ name p. omega (arith, below name p, more_stock other parts name p)))).0)
    (apart_within whole part parts is one each.1 (λ name p. omega (arith, below name p, more_stock other parts name p)))

all_apart : (whole : List Resource) (parts : List (List Resource)) → IsBundle whole → AllByRecursion IsBundle parts → HasAll whole parts
    → are_apart parts ≡ true
all_apart whole [] is each has = refl
all_apart whole (part ∷ parts) is each has = and_from _ _
    (apart_within whole part parts is each.0 each.1
    (λ name p. omega (arith, stocks_within whole (part ∷ parts) is each has name p, more_stock part parts name p)))
    (all_apart whole parts is each.1 (λ key p. omega (arith, has key p, more_units part parts key p)))

enough_for_each : (whole : List Resource) (parts : List (List Resource)) (rs : List Resource) → HasAll whole parts
    → list_all (is_enough whole parts) rs ≡ true
enough_for_each whole parts [] has = refl
enough_for_each whole parts (r ∷ rs) has = and_from _ _
    (le-leb (units_of_all parts (key_of r) Thousandths) (units whole (key_of r) Thousandths) (has (key_of r) Thousandths))
    (enough_for_each whole parts rs has)

-- there is enough of a scalar if something (maybe 0) is left after all parts are subtracted, and not enough if the rest
-- is less than the next part
pub enough-left : (whole : List Resource) (parts : List (List Resource)) (r : Resource) (left : ℕ)
    → units_of_all parts (key_of r) Thousandths + left ≡ units whole (key_of r) Thousandths → true ≡ is_enough whole parts r
enough-left whole parts r left same =
    sym (le-leb (units_of_all parts (key_of r) Thousandths) (units whole (key_of r) Thousandths) (omega (arith, same)))

pub enough-lacking : (whole part : List Resource) (parts others : List (List Resource)) (r : Resource) (left : ℕ)
    → units_of_all parts (key_of r) Thousandths + left ≡ units whole (key_of r) Thousandths + units_of_all (part ∷ others) (key_of r) Thousandths
    → left < units part (key_of r) Thousandths → false ≡ is_enough whole parts r
enough-lacking whole part parts others r left same below =
    sym (lt-leb (units_of_all parts (key_of r) Thousandths) (units whole (key_of r) Thousandths)
    (omega (arith, same, below, more_units part others (key_of r) Thousandths)))

pub more_taken : (part : List Resource) (parts : List (List Resource)) (key : Key) (p : Point)
    → units_of_all (part ∷ parts) key p ≡ units part key p + units_of_all parts key p
more_taken part parts key p = more_units part parts key p

pub covers_all-decided : (whole : List Resource) (parts : List (List Resource)) → IsBundle whole → AllByRecursion IsBundle parts
    → fits_all whole parts ≡ covers_all whole parts
covers_all-decided whole parts is each = elim (cases_Bool (fits_all whole parts)) [
  | inl fits ↦ fits ∙ sym (covers_all-units whole parts is each (units-fits_all whole parts is each fits))
  | inr fails ↦ elim (cases_Bool (covers_all whole parts)) [
    | inl covered ↦ absurd (false≢true (sym fails ∙ needed (units-covers_all whole parts is each covered)))
    | inr beyond ↦ fails ∙ sym beyond
  ]
]
  where
    needed : HasAll whole parts → fits_all whole parts ≡ true
    needed has = and_from _ _ (and_from _ _ (covers_each whole parts is each has) (all_apart whole parts is each has))
        (enough_for_each whole parts whole has)
