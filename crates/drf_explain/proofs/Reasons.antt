-- What each outcome means for the cycle, proved from the definition of outcomes.
use Rattle.std.specs.Prelude.{◌≡◌, ◌⊎◌, ◌↔◌, ℕ, zero, suc, ◌<◌, ◌≤◌, max, min, Bool, true, false, not, ◌&&◌, ◌||◌, List, [], ◌∷◌, map, fold, filter, slice_get, Option, Some, None, is_some, if◌then◌else◌, nat_lt, nat_le, codes}
use Rattle.std.specs.List.{flat_map, list_any, reduce, AllByRecursion}
use Rattle.std.specs.Option.{option_map_or}
use Rattle.std.proofs.Common.{refl, sym, ap, subst, ◌∙◌, inl, inr, cond, arith}
use Rattle.std.proofs.lemmas.Bool.{cases_Bool, or_parts, and_parts, and_from, false≢true, false_from_ne_true, leb-true, leb-false, le-leb, lt-ltb, ltb-true, ltb-false}
use Rattle.drf_role.specs.Text.{Text, same_text}
use Rattle.drf_role.specs.TextLaws.{same_from_test}
use Rattle.drf_role.specs.Path.{Path, begins_with}
use Rattle.drf_bundle.specs.Bundle.{covers, clip, clipped, cut, is_default, is_for, part_for, quantities_of, stock}
use Rattle.drf_bundle.specs.laws.KeyLaws.{unit_of, where-cons, unit-here, unit-none}
use Rattle.drf_bundle.proofs.theorems.PartLaws.{keeps-clipped}
use Rattle.drf_bundle.specs.Quantities.{amount_of, is_named}
use Rattle.drf_bundle.proofs.theorems.RestLaws.{where-changed-cons}
use Rattle.drf_bundle.specs.laws.SumLaws.{of_name}
use Rattle.drf_bundle.proofs.theorems.SumLaws.{amount-quantities_of}
use Rattle.drf_bundle.specs.Value.{Thousandths, units_in}
use Rattle.drf_bundle.specs.declared.quantities.Entry.{Entry}
use Rattle.drf_bundle.specs.declared.resource.Resource.{Resource}
use Rattle.drf_bundle.specs.declared.value.Value.{Value}
use Rattle.drf_bundle.specs.declared.value.Value.TheVariants.{Scalar, Ranges, Items}
use Rattle.drf_rows.specs.Client.{Client, path_of}
use Rattle.drf_rows.specs.Cycle.{free_of, is_allocatable, grant, tried, turn_order, at_timestamp}
use Rattle.drf_rows.specs.Filters.{is_in_force, is_of_client, is_on_agent, holds_back, is_held_back}
use Rattle.drf_row_laws.proofs.CycleLaws.{little_entitlement}
use Rattle.drf_row_laws.proofs.EntitlementLaws.{some_room, limited-binds, named-puts}
use Rattle.drf_rows.specs.Offers.{is_empty}
use Rattle.drf_rows.specs.Quota.{binds, consumption, headroom, headroom_at, limited_names, room_under}
use Rattle.drf_bundle.proofs.ListLaws.{each_append}
use Rattle.drf_row_laws.proofs.QuotaLaws.{headroom_le, named_put}
use Rattle.drf_rows.specs.declared.rows.AgentRow.{AgentRow}
use Rattle.drf_rows.specs.declared.rows.ClientRow.{ClientRow}
use Rattle.drf_rows.specs.declared.rows.FilterRow.{FilterRow}
use Rattle.drf_rows.specs.declared.rows.FrameworkRow.{FrameworkRow}
use Rattle.drf_rows.specs.declared.rows.LimitRow.{LimitRow}
use Rattle.drf_rows.specs.declared.rows.Rows.{Rows}
use Rattle.drf_explain.specs.Explained.{held_until, limiting_role, outcome, tighter, tightest, after_agent, explained, suppressed_in, suppressed_of, reported_if_suppressed, reported_of_agent, reported_of_agents, reported_of_all}
use Rattle.drf_explain.proofs.EachLaws.{little_part}
use Rattle.drf_explain.proofs.ExplainedLaws.{held_back-until, nothing_free}
use Rattle.drf_explain.specs.ReasonLaws.{usable, entitled, usable_amount, IsHeldUntil, IsCutBelow, IsOverLimit, IsTooLittle, IsForOthers, IsReserved, IsOtherwise, NothingLeftIsNotExplained}
use Rattle.drf_explain.specs.declared.finding.Finding.TheVariants.{Inactive, NothingFree, Tried}
use Rattle.drf_explain.specs.declared.finding.Outcome.{Outcome}
use Rattle.drf_explain.specs.declared.finding.Outcome.TheVariants.{Grant, HeldBack, OverLimit, BelowThreshold, NothingLeft, ReservedForOthers}
use Rattle.drf_explain.proofs.Found.{same_values}

-- ---- the outcome of a client, case by case

abbrev reported_by : Bool → Option ℕ → List Resource → Bool → Bool → Bool → Path → Outcome
reported_by worth until bundle some gone none limited =
    if worth then option_map_or HeldBack until (Grant bundle)
    else if some then OverLimit limited
    else if gone then NothingLeft
    else if none then ReservedForOthers
    else BelowThreshold

granted_by : (worth : Bool) (until : Option ℕ) (bundle : List Resource) (some gone none : Bool) (limited : Path) (b : List Resource)
    → (reported_by worth until bundle some gone none limited ≡ Grant b) ↔ ((if worth && not (is_some until) then Some bundle else None) ≡ Some b)
granted_by true None bundle some gone none limited b = (λ is. cc, λ is. cc)
granted_by true (Some u) bundle some gone none limited b = (λ is. cc, λ is. cc)
granted_by false until bundle true gone none limited b = (λ is. cc, λ is. cc)
granted_by false until bundle false true none limited b = (λ is. cc, λ is. cc)
granted_by false until bundle false false true limited b = (λ is. cc, λ is. cc)
granted_by false until bundle false false false limited b = (λ is. cc, λ is. cc)

held_by : (worth : Bool) (until : Option ℕ) (bundle : List Resource) (some gone none : Bool) (limited : Path) (t : ℕ)
    → reported_by worth until bundle some gone none limited ≡ HeldBack t → (worth ≡ true) × (until ≡ Some t)
held_by true None bundle some gone none limited t is = cc
held_by true (Some u) bundle some gone none limited t is = (refl, cc)
held_by false until bundle true gone none limited t is = cc
held_by false until bundle false true none limited t is = cc
held_by false until bundle false false true limited t is = cc
held_by false until bundle false false false limited t is = cc

limited_by : (worth : Bool) (until : Option ℕ) (bundle : List Resource) (some gone none : Bool) (limited role : Path)
    → reported_by worth until bundle some gone none limited ≡ OverLimit role → (worth ≡ false) × (some ≡ true) × (limited ≡ role)
limited_by true None bundle some gone none limited role is = cc
limited_by true (Some u) bundle some gone none limited role is = cc
limited_by false until bundle true gone none limited role is = (refl, refl, cc)
limited_by false until bundle false true none limited role is = cc
limited_by false until bundle false false true limited role is = cc
limited_by false until bundle false false false limited role is = cc

little_by : (worth : Bool) (until : Option ℕ) (bundle : List Resource) (some gone none : Bool) (limited : Path)
    → reported_by worth until bundle some gone none limited ≡ BelowThreshold → (some ≡ false) × (none ≡ false)
little_by true None bundle some gone none limited is = cc
little_by true (Some u) bundle some gone none limited is = cc
little_by false until bundle true gone none limited is = cc
little_by false until bundle false true none limited is = cc
little_by false until bundle false false true limited is = cc
little_by false until bundle false false false limited is = (refl, refl)

reserved_by : (worth : Bool) (until : Option ℕ) (bundle : List Resource) (some gone none : Bool) (limited : Path)
    → reported_by worth until bundle some gone none limited ≡ ReservedForOthers → (gone ≡ false) × (none ≡ true)
reserved_by true None bundle some gone none limited is = cc
reserved_by true (Some u) bundle some gone none limited is = cc
reserved_by false until bundle true gone none limited is = cc
reserved_by false until bundle false true none limited is = cc
reserved_by false until bundle false false true limited is = (refl, refl)
reserved_by false until bundle false false false limited is = cc

gone_by : (worth : Bool) (until : Option ℕ) (bundle : List Resource) (some gone none : Bool) (limited : Path)
    → reported_by worth until bundle some gone none limited ≡ NothingLeft → gone ≡ true
gone_by true None bundle some gone none limited is = cc
gone_by true (Some u) bundle some gone none limited is = cc
gone_by false until bundle true gone none limited is = cc
gone_by false until bundle false true none limited is = refl
gone_by false until bundle false false true limited is = cc
gone_by false until bundle false false false limited is = cc

-- ---- a value that is found is at an index

module _ {A B : Type 0} (test : A → Bool) (value : A → B) where
  abbrev values : List A → List B
  values xs = map value (filter test xs)

  -- an element that passes the test has the value
  record IsFound (xs : List A) (b : B) : Type 0 where
    place : ℕ
    item : A
    stands : slice_get xs place ≡ Some item
    passes : test item ≡ true
    valued : value item ≡ b

  found_first : (x : A) (xs : List A) (b : B) → test x ≡ true → value x ≡ b → IsFound (x ∷ xs) b
  found_first x xs b here valued = record { place = zero; item = x; stands = refl; passes = here; valued = valued }

  found_later : (x : A) (xs : List A) (b : B) → IsFound xs b → IsFound (x ∷ xs) b
  found_later x xs b found = record {
    place = suc found.place;
    item = found.item;
    stands = found.stands;
    passes = found.passes;
    valued = found.valued;
  }

  values-here : (x : A) (xs : List A) → test x ≡ true → values (x ∷ xs) ≡ value x ∷ values xs
  values-here x xs here = ap (λ (b : Bool). map value (cond b (x ∷ filter test xs) (filter test xs))) here

  values-past : (x : A) (xs : List A) → test x ≡ false → values (x ∷ xs) ≡ values xs
  values-past x xs past = ap (λ (b : Bool). map value (cond b (x ∷ filter test xs) (filter test xs))) past

  module _ (join : B → B → B) (either : (a b : B) → (join a b ≡ a) ⊎ (join a b ≡ b)) where
    -- the result of a fold that selects one of two values is the start value, or is found
    found-fold : (start : B) (xs : List A) → (fold join start (values xs) ≡ start) ⊎ IsFound xs (fold join start (values xs))
    found-fold start [] = inl refl
    found-fold start (x ∷ xs) = elim (cases_Bool (test x)) [
      | inl here ↦
          subst (λ (bs : List B). (fold join start bs ≡ start) ⊎ IsFound (x ∷ xs) (fold join start bs)) (sym (values-here x xs here))
          (by here (either start (value x)) (found-fold (join start (value x)) xs))
      | inr past ↦
          subst (λ (bs : List B). (fold join start bs ≡ start) ⊎ IsFound (x ∷ xs) (fold join start bs)) (sym (values-past x xs past))
          (later (found-fold start xs))
    ]
      where
        by : test x ≡ true → (join start (value x) ≡ start) ⊎ (join start (value x) ≡ value x)
            → (fold join (join start (value x)) (values xs) ≡ join start (value x)) ⊎ IsFound xs (fold join (join start (value x)) (values xs))
            → (fold join (join start (value x)) (values xs) ≡ start) ⊎ IsFound (x ∷ xs) (fold join (join start (value x)) (values xs))
        by here (inl first) (inl same) = inl (same ∙ first)
        by here (inr second) (inl same) = inr (found_first x xs _ here (sym (same ∙ second)))
        by here first (inr found) = inr (found_later x xs _ found)

        later : (fold join start (values xs) ≡ start) ⊎ IsFound xs (fold join start (values xs))
            → (fold join start (values xs) ≡ start) ⊎ IsFound (x ∷ xs) (fold join start (values xs))
        later (inl same) = inl same
        later (inr found) = inr (found_later x xs _ found)

    found-reduced : (xs : List A) (b : B) → reduce join (values xs) ≡ Some b → IsFound xs b
    found-reduced [] b is = cc
    found-reduced (x ∷ xs) b is = elim (cases_Bool (test x)) [
      | inl here ↦
          let whole : ◌≡◌ {A = Option B} (Some (fold join (value x) (values xs))) (Some b) = ap (reduce join) (sym (values-here x xs here)) ∙ is in
          let same : fold join (value x) (values xs) ≡ b = cc in
          subst (IsFound (x ∷ xs)) same (by here (found-fold (value x) xs))
      | inr past ↦ found_later x xs b (found-reduced xs b (ap (reduce join) (sym (values-past x xs past)) ∙ is))
    ]
      where
        by : test x ≡ true → (fold join (value x) (values xs) ≡ value x) ⊎ IsFound xs (fold join (value x) (values xs))
            → IsFound (x ∷ xs) (fold join (value x) (values xs))
        by here (inl same) = found_first x xs _ here (sym same)
        by here (inr found) = found_later x xs _ found

module _ {A : Type 0} (test : A → Bool) where
  any-at : (xs : List A) (place : ℕ) (x : A) → slice_get xs place ≡ Some x → test x ≡ true → list_any test xs ≡ true
  any-at [] place x at passes = cc
  any-at (y ∷ ys) zero x at passes =
      let same : y ≡ x = cc in
      ap (λ b. b || list_any test ys) (ap test same ∙ passes)
  any-at (y ∷ ys) (suc place) x at passes = ap (λ b. test y || b) (any-at ys place x at passes) ∙ or_true (test y)
    where
      or_true : (b : Bool) → (b || true) ≡ true
      or_true true = refl
      or_true false = refl

  none-at : (xs : List A) → ((place : ℕ) (x : A) → slice_get xs place ≡ Some x → test x ≡ true → ⊥) → list_any test xs ≡ false
  none-at [] none = refl
  none-at (x ∷ xs) none =
      λ i. false_from_ne_true (test x) (none zero x refl) i || none-at xs (λ place y at. none (suc place) y at) i

-- ---- the greatest value

fold_max_ge : (n : ℕ) (ns : List ℕ) → n ≤ fold max n ns
fold_max_ge n [] = omega arith
fold_max_ge n (m ∷ ns) = omega (arith, fold_max_ge (max n m) ns)

reduced-from_0 : (ns : List ℕ) (n : ℕ) → reduce max ns ≡ Some n → fold max 0 ns ≡ n
reduced-from_0 [] n is = cc
reduced-from_0 (m ∷ ms) n is =
    let first : max 0 m ≡ m = omega arith in
    let same : fold max m ms ≡ n = cc in
    ap (λ k. fold max k ms) first ∙ same

greatest-at : {A : Type 0} (test : A → Bool) (value : A → ℕ) (n : ℕ) (xs : List A) (place : ℕ) (x : A) → slice_get xs place ≡ Some x → test x ≡ true
    → value x ≤ fold max n (map value (filter test xs))
greatest-at test value n [] place x at passes = cc
greatest-at test value n (y ∷ ys) zero x at passes =
    let same : y ≡ x = cc in
    omega (
      arith,
      ap (fold max n) (values-here test value y ys (ap test same ∙ passes)),
      fold_max_ge (max n (value y)) (map value (filter test ys)),
      ap value same,
    )
greatest-at test value n (y ∷ ys) (suc place) x at passes = elim (cases_Bool (test y)) [
  | inl here ↦
      omega (arith, ap (fold max n) (values-here test value y ys here), greatest-at test value (max n (value y)) ys place x at passes)
  | inr past ↦
      omega (arith, ap (fold max n) (values-past test value y ys past), greatest-at test value n ys place x at passes)
]

max_either : (a b : ℕ) → (max a b ≡ a) ⊎ (max a b ≡ b)
max_either a b = elim (cases_Bool (nat_le b a)) [
  | inl less ↦ inl (omega (arith, leb-true b a less))
  | inr more ↦ inr (omega (arith, leb-false b a more))
]

-- ---- what a cut leaves of a scalar

-- at least this amount of a value, if the limit on it is not lower
left-one : (limited : Bool) (limit least : ℕ) (v : Value) → (limited ≡ true → least ≤ limit)
    → min least (units_in v Thousandths) ≤ units_in (cut limited limit v) Thousandths
left-one true limit least (Scalar t) high = omega (arith, high refl)
left-one false limit least (Scalar t) high = omega arith
left-one limited limit least (Ranges a) high = omega arith
left-one limited limit least (Items a) high = omega arith

module _ (limits : List Entry) (label : Text) (least : ℕ) (high : is_named limits label ≡ true → least ≤ amount_of limits label) where
  left-unit : (r : Resource)
      → min least (unit_of (of_name label) Thousandths r) ≤ unit_of (of_name label) Thousandths (clipped limits r)
  left-unit r = elim (cases_Bool (same_text label r.label)) [
    | inl here ↦
        let name : label ≡ r.label = same_from_test label r.label here in
        let kept = left-one (is_default r.role && is_named limits r.label) (amount_of limits r.label) least r.value
        (λ both. subst (λ (n : Text). least ≤ amount_of limits n) name
        (high (ap (is_named limits) name ∙ (and_parts (is_default r.role) (is_named limits r.label) both).1))) in
        omega (arith, kept, unit-here (of_name label) Thousandths r here, unit-here (of_name label) Thousandths (clipped limits r) here)
    | inr past ↦ omega (arith, unit-none (of_name label) Thousandths r past)
  ]

  left-stock : (rs : List Resource) → min least (stock rs label Thousandths) ≤ stock (clip limits rs) label Thousandths
  left-stock [] = omega arith
  left-stock (r ∷ rs) =
      omega (
        arith,
        where-cons (of_name label) Thousandths r rs,
        where-changed-cons (clipped limits) (keeps-clipped limits) (of_name label) Thousandths r rs,
        left-unit r,
        left-stock rs,
      )

  left-amount : (rs : List Resource) → least ≤ amount_of (quantities_of rs) label → least ≤ amount_of (quantities_of (clip limits rs)) label
  left-amount rs enough =
      omega (arith, enough, amount-quantities_of rs label, amount-quantities_of (clip limits rs) label, left-stock rs)

-- ---- a headroom that cuts too much

-- if a scalar is enough for an offer, and what the limits leave of it is not, then its headroom is not enough
module _ (rows : Rows) (role : Path) (label : Text) where
  abbrev value : Text → ℕ
  value name = option_map_or (λ m. m) (headroom_at rows role name) 0

  names : list_any (λ n. same_text n label) (limited_names rows.limits role) ≡ is_some (headroom_at rows role label)
  names = limited-binds (consumption rows) role label rows.limits ∙ sym (some_room (consumption rows) role label rows.limits)

  named : is_named (headroom rows role) label ≡ is_some (headroom_at rows role label)
  named = named-puts value label [] (limited_names rows.limits role) ∙ names

  cut_to : (n : ℕ) → headroom_at rows role label ≡ Some n → amount_of (headroom rows role) label ≡ n
  cut_to n is =
      (named_put value label [] (limited_names rows.limits role) (names ∙ ap is_some is)).1
      ∙ ap (λ (o : Option ℕ). option_map_or (λ m. m) o 0) is

  little_room : (least : ℕ) (part : List Resource) → least ≤ amount_of (quantities_of part) label
      → amount_of (quantities_of (clip (headroom rows role) part)) label < least
      → (n : ℕ) × (headroom_at rows role label ≡ Some n) × (n < least)
  little_room least part enough little = by (headroom_at rows role label) refl
    where
      by : (o : Option ℕ) → headroom_at rows role label ≡ o → (n : ℕ) × (headroom_at rows role label ≡ Some n) × (n < least)
      by None is =
          let unnamed : is_named (headroom rows role) label ≡ false = named ∙ ap is_some is in
          let left = left-amount (headroom rows role) label least (λ its. absurd (false≢true (sym unnamed ∙ its))) part enough in
          absurd (omega (arith, left, little))
      by (Some n) is = elim (cases_Bool (nat_lt n least)) [
        | inl less ↦ (n, is, ltb-true n least less)
        | inr more ↦
            let left = left-amount (headroom rows role) label least (λ its. omega (arith, cut_to n is, ltb-false n least more)) part enough in
            absurd (omega (arith, left, little))
      ]

-- ---- the tightest limit

module _ (room : LimitRow → ℕ) where
  tighter_either : (a b : LimitRow) → (tighter room a b ≡ a) ⊎ (tighter room a b ≡ b)
  tighter_either a b = elim (cases_Bool (nat_lt (room b) (room a))) [
    | inl less ↦ inr (ap (λ t. cond t b a) less)
    | inr more ↦ inl (ap (λ t. cond t b a) more)
  ]

  room-tighter : (a b : LimitRow) → room (tighter room a b) ≡ min (room a) (room b)
  room-tighter a b = elim (cases_Bool (nat_lt (room b) (room a))) [
    | inl less ↦ ap (λ t. room (cond t b a)) less ∙ omega (arith, ltb-true (room b) (room a) less)
    | inr more ↦ ap (λ t. room (cond t b a)) more ∙ omega (arith, ltb-false (room b) (room a) more)
  ]

  room-fold : (l : LimitRow) (ls : List LimitRow) → room (fold (tighter room) l ls) ≡ fold min (room l) (map room ls)
  room-fold l [] = refl
  room-fold l (m ∷ ms) = room-fold (tighter room l m) ms ∙ ap (λ n. fold min n (map room ms)) (room-tighter l m)

  room-reduced : (ls : List LimitRow) (l : LimitRow) → reduce (tighter room) ls ≡ Some l → reduce min (map room ls) ≡ Some (room l)
  room-reduced [] l is = cc
  room-reduced (m ∷ ms) l is =
      let same : fold (tighter room) m ms ≡ l = cc in
      ap (λ n. Some n) (sym (room-fold m ms) ∙ ap room same)

  room-none : (ls : List LimitRow) → reduce (tighter room) ls ≡ None → reduce min (map room ls) ≡ None
  room-none [] is = refl
  room-none (m ∷ ms) is = cc

module _ (rows : Rows) (client : Client) (label : Text) (least : ℕ) where
  abbrev room : LimitRow → ℕ
  room = room_under (consumption rows) label

  abbrev found_limit : Option LimitRow
  found_limit = tightest rows.limits (consumption rows) client.role label

  cut_by : (l : LimitRow) → found_limit ≡ Some l → room l < least → IsCutBelow rows client l.role label least
  cut_by l is less =
      let test : LimitRow → Bool = binds client.role label in
      let found : IsFound test (λ (m : LimitRow). m) rows.limits l = found-reduced test (λ m. m) (tighter room) (tighter_either room) rows.limits l
      (ap (reduce (tighter room)) (same_values (filter test rows.limits)) ∙ is) in
      let head : headroom_at rows client.role label ≡ Some (room l) = room-reduced room (filter test rows.limits) l is in
      record {
        place = found.place;
        row = l;
        stands = found.stands ∙ ap (λ (m : LimitRow). Some m) found.valued;
        role = refl;
        binding = sym (ap test found.valued) ∙ found.passes;
        little = less;
        cut = head;
        tightest = λ other m at binding.
            let least_of = headroom_le (consumption rows) client.role label rows.limits other m at binding in
            let whole : ◌≡◌ {A = Option ℕ} (Some (room l)) (Some least_of.0) = sym head ∙ least_of.1 in
            let same : room l ≡ least_of.0 = cc in
            omega (arith, same, least_of.2);
      }

  -- the limit of the role that the outcome names
  cut_below : (part : List Resource) → least ≤ amount_of (quantities_of part) label
      → amount_of (quantities_of (clip (headroom rows client.role) part)) label < least
      → IsCutBelow rows client (option_map_or (λ l. l.role) found_limit client.role) label least
  cut_below part enough little = by found_limit refl
    where
      by : (o : Option LimitRow) → found_limit ≡ o → IsCutBelow rows client (option_map_or (λ (l : LimitRow). l.role) o client.role) label least
      by None is =
          let head = little_room rows client.role label least part enough little in
          let none : headroom_at rows client.role label ≡ None = room-none room (filter (binds client.role label) rows.limits) is in
          cc
      by (Some l) is =
          let head = little_room rows client.role label least part enough little in
          let whole : ◌≡◌ {A = Option ℕ} (Some (room l)) (Some head.0) =
          sym (room-reduced room (filter (binds client.role label) rows.limits) l is) ∙ head.1 in
          let same : room l ≡ head.0 = cc in
          cut_by l is (omega (arith, same, head.2))

-- ---- no resource is for the role

each_for_others : (client : Client) (rs : List Resource) → is_empty (part_for client.role rs) ≡ true → AllByRecursion (IsForOthers client) rs
each_for_others client [] none = tt
each_for_others client (r ∷ rs) none = elim (cases_Bool (is_for client.role r)) [
  | inl for_it ↦
      let some : is_empty (part_for client.role (r ∷ rs)) ≡ false =
      ap (λ (b : Bool). is_empty (cond b (r ∷ part_for client.role rs) (part_for client.role rs))) for_it in
      absurd (false≢true (sym some ∙ none))
  | inr not_for_it ↦
      let parts = or_parts (is_default r.role) (begins_with client.role r.role) not_for_it in
      let later : is_empty (part_for client.role rs) ≡ true =
      sym (ap (λ (b : Bool). is_empty (cond b (r ∷ part_for client.role rs) (part_for client.role rs))) not_for_it) ∙ none in
      (record { reserved = parts.0; apart = parts.1 }, each_for_others client rs later)
]

-- ---- a client is tried

module _ (rows : Rows) (agent : AgentRow) (client : Client) where
  abbrev free : List Resource
  free = free_of rows agent

  abbrev part : List Resource
  part = usable rows agent client

  abbrev may : List Resource
  may = entitled rows agent client

  abbrev end : Option ℕ
  end = held_until rows.filters rows.clock client agent.name may

  abbrev limiting : Path
  limiting = limiting_role rows.limits (consumption rows) client.role part

  pub granted : (bundle : List Resource) → (outcome rows agent client ≡ Grant bundle) ↔ (grant rows agent client ≡ Some bundle)
  granted bundle =
      subst (λ (held : Bool). (outcome rows agent client ≡ Grant bundle) ↔ ((if is_allocatable may && not held then Some may else None) ≡ Some bundle))
      (sym (held_back-until rows.filters rows.clock client agent.name may))
      (granted_by (is_allocatable may) end may (is_allocatable part) (is_empty free) (is_empty part) limiting bundle)

  -- ---- held back

  abbrev holds_at : ℕ → FilterRow → Bool
  holds_at clock f = holds_back clock client agent.name may f

  -- the test of `holds_back` without the clock
  abbrev is_against : FilterRow → Bool
  is_against f = is_of_client client f && (is_on_agent agent.name f && covers f.bundle may)

  grant-at : (at : ℕ) (held : Bool) → is_allocatable may ≡ true → is_held_back rows.filters (max rows.clock at) client agent.name may ≡ held
      → grant (at_timestamp rows at) agent client ≡ cond (not held) (Some may) None
  unfolding free_of
  grant-at at held worth is = λ i. if worth i && not (is i) then Some may else None

  -- a filter that covers a bundle does so until it ends
  still : (at : ℕ) (f : FilterRow) → at < f.until → holds_at rows.clock f ≡ true → holds_at (max rows.clock at) f ≡ true
  still at f early holds =
      let parts = and_parts (is_in_force rows.clock f) (is_against f) holds in
      let begun : rows.clock < f.until = ltb-true rows.clock f.until parts.0 in
      and_from (is_in_force (max rows.clock at) f) (is_against f) (lt-ltb (max rows.clock at) f.until (omega arith)) parts.1

  -- a filter that covers a bundle at a timestamp ends later, and covers it now
  sooner : (at : ℕ) (f : FilterRow) → holds_at (max rows.clock at) f ≡ true → (at < f.until) × (holds_at rows.clock f ≡ true)
  sooner at f holds =
      let parts = and_parts (is_in_force (max rows.clock at) f) (is_against f) holds in
      let early : max rows.clock at < f.until = ltb-true (max rows.clock at) f.until parts.0 in
      (omega arith, and_from (is_in_force rows.clock f) (is_against f) (lt-ltb rows.clock f.until (omega arith)) parts.1)

  held-until : (until : ℕ) → is_allocatable may ≡ true → end ≡ Some until → IsHeldUntil rows agent client until
  held-until until worth is =
      let found = found-reduced (holds_at rows.clock) (λ f. f.until) max max_either rows.filters until is in
      let greatest : fold max 0 (map (λ (f : FilterRow). f.until) (filter (holds_at rows.clock) rows.filters)) ≡ until = reduced-from_0 _ until is in
      let last : (other : ℕ) (f : FilterRow) → slice_get rows.filters other ≡ Some f → holds_at rows.clock f ≡ true → f.until ≤ until =
      λ other f at holds. omega (arith, greatest, greatest-at (holds_at rows.clock) (λ f. f.until) 0 rows.filters other f at holds) in
      record {
        worth = worth;
        place = found.place;
        row = found.item;
        stands = found.stands;
        holds = found.passes;
        ends = found.valued;
        last = last;
        before = λ at early.
            grant-at at true worth
            (any-at (holds_at (max rows.clock at)) rows.filters found.place found.item found.stands
            (still at found.item (omega (arith, found.valued, early)) found.passes));
        after = λ at late.
            grant-at at false worth
            (none-at (holds_at (max rows.clock at)) rows.filters
            (λ place f stands holds.
            let before = sooner at f holds in
            omega (arith, late, before.0, last place f stands before.1)));
      }

  pub held_back : (until : ℕ) → outcome rows agent client ≡ HeldBack until → IsHeldUntil rows agent client until
  held_back until is =
      let decided = held_by (is_allocatable may) end may (is_allocatable part) (is_empty free) (is_empty part) limiting until is in
      held-until until decided.0 decided.1

  -- ---- over a limit

  limiting-by : (b : Bool) → nat_le 10 (usable_amount rows agent client (codes "cpus")) ≡ b
      → option_map_or (λ (l : LimitRow). l.role) (tightest rows.limits (consumption rows) client.role (if b then codes "cpus" else codes "mem")) client.role ≡ limiting
  limiting-by b known =
      sym (ap (λ (c : Bool). option_map_or (λ (l : LimitRow). l.role)
      (tightest rows.limits (consumption rows) client.role (if c then codes "cpus" else codes "mem")) client.role) known)

  module _ (little : is_allocatable may ≡ false) where
    short : (amount_of (quantities_of may) (codes "cpus") < 10) × (amount_of (quantities_of may) (codes "mem") < 32000)
    short =
        let cpus : ℕ = amount_of (quantities_of may) (codes "cpus") in
        let mem : ℕ = amount_of (quantities_of may) (codes "mem") in
        let parts = or_parts (nat_le 10 cpus) (nat_le 32000 mem) little in
        (leb-false 10 cpus parts.0, leb-false 32000 mem parts.1)

    cut_cpus : 10 ≤ usable_amount rows agent client (codes "cpus") → IsCutBelow rows client limiting (codes "cpus") 10
    cut_cpus enough =
        subst (λ (role : Path). IsCutBelow rows client role (codes "cpus") 10)
        (limiting-by true (le-leb 10 (usable_amount rows agent client (codes "cpus")) enough))
        (cut_below rows client (codes "cpus") 10 part enough short.0)

    cut_mem : is_allocatable part ≡ true → usable_amount rows agent client (codes "cpus") < 10 → IsCutBelow rows client limiting (codes "mem") 32000
    cut_mem worth few =
        let cpus : ℕ = usable_amount rows agent client (codes "cpus") in
        let mem : ℕ = usable_amount rows agent client (codes "mem") in
        let not_cpus : nat_le 10 cpus ≡ false = false_from_ne_true (nat_le 10 cpus) (λ enough. omega (arith, few, leb-true 10 cpus enough)) in
        let enough : nat_le 32000 mem ≡ true = sym (ap (λ b. b || nat_le 32000 mem) not_cpus) ∙ worth in
        subst (λ (role : Path). IsCutBelow rows client role (codes "mem") 32000) (limiting-by false not_cpus)
        (cut_below rows client (codes "mem") 32000 part (leb-true 32000 mem enough) short.1)

  pub over_limit : (limited : Path) → outcome rows agent client ≡ OverLimit limited → IsOverLimit rows agent client limited
  over_limit limited is =
      let decided = limited_by (is_allocatable may) end may (is_allocatable part) (is_empty free) (is_empty part) limiting limited is in
      subst (IsOverLimit rows agent client) decided.2
      (record { worth = decided.1; little = decided.0; cpus = cut_cpus decided.0; mem = cut_mem decided.0 decided.1 })

  -- ---- too little, nothing, and reserved

  pub below_threshold : outcome rows agent client ≡ BelowThreshold → IsTooLittle rows agent client
  below_threshold is =
      let decided = little_by (is_allocatable may) end may (is_allocatable part) (is_empty free) (is_empty part) limiting is in
      record { some = decided.1; little = decided.0 }

  nothing-is : is_empty free ≡ true → outcome rows agent client ≡ NothingLeft
  nothing-is none =
      let little = nothing_free free none in
      rw (little_entitlement rows free client little) (rw (little_part client.role free little) (rw none refl))

  pub nothing_left : (outcome rows agent client ≡ NothingLeft) ↔ (is_empty (free_of rows agent) ≡ true)
  nothing_left = (gone_by (is_allocatable may) end may (is_allocatable part) (is_empty free) (is_empty part) limiting, nothing-is)

  pub reserved : outcome rows agent client ≡ ReservedForOthers → IsReserved rows agent client
  reserved is =
      let decided = reserved_by (is_allocatable may) end may (is_allocatable part) (is_empty free) (is_empty part) limiting is in
      record { some = decided.0; others = each_for_others client free decided.1 }

-- ---- an outcome that explanations do not have

tried-otherwise : (rows : Rows) (agent : AgentRow) (client : Client) → is_allocatable (free_of rows agent) ≡ true
    → IsOtherwise (Tried agent.name (path_of client) (outcome rows agent client))
tried-otherwise rows agent client worth = λ name path is.
    let reported : outcome rows agent client ≡ NothingLeft = cc in
    false≢true (sym (nothing_free (free_of rows agent) ((nothing_left rows agent client).0 reported)) ∙ worth)

all-otherwise : (rows : Rows) (agent : AgentRow) (clients : List Client) → AllByRecursion IsOtherwise (reported_of_all rows agent clients)
all-otherwise rows agent [] = tt
all-otherwise rows agent (client ∷ clients) = elim (cases_Bool (is_allocatable (free_of rows agent))) [
  | inl worth ↦ rw worth (tried-otherwise rows agent client worth, all-otherwise (tried rows agent client) agent clients)
  | inr little ↦ rw little (λ name path is. cc, tt)
]

agent-otherwise : (rows : Rows) (agent : AgentRow) → AllByRecursion IsOtherwise (reported_of_agent rows agent)
agent-otherwise rows agent = by agent.active (is_empty (free_of rows agent))
  where
    by : (active none : Bool) → AllByRecursion IsOtherwise
        (cond active (cond none (NothingFree agent.name ∷ []) (reported_of_all rows agent (turn_order rows))) (Inactive agent.name ∷ []))
    by true true = (λ name path is. cc, tt)
    by true false = all-otherwise rows agent (turn_order rows)
    by false none = (λ name path is. cc, tt)

agents-otherwise : (rows : Rows) (agents : List AgentRow) → AllByRecursion IsOtherwise (reported_of_agents rows agents)
agents-otherwise rows [] = tt
agents-otherwise rows (agent ∷ agents) =
    each_append IsOtherwise (reported_of_agent rows agent) (reported_of_agents (after_agent rows agent) agents) (agent-otherwise rows agent)
    (agents-otherwise (after_agent rows agent) agents)

clients-otherwise : (f : FrameworkRow) (cs : List ClientRow) → AllByRecursion IsOtherwise (flat_map (reported_if_suppressed f) cs)
clients-otherwise f [] = tt
clients-otherwise f (c ∷ cs) = elim (cases_Bool c.suppressed) [
  | inl here ↦ rw here (λ name path is. cc, clients-otherwise f cs)
  | inr past ↦ rw past (clients-otherwise f cs)
]

suppressed-otherwise : (fs : List FrameworkRow) → AllByRecursion IsOtherwise (flat_map suppressed_in fs)
suppressed-otherwise [] = tt
suppressed-otherwise (f ∷ fs) =
    each_append IsOtherwise (suppressed_in f) (flat_map suppressed_in fs) (clients-otherwise f f.clients) (suppressed-otherwise fs)

pub nothing_left_is_not_explained : NothingLeftIsNotExplained
unfolding explained
nothing_left_is_not_explained rows at =
    each_append IsOtherwise (suppressed_of rows) (reported_of_agents (at_timestamp rows at) rows.agents) (suppressed-otherwise rows.frameworks)
    (agents-otherwise (at_timestamp rows at) rows.agents)
