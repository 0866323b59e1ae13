-- Reading the written form of a value gives that value.
use Rattle.std.proofs.Common.{◌≡◌, ℕ, ◌+◌, ◌-◌, ◌^◌, ◌<◌, ◌≤◌, Bool, true, false, eqb, List, [], ◌∷◌, ◌++◌, length, map, All, decimal, refl, sym, ap, subst, ◌∙◌, arith, length-append, nat_le, nat_lt}
use Rattle.std.proofs.lemmas.Bool.{and_from, or_left, or_right, eq-eqb, le-leb, lt-ltb}
use Rattle.std.proofs.lemmas.List.Elements.{All-head, All-tail, All-nil, All-cons, All-append, All-map, All-weaker}
use Rattle.std.proofs.lemmas.List.Splits.{length-slice_split, slice_split_none, slice_split_at}
use Rattle.std.proofs.lemmas.List.Sums.{list_all-from_AllPass}
use Rattle.std.specs.Char.{is_ascii_digit}
use Rattle.std.specs.FinSet as set
use Rattle.std.specs.List.{list_all, list_any, join_with_byte, flat_map, range_with_len}
use Rattle.std.specs.Ordering.{nat_cmp, eq_by_cmp, is_eq}
use Rattle.std.specs.Cmp.Lexicographic.{nat_list_cmp_total}
use Rattle.std.specs.Str.Parse.{digits_value}
use Rattle.drf_role.specs.Name.{IsLabel}
use Rattle.drf_text.proofs.Names.{Text, is_blank, trimmed, is_label_byte, is_label, is_amount_byte, amount_has_none, HasNone, none_of, not_that, label_has_none, digits_of, parts_inside, low_of, high_of, has_one_dash, is_end, is_range, numbers_of, value_of, amount_text, interval_text, intervals_text, ranges_text, items_text, value_text}
use Rattle.drf_role.specs.TextLaws.{cmp_itself}
use Rattle.drf_kinds.specs.Intervals.{AreMaximal, AreMaximalFrom, numbers, members}
use Rattle.drf_kinds.specs.Names.{text_cmp, AreAscending}
use Rattle.drf_kinds.specs.declared.interval.Interval.{Interval}
use Rattle.drf_bundle.specs.Value.{IsGiven}
use Rattle.drf_bundle.specs.declared.value.Value.{Value}
use Rattle.drf_bundle.specs.declared.value.Value.TheVariants.{Scalar, Ranges, Items}
use Rattle.drf_kinds.specs.Listed.{listed, intervals_of}
use Rattle.drf_kinds.proofs.ListedLaws.{maximal-intervals_of, members-intervals_of, ascending-listed, from_list-listed}
use Rattle.drf_text.proofs.AmountText.{are_digits_of, value_of_digits, amount_read}
use Rattle.drf_text.proofs.CutLemmas.{not_blank, is_between, not_between, IsPart, trimmed_stays, before_at, after_at, ends_closed, parts_found, joined_has_none}
use Rattle.drf_text.proofs.PieceLemmas.{label_test, IsRightBody, begins_not}

-- the text is a body without errors, and has this value
pub record IsTextOf (value : Value) (text : Text) : Type 0 where
  pub body : IsRightBody text
  pub says : value_of text ≡ value
  pub whole : HasNone (is_between 59) text

-- ---- scalars

pub scalar_text : (amount : ℕ) → amount < 2 ^ 64 → IsTextOf (Scalar amount) (amount_text amount)
scalar_text amount small =
    let square = begins_not 91 (amount_text amount) refl (amount_has_none (λ b. eqb b 91) amount small (not_that is_amount_byte 91 refl)) in
    let curly = begins_not 123 (amount_text amount) refl (amount_has_none (λ b. eqb b 123) amount small (not_that is_amount_byte 123 refl)) in
    record {
      body = record {
        shape = rw (square, curly) refl;
        members = rw curly refl;
        numbers = rw (square, curly) (amount_read amount small).number;
      };
      says = rw (square, curly) (ap Scalar (amount_read amount small).value);
      whole = amount_has_none (is_between 59) amount small (not_between is_amount_byte 59 refl refl refl);
    }

-- ---- brackets

-- a text in brackets has no blank and no `;` if none of its parts has
bracketed : (o c : ℕ) (texts : List Text) → is_between 59 o ≡ false → is_between 59 c ≡ false → All (HasNone (is_between 59)) texts
    → HasNone (is_between 59) (o ∷ join_with_byte 44 texts ++ c ∷ [])
bracketed o c texts no_open no_close none =
    All-cons (λ b. is_between 59 b ≡ false) o (join_with_byte 44 texts ++ c ∷ []) no_open
    (All-append (λ b. is_between 59 b ≡ false) (join_with_byte 44 texts) (c ∷ []) (joined_has_none (is_between 59) 44 texts refl none)
    (All-cons (λ b. is_between 59 b ≡ false) c [] no_close (All-nil (λ b. is_between 59 b ≡ false))))

-- ---- ranges

digits_have_none : (p : ℕ → Bool) (n : ℕ) → n < 2 ^ 32 → ((b : ℕ) → is_ascii_digit b ≡ true → p b ≡ false) → HasNone p (decimal n)
digits_have_none p n small apart = none_of p is_ascii_digit (decimal n) apart (digits_of n (omega arith))

-- the ends of an interval are in order and below 2^32
record IsSpan (i : Interval) : Type 0 where
  pub up : i.first ≤ i.last
  pub small : i.last < 2 ^ 32

module _ (i : Interval) (is : IsSpan i) where
  first_small : i.first < 2 ^ 32
  first_small = omega (arith, is.up, is.small)

  no_dash : (n : ℕ) → n < 2 ^ 32 → HasNone (λ b. eqb b 45) (decimal n)
  no_dash n small = digits_have_none (λ b. eqb b 45) n small (not_that is_ascii_digit 45 refl)

  digits_stay : (n : ℕ) → n < 2 ^ 32 → trimmed (decimal n) ≡ decimal n
  digits_stay n small = trimmed_stays (decimal n) (digits_have_none is_blank n small (not_blank is_ascii_digit refl refl))

  low_found : low_of (interval_text i) ≡ decimal i.first
  low_found = ap trimmed (before_at (λ b. eqb b 45) (decimal i.first) 45 (decimal i.last) (no_dash i.first first_small) refl) ∙ digits_stay i.first first_small

  high_found : high_of (interval_text i) ≡ decimal i.last
  high_found = ap trimmed (after_at (λ b. eqb b 45) (decimal i.first) 45 (decimal i.last) (no_dash i.first first_small) refl) ∙ digits_stay i.last is.small

  low_value : digits_value 10 (low_of (interval_text i)) ≡ i.first
  low_value = ap (digits_value 10) low_found ∙ value_of_digits i.first (omega (arith, first_small))

  high_value : digits_value 10 (high_of (interval_text i)) ≡ i.last
  high_value = ap (digits_value 10) high_found ∙ value_of_digits i.last (omega (arith, is.small))

  end_found : (text : Text) (n : ℕ) → n < 2 ^ 32 → text ≡ decimal n → is_end text ≡ true
  end_found text n small same =
      ap is_end same
      ∙ and_from _ _ (are_digits_of n (omega arith)) (ap (λ v. nat_lt v (2 ^ 32)) (value_of_digits n (omega arith)) ∙ lt-ltb n (2 ^ 32) small)

  one_dash : has_one_dash (interval_text i) ≡ true
  one_dash =
      let parts = slice_split_at (λ b. eqb b 45) (decimal i.first) 45 (decimal i.last) (no_dash i.first first_small) refl
      ∙ ap (λ (ts : List Text). decimal i.first ∷ ts) (slice_split_none (λ b. eqb b 45) (decimal i.last) (no_dash i.last is.small)) in
      eq-eqb _ 1 (omega (arith, length-slice_split (λ b. eqb b 45) (interval_text i), ap length parts))

  range_found : is_range (interval_text i) ≡ true
  range_found =
      and_from _ _
      (and_from _ _ (end_found (low_of (interval_text i)) i.first first_small low_found) (end_found (high_of (interval_text i)) i.last is.small high_found))
      ((λ j. nat_le (low_value j) (high_value j)) ∙ le-leb i.first i.last is.up)

  numbers_found : numbers_of (interval_text i) ≡ numbers i
  numbers_found = λ j. range_with_len (low_value j) (high_value j + 1 - low_value j)

  interval_has_none : (mark : ℕ) → is_ascii_digit mark ≡ false → eqb 45 mark ≡ false → HasNone (is_between mark) (interval_text i)
  interval_has_none mark out dash =
      let digits = not_between is_ascii_digit mark refl refl out in
      All-append (λ b. is_between mark b ≡ false) (decimal i.first) (45 ∷ decimal i.last) (digits_have_none (is_between mark) i.first first_small digits)
      (All-cons (λ b. is_between mark b ≡ false) 45 (decimal i.last) dash (digits_have_none (is_between mark) i.last is.small digits))

  interval_part : IsPart 44 (interval_text i)
  interval_part = record {
    some = omega (arith, length-append (decimal i.first) (45 ∷ decimal i.last));
    whole = interval_has_none 44 refl refl;
  }

spans_of : (low : ℕ) (is : List Interval) → AreMaximalFrom low is → All IsSpan is
spans_of low [] maximal = All-nil IsSpan
spans_of low (i ∷ is) maximal = All-cons IsSpan i is (record { up = maximal.1; small = maximal.2 }) (spans_of (i.last + 2) is maximal.3)

all_numbers : (is : List Interval) → All IsSpan is → flat_map numbers_of (map interval_text is) ≡ flat_map numbers is
all_numbers [] spans = refl
all_numbers (i ∷ is) spans = λ j. numbers_found i (All-head IsSpan i is spans) j ++ all_numbers is (All-tail IsSpan i is spans) j

each_text : (P : Text → Type 0) (is : List Interval) → ((i : Interval) → IsSpan i → P (interval_text i)) → All IsSpan is
    → All P (map interval_text is)
each_text P is holds spans = All-map P interval_text is (All-weaker IsSpan (λ i. P (interval_text i)) holds is spans)

each_passes : (test : Text → Bool) (is : List Interval) → ((i : Interval) → IsSpan i → test (interval_text i) ≡ true) → All IsSpan is
    → list_all test (map interval_text is) ≡ true
each_passes test is passes spans =
    list_all-from_AllPass test (map interval_text is) (each_text (λ t. test t ≡ true) is passes spans)

-- the text is that of the maximal intervals of the set, in ascending order
record IsRangesText (numbers : set.FinSet nat_cmp) (text : Text) : Type 0 where
  pub intervals : List Interval
  pub maximal : AreMaximal intervals
  pub are_its : members intervals ≡ numbers
  pub written : text ≡ 91 ∷ intervals_text intervals ++ 93 ∷ []

ranges_found : (numbers : set.FinSet nat_cmp) (text : Text) → IsRangesText numbers text → IsTextOf (Ranges numbers) text
unfolding members
ranges_found numbers text is = subst (IsTextOf (Ranges numbers)) (sym is.written) (record {
  body = record {
    shape = and_from _ _ (ends_closed 93 (91 ∷ intervals_text is.intervals)) (ap (list_all has_one_dash) parts ∙ each_passes has_one_dash is.intervals one_dash spans);
    members = refl;
    numbers = ap (list_all is_range) parts ∙ each_passes is_range is.intervals range_found spans;
  };
  says =
      ap (λ (ts : List Text). Ranges (set.from_list (flat_map numbers_of ts))) parts
      ∙ ap (λ (ns : List ℕ). Ranges (set.from_list ns)) (all_numbers is.intervals spans)
      ∙ ap Ranges is.are_its;
  whole =
      bracketed 91 93 (map interval_text is.intervals) refl refl
      (each_text (HasNone (is_between 59)) is.intervals (λ i span. interval_has_none i span 59 refl refl) spans);
})
  where
    spans : All IsSpan is.intervals
    spans = spans_of 0 is.intervals is.maximal

    parts : parts_inside (91 ∷ intervals_text is.intervals ++ 93 ∷ []) ≡ map interval_text is.intervals
    parts = parts_found 91 93 (map interval_text is.intervals) (each_text (IsPart 44) is.intervals interval_part spans)

-- ---- sets of labels

-- an element of a set of names is a name
each_label : (names : List Text) → ((t : Text) → list_any (eq_by_cmp text_cmp t) names ≡ true → IsLabel t) → All IsLabel names
each_label [] found = All-nil IsLabel
each_label (x ∷ xs) found =
    All-cons IsLabel x xs (found x (or_left (eq_by_cmp text_cmp x x) (list_any (eq_by_cmp text_cmp x) xs) (ap is_eq (cmp_itself x))))
    (each_label xs (λ t later. found t (or_right (eq_by_cmp text_cmp t x) (list_any (eq_by_cmp text_cmp t) xs) later)))

labels_of : (labels : set.FinSet text_cmp) (names : List Text) → set.from_list names ≡ labels → IsGiven (Items labels) → All IsLabel names
labels_of labels names same given =
    each_label names (λ t found. given.each t (ap (λ (s : set.FinSet text_cmp). set.contains s t) (sym same) ∙ set.contains-from_list nat_list_cmp_total names t ∙ found))

label_part : (label : Text) → IsLabel label → IsPart 44 label
label_part label is = record { some = is.not_empty; whole = label_has_none (is_between 44) label is (not_between is_label_byte 44 refl refl refl) }

-- the text is that of the members of the set, in byte order
record IsItemsText (labels : set.FinSet text_cmp) (text : Text) : Type 0 where
  pub names : List Text
  pub ascending : AreAscending names
  pub are_its : set.from_list names ≡ labels
  pub written : text ≡ 123 ∷ join_with_byte 44 names ++ 125 ∷ []

items_found : (labels : set.FinSet text_cmp) (text : Text) → IsGiven (Items labels) → IsItemsText labels text → IsTextOf (Items labels) text
items_found labels text given is = subst (IsTextOf (Items labels)) (sym is.written) (record {
  body = record {
    shape = ends_closed 125 (123 ∷ join_with_byte 44 is.names);
    members = ap (list_all is_label) parts ∙ list_all-from_AllPass is_label is.names (All-weaker IsLabel (λ name. is_label name ≡ true) label_test is.names each);
    numbers = refl;
  };
  says = ap (λ (ts : List Text). Items (set.from_list ts)) parts ∙ ap Items is.are_its;
  whole =
      bracketed 123 125 is.names refl refl
      (All-weaker IsLabel (HasNone (is_between 59)) (λ name label. label_has_none (is_between 59) name label (not_between is_label_byte 59 refl refl refl)) is.names each);
})
  where
    each : All IsLabel is.names
    each = labels_of labels is.names is.are_its given

    parts : parts_inside (123 ∷ join_with_byte 44 is.names ++ 125 ∷ []) ≡ is.names
    parts = parts_found 123 125 is.names (All-weaker IsLabel (IsPart 44) label_part is.names each)

-- ---- values

pub value_found : (value : Value) → IsGiven value → IsTextOf value (value_text value)
value_found (Scalar thousandths) given = scalar_text thousandths given
value_found (Ranges numbers) given =
    ranges_found numbers (ranges_text numbers) (record {
      intervals = intervals_of numbers;
      maximal = maximal-intervals_of numbers given;
      are_its = members-intervals_of numbers given;
      written = refl;
    })
value_found (Items labels) given =
    items_found labels (items_text labels) given (record {
      names = listed labels;
      ascending = ascending-listed text_cmp nat_list_cmp_total (set.slice_cmp-IsAntisymmetric set.nat_cmp-IsAntisymmetric) labels;
      are_its = from_list-listed text_cmp nat_list_cmp_total (set.slice_cmp-IsAntisymmetric set.nat_cmp-IsAntisymmetric) labels;
      written = refl;
    })
