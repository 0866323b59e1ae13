-- What limits leave of each scalar that they name.
use Rattle.std.specs.Prelude.{◌≡◌, ◌≢◌, ℕ, ◌+◌, ◌-◌, ◌<◌, ◌≤◌, ◌⊎◌, min, Bool, true, false, ◌&&◌, ◌||◌, List, [], ◌∷◌, map, filter, fold, length, drop, Option, Some, None, is_some, IsTrue}
use Rattle.std.specs.List.{list_any, flat_map, reduce}
use Rattle.std.specs.Option.{option_map_or}
use Rattle.std.proofs.Common.{refl, sym, ap, subst, ◌∙◌, inl, inr, cond, get_or}
use Rattle.std.proofs.lemmas.Bool.{and_parts, and_from}
use Rattle.std.proofs.lemmas.List.{drop_all}
use Rattle.std.proofs.lemmas.List.Folds.{list_any-append}
use Rattle.drf_role.specs.Text.{Text, same_text, text_below}
use Rattle.drf_role.specs.TextLaws.{cases_cmp, same_itself, same_from_test, same_from_cmp, below_from_cmp, above_from_cmp}
use Rattle.drf_role.proofs.TextLaws.{cases_same, above_other}
use Rattle.drf_role.specs.Path.{Path}
use Rattle.drf_bundle.specs.Quantities.{amount_of, is_in_order, is_named, known_amount, names_of, with_amount}
use Rattle.drf_bundle.proofs.theorems.QuantitiesLaws.{stands_first, first_trans, amount-with, in_order-with, named-with}
use Rattle.drf_bundle.specs.declared.quantities.Entry.{Entry}
use Rattle.drf_rows.specs.Quota.{Consumed, is_within, binds, room_under, headroom_under, headrooms, limited_names}
use Rattle.drf_rows.specs.declared.rows.LimitRow.{LimitRow}
use Rattle.drf_gates.specs.quota.Allowance.{lesser, lessened, limit_row}
use Rattle.drf_gates.proofs.quota.Resources.{next_of}

-- ---- known amounts

-- the known amounts after one is set
pub known-with : (es : List Entry) (name : Text) (a : ℕ) (label : Text)
    → known_amount (with_amount es name a) label ≡ cond (same_text name label) (Some a) (known_amount es label)
known-with es name a label =
    (λ i. cond (named-with es name a label i) (Some (amount-with es name a label i)) None) ∙ by (same_text name label)
  where
    by : (b : Bool) → ◌≡◌ {A = Option ℕ} (cond (b || is_named es label) (Some (cond b a (amount_of es label))) None) (cond b (Some a) (known_amount es label))
    by true = refl
    by false = refl

named_first : (label : Text) (es : List Entry) → IsTrue (stands_first label es) → is_named es label ≡ false
named_first label [] first = refl
named_first label (e ∷ es) first =
    let parts = and_parts (text_below label e.label) (stands_first label es) first in
    ap (λ b. b || is_named es label) (above_other label e.label parts.0) ∙ named_first label es parts.1

unknown_first : (label : Text) (es : List Entry) → IsTrue (stands_first label es) → known_amount es label ≡ None
unknown_first label es first = ap (λ b. cond b (Some (amount_of es label)) None) (named_first label es first)

known_head : (e : Entry) (es : List Entry) → known_amount (e ∷ es) e.label ≡ Some e.amount
known_head e es = λ i. cond (same_itself e.label i || is_named es e.label) (Some (cond (same_itself e.label i) e.amount (amount_of es e.label))) None

known_other : (e : Entry) (es : List Entry) (label : Text) → same_text e.label label ≡ false → known_amount (e ∷ es) label ≡ known_amount es label
known_other e es label other = λ i. cond (other i || is_named es label) (Some (cond (other i) e.amount (amount_of es label))) None

-- a label that comes before all others of a list is not in it, so the two lists do not know the same labels
apart : (e : Entry) (es fs : List Entry) → IsTrue (stands_first e.label fs) → ((label : Text) → known_amount (e ∷ es) label ≡ known_amount fs label) → ⊥
apart e es fs first same =
    let some : ◌≡◌ {A = Option ℕ} (Some e.amount) None = sym (known_head e es) ∙ same e.label ∙ unknown_first e.label fs first in
    cc

-- two lists in order with the same known amounts are equal
pub same_known : (a b : List Entry) → IsTrue (is_in_order a) → IsTrue (is_in_order b)
    → ((label : Text) → known_amount a label ≡ known_amount b label) → a ≡ b
same_known [] [] first second same = refl
same_known [] (f ∷ fs) first second same = absurd (apart f fs [] refl (λ label. sym (same label)))
same_known (e ∷ es) [] first second same = absurd (apart e es [] refl same)
same_known (e ∷ es) (f ∷ fs) first second same =
    let order_e = and_parts (stands_first e.label es) (is_in_order es) first in
    let order_f = and_parts (stands_first f.label fs) (is_in_order fs) second in
    elim (cases_cmp e.label f.label) [
      | inl less ↦
          let below = below_from_cmp e.label f.label less in
          absurd (apart e es (f ∷ fs) (and_from _ _ below (first_trans e.label f.label fs below order_f.0)) same)
      | inr (inl equal) ↦
          let name : e.label ≡ f.label = same_from_cmp e.label f.label equal in
          let known : ◌≡◌ {A = Option ℕ} (Some e.amount) (Some f.amount) =
          sym (known_head e es) ∙ same e.label ∙ ap (known_amount (f ∷ fs)) name ∙ known_head f fs in
          let amount : e.amount ≡ f.amount = cc in
          let tails = same_known es fs order_e.1 order_f.1 (λ label. elim (cases_same e.label label) [
            | inl here ↦
                let its : e.label ≡ label = here.1 in
                unknown_first label es (subst (λ (n : Text). IsTrue (stands_first n es)) its order_e.0)
                ∙ sym (unknown_first label fs (subst (λ (n : Text). IsTrue (stands_first n fs)) (sym name ∙ its) order_f.0))
            | inr other ↦
                sym (known_other e es label other.0) ∙ same label
                ∙ known_other f fs label (subst (λ (n : Text). same_text n label ≡ false) name other.0)
          ]) in
          λ i. record { label = name i; amount = amount i } ∷ tails i
      | inr (inr greater) ↦
          let above = above_from_cmp e.label f.label greater in
          absurd (apart f fs (e ∷ es) (and_from _ _ above (first_trans f.label e.label es above order_e.0)) (λ label. sym (same label)))
    ]

-- ---- setting amounts that are a function of their labels

abbrev has_name : List Text → Text → Bool
has_name names label = list_any (λ n. same_text n label) names

named_names : (es : List Entry) (label : Text) → is_named es label ≡ has_name (names_of es) label
named_names [] label = refl
named_names (e ∷ es) label = ap (λ b. same_text e.label label || b) (named_names es label)

module _ (value : Text → ℕ) where
  abbrev put_value : List Entry → Text → List Entry
  put_value room name = with_amount room name (value name)

  in_order_values : (names : List Text) (room : List Entry) → IsTrue (is_in_order room) → IsTrue (is_in_order (fold put_value room names))
  in_order_values [] room ordered = ordered
  in_order_values (n ∷ ns) room ordered = in_order_values ns (put_value room n) (in_order-with room n (value n) ordered)

  known_values : (names : List Text) (room : List Entry) (label : Text)
      → known_amount (fold put_value room names) label ≡ cond (has_name names label) (Some (value label)) (known_amount room label)
  known_values [] room label = refl
  known_values (n ∷ ns) room label =
      known_values ns (put_value room n) label
      ∙ ap (λ o. cond (has_name ns label) (Some (value label)) o) (known-with room n (value n) label)
      ∙ by (same_text n label) refl
    where
      by : (b : Bool) → same_text n label ≡ b
          → ◌≡◌ {A = Option ℕ} (cond (has_name ns label) (Some (value label)) (cond b (Some (value n)) (known_amount room label)))
          (cond (b || has_name ns label) (Some (value label)) (known_amount room label))
      by true here =
          ap (λ (m : Text). cond (has_name ns label) (Some (value label)) (Some (value m))) (same_from_test n label here)
          ∙ either (has_name ns label)
        where
          either : (b : Bool) → ◌≡◌ {A = Option ℕ} (cond b (Some (value label)) (Some (value label))) (Some (value label))
          either true = refl
          either false = refl
      by false past = refl

-- ---- the headrooms

module _ (consumed : Consumed) (role : Path) where
  -- a label is among those that limits name if a limit on it binds the role
  named_bound : (limits : List LimitRow) (label : Text)
      → has_name (limited_names limits role) label ≡ is_some (headroom_under limits consumed role label)
  named_bound [] label = refl
  named_bound (l ∷ ls) label = by (is_within l.role role) (is_named l.limit label) (sym (named_names l.limit label)) (named_bound ls label)
    where
      by : (within named : Bool) → has_name (names_of l.limit) label ≡ named
          → has_name (limited_names ls role) label ≡ is_some (reduce min (map (room_under consumed label) (filter (binds role label) ls)))
          → has_name (flat_map (λ (m : LimitRow). names_of m.limit) (cond within (l ∷ filter (λ m. is_within m.role role) ls) (filter (λ m. is_within m.role role) ls))) label
          ≡ is_some (reduce min (map (room_under consumed label) (cond (within && named) (l ∷ filter (binds role label) ls) (filter (binds role label) ls))))
      by true true here more =
          list_any-append (λ n. same_text n label) (names_of l.limit) (limited_names ls role) ∙ ap (λ b. b || has_name (limited_names ls role) label) here
      by true false past more =
          list_any-append (λ n. same_text n label) (names_of l.limit) (limited_names ls role) ∙ ap (λ b. b || has_name (limited_names ls role) label) past ∙ more
      by false named is more = more

  pub known_headrooms : (limits : List LimitRow) (label : Text)
      → known_amount (headrooms limits consumed role) label ≡ headroom_under limits consumed role label
  known_headrooms limits label =
      known_values (λ n. option_map_or (λ m. m) (headroom_under limits consumed role n) 0) (limited_names limits role) [] label
      ∙ ap (λ b. cond b (Some (option_map_or (λ m. m) (headroom_under limits consumed role label) 0)) None) (named_bound limits label)
      ∙ its (headroom_under limits consumed role label)
    where
      its : (o : Option ℕ) → cond (is_some o) (Some (option_map_or (λ m. m) o 0)) None ≡ o
      its None = refl
      its (Some n) = refl

  -- amounts are the headrooms if they are what the limits leave
  pub headrooms_are : (limits : List LimitRow) (room : List Entry) → IsTrue (is_in_order room)
      → ((label : Text) → known_amount room label ≡ headroom_under limits consumed role label)
      → room ≡ headrooms limits consumed role
  headrooms_are limits room ordered known =
      same_known room (headrooms limits consumed role) ordered
      (in_order_values (λ n. option_map_or (λ m. m) (headroom_under limits consumed role n) 0) (limited_names limits role) [] refl)
      (λ label. known label ∙ sym (known_headrooms limits label))

-- ---- the scalars of one limit

module _ (consumed : Consumed) (limited : Path) where
  -- the known amounts, after the remaining entries of a limit are taken into account, is the result
  pub record IsLessening (limit first room left : List Entry) : Type 0 where
    pub in_order : IsTrue (is_in_order left)
    pub known : (label : Text)
        → lessened consumed (limit_row (limited, left)) (known_amount room label) label
        ≡ lessened consumed (limit_row (limited, limit)) (known_amount first label) label

  pub lessening_start : (limit left room : List Entry) → left ≡ limit → IsTrue (is_in_order limit) → IsLessening limit room room left
  lessening_start limit left room same ordered = record {
    in_order = subst (λ (es : List Entry). IsTrue (is_in_order es)) (sym same) ordered;
    known = λ label. (λ i. lessened consumed (limit_row (limited, same i)) (known_amount room label) label);
  }

  lessened_first : (room : List Entry) (e : Entry) (es : List Entry) → IsTrue (is_in_order (e ∷ es)) → (label : Text)
      → lessened consumed (limit_row (limited, es))
      (known_amount (with_amount room e.label (lesser (known_amount room e.label) (e.amount - consumed limited e.label))) label) label
      ≡ lessened consumed (limit_row (limited, e ∷ es)) (known_amount room label) label
  lessened_first room e es ordered label =
      ap (λ o. lessened consumed (limit_row (limited, es)) o label)
      (known-with room e.label (lesser (known_amount room e.label) (e.amount - consumed limited e.label)) label)
      ∙ by (cases_same e.label label)
    where
      by : (IsTrue (same_text e.label label) × (e.label ≡ label)) ⊎ ((same_text e.label label ≡ false) × (e.label ≢ label))
          → lessened consumed (limit_row (limited, es)) (cond (same_text e.label label) (Some (lesser (known_amount room e.label) (e.amount - consumed limited e.label))) (known_amount room label)) label
          ≡ lessened consumed (limit_row (limited, e ∷ es)) (known_amount room label) label
      by (inl here) =
          let parts = and_parts (stands_first e.label es) (is_in_order es) ordered in
          let gone : is_named es label ≡ false = subst (λ (n : Text). is_named es n ≡ false) here.1 (named_first e.label es parts.0) in
          (λ i. cond (gone i) (Some (lesser (cond (here.0 i) (Some (lesser (known_amount room e.label) (e.amount - consumed limited e.label))) (known_amount room label)) (amount_of es label - consumed limited label)))
          (cond (here.0 i) (Some (lesser (known_amount room e.label) (e.amount - consumed limited e.label))) (known_amount room label)))
          ∙ ap (λ (n : Text). Some (lesser (known_amount room n) (e.amount - consumed limited n))) here.1
          ∙ (λ i. cond (sym here.0 i || is_named es label)
          (Some (lesser (known_amount room label) (cond (sym here.0 i) e.amount (amount_of es label) - consumed limited label))) (known_amount room label))
      by (inr other) =
          (λ i. lessened consumed (limit_row (limited, es)) (cond (other.0 i) (Some (lesser (known_amount room e.label) (e.amount - consumed limited e.label))) (known_amount room label)) label)
          ∙ (λ i. cond (sym other.0 i || is_named es label)
          (Some (lesser (known_amount room label) (cond (sym other.0 i) e.amount (amount_of es label) - consumed limited label))) (known_amount room label))

  pub lessening_more : (limit first room es : List Entry) (i : ℕ) (e : Entry) (new : List Entry) → i < length es → e ≡ get_or es i e
      → IsLessening limit first room (drop i es)
      → new ≡ with_amount room e.label (lesser (known_amount room e.label) (e.amount - consumed limited e.label))
      → IsLessening limit first new (drop (i + 1) es)
  lessening_more limit first room es i e new in_range read lessening set =
      let split : IsLessening limit first room (e ∷ drop (i + 1) es) =
      subst (λ (left : List Entry). IsLessening limit first room left) (next_of es i e in_range read) lessening in
      let parts = and_parts (stands_first e.label (drop (i + 1) es)) (is_in_order (drop (i + 1) es)) split.in_order in
      record {
        in_order = parts.1;
        known = λ label. ap (λ (q : List Entry). lessened consumed (limit_row (limited, drop (i + 1) es)) (known_amount q label) label) set
            ∙ lessened_first room e (drop (i + 1) es) split.in_order label
            ∙ split.known label;
      }

  pub lessening_end : (limit first room es : List Entry) (i : ℕ) → length es ≤ i → IsLessening limit first room (drop i es)
      → (label : Text) → known_amount room label ≡ lessened consumed (limit_row (limited, limit)) (known_amount first label) label
  lessening_end limit first room es i end lessening label =
      (λ k. lessened consumed (limit_row (limited, sym (drop_all i es end) k)) (known_amount room label) label) ∙ lessening.known label
