-- Whether the numbers of items and members are in range, item by item.
use Rattle.std.proofs.Common.{◌≡◌, ℕ, ◌+◌, ◌<◌, true, false, Bool, ◌&&◌, List, [], ◌∷◌, ◌++◌, drop, get_or, length, Bor, refl, sym, ap, ◌∙◌}
use Rattle.std.proofs.lemmas.Bool.{and_parts, and_from}
use Rattle.std.proofs.lemmas.List.{at_drop_more}
use Rattle.json.specs.Value.{value_view, items_view, members_view}
use Rattle.json.specs.declared.value.Value.{Value}
use Rattle.drf_lines.specs.LineValue.{is_in_range, items_in_range, members_in_range}

module _ {A : Type 0} (all : List (Value A)) (i : ℕ) (x : Value A) (inside : i < length all) (is : x ≡ get_or all i x)
    (so_far : items_in_range (items_view (drop i all)) ≡ items_in_range (items_view all)) where
  item_first : (b : Bool) → is_in_range (value_view x) ≡ b → (b && items_in_range (items_view (drop (i + 1) all))) ≡ items_in_range (items_view all)
  item_first b e =
      ap (λ b. b && items_in_range (items_view (drop (i + 1) all))) (sym e)
      ∙ ap (λ (v : Value A). is_in_range (value_view v) && items_in_range (items_view (drop (i + 1) all))) is
      ∙ sym (at_drop_more (λ (left : List (Value A)). items_in_range (items_view left)) all i x inside)
      ∙ so_far

  pub item_out : is_in_range (value_view x) ≡ false → false ≡ items_in_range (items_view all)
  item_out e = item_first false e

  pub item_in : is_in_range (value_view x) ≡ true → items_in_range (items_view (drop (i + 1) all)) ≡ items_in_range (items_view all)
  item_in e = item_first true e

module _ {A : Type 0} (all : List (Bor (List ℕ) × Value A)) (i : ℕ) (x : Bor (List ℕ) × Value A) (inside : i < length all) (is : x ≡ get_or all i x)
    (so_far : members_in_range (members_view (drop i all)) ≡ members_in_range (members_view all)) where
  member_first : (b : Bool) → is_in_range (value_view x.1) ≡ b → (b && members_in_range (members_view (drop (i + 1) all))) ≡ members_in_range (members_view all)
  member_first b e =
      ap (λ b. b && members_in_range (members_view (drop (i + 1) all))) (sym e)
      ∙ ap (λ (m : Bor (List ℕ) × Value A). is_in_range (value_view m.1) && members_in_range (members_view (drop (i + 1) all))) is
      ∙ sym (at_drop_more (λ (left : List (Bor (List ℕ) × Value A)). members_in_range (members_view left)) all i x inside)
      ∙ so_far

  pub member_out : is_in_range (value_view x.1) ≡ false → false ≡ members_in_range (members_view all)
  member_out e = member_first false e

  pub member_in : is_in_range (value_view x.1) ≡ true → members_in_range (members_view (drop (i + 1) all)) ≡ members_in_range (members_view all)
  member_in e = member_first true e

-- ---- one more after those so far

pub items_one_more : {A : Type 0} (vs : List (Value A)) (v : Value A) → items_in_range (items_view vs) ≡ true → is_in_range (value_view v) ≡ true → items_in_range (items_view (vs ++ v ∷ [])) ≡ true
items_one_more [] v so_far is = and_from (is_in_range (value_view v)) true is refl
items_one_more (x ∷ xs) v so_far is =
    let parts = and_parts (is_in_range (value_view x)) (items_in_range (items_view xs)) so_far in
    and_from (is_in_range (value_view x)) _ parts.0 (items_one_more xs v parts.1 is)

pub members_one_more : {A : Type 0} (ms : List (Bor (List ℕ) × Value A)) (m : Bor (List ℕ) × Value A) → members_in_range (members_view ms) ≡ true → is_in_range (value_view m.1) ≡ true → members_in_range (members_view (ms ++ m ∷ [])) ≡ true
members_one_more [] m so_far is = and_from (is_in_range (value_view m.1)) true is refl
members_one_more (x ∷ xs) m so_far is =
    let parts = and_parts (is_in_range (value_view x.1)) (members_in_range (members_view xs)) so_far in
    and_from (is_in_range (value_view x.1)) _ parts.0 (members_one_more xs m parts.1 is)
