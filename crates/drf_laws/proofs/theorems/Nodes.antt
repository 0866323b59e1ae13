-- A sorted list of paths is determined by its members.
use Rattle.std.specs.Prelude.{◌≡◌, Bool, true, false, ◌||◌, List, [], ◌∷◌}
use Rattle.std.specs.List.{list_all, list_any}
use Rattle.std.specs.Ordering.{nat_cmp, is_lt, is_eq, ordering_reverse}
use Rattle.std.specs.Cmp.Lexicographic.{slice_cmp, lists_total, lists_ties, texts_ties, nat_list_cmp_total}
use Rattle.std.specs.declared.cmp.Ordering.{Ordering}
use Rattle.std.specs.declared.cmp.Ordering.TheVariants.{Less, Equal, Greater}
use Rattle.std.proofs.Common.{refl, sym, ap, ◌∙◌, inl, inr}
use Rattle.std.proofs.lemmas.Bool.{cases_Bool, and_from, and_parts, false≢true}
use Rattle.drf_role.specs.TextLaws.{less_from_test}
use Rattle.drf_role.specs.Path.{Path, same_path}
use Rattle.drf_role.specs.PathLaws.{same_path-true, same_path_itself}
use Rattle.drf_row_laws.specs.Laws.{are_in_order}
use Rattle.drf_rows.specs.Report.{path_cmp}

abbrev is_below : Path → Path → Bool
is_below a b = is_lt (path_cmp a b)

through : (a b c : Path) → is_below a b ≡ true → is_below b c ≡ true → is_below a c ≡ true
through a b c first second =
    ap is_lt ((lists_total nat_list_cmp_total).trans a b c (less_from_test (path_cmp a b) first) (less_from_test (path_cmp b c) second))

not_first : (a b : Path) (ps : List Path) → is_below a b ≡ true → list_all (is_below b) ps ≡ true → list_all (is_below a) ps ≡ true
not_first a b [] first all = refl
not_first a b (p ∷ ps) first all =
    let parts = and_parts (is_below b p) (list_all (is_below b) ps) all in
    and_from (is_below a p) (list_all (is_below a) ps) (through a b p first parts.0) (not_first a b ps first parts.1)

same_as_tie : (a b : Path) → same_path a b ≡ is_eq (path_cmp a b)
same_as_tie a b = lists_ties (slice_cmp nat_cmp) texts_ties a b

apart : (a b : Path) → is_below a b ≡ true → same_path a b ≡ false
apart a b below = same_as_tie a b ∙ ap is_eq (less_from_test (path_cmp a b) below)

-- a path that is less than all members is not a member
none_of : (a : Path) (ps : List Path) → list_all (is_below a) ps ≡ true → list_any (same_path a) ps ≡ false
none_of a [] all = refl
none_of a (p ∷ ps) all =
    let parts = and_parts (is_below a p) (list_all (is_below a) ps) all in
    λ i. apart a p parts.0 i || none_of a ps parts.1 i

abbrev SameMembers : List Path → List Path → Type 0
SameMembers ps qs = (node : Path) → list_any (same_path node) ps ≡ list_any (same_path node) qs

has_itself : (p : Path) (ps : List Path) → list_any (same_path p) (p ∷ ps) ≡ true
has_itself p ps = ap (λ (b : Bool). b || list_any (same_path p) ps) (same_path_itself p)

same_rest : (p q : Path) (ps qs : List Path) → p ≡ q → list_all (is_below p) ps ≡ true → list_all (is_below q) qs ≡ true
    → SameMembers (p ∷ ps) (q ∷ qs) → SameMembers ps qs
same_rest p q ps qs head first second same node = elim (cases_Bool (same_path node p)) [
  | inl here ↦
      let is : node ≡ p = same_path-true node p here in
      ap (λ (n : Path). list_any (same_path n) ps) is ∙ none_of p ps first
      ∙ sym (ap (λ (n : Path). list_any (same_path n) qs) (is ∙ head) ∙ none_of q qs second)
  | inr other ↦
      let also : same_path node q ≡ false = ap (same_path node) (sym head) ∙ other in
      sym (ap (λ (b : Bool). b || list_any (same_path node) ps) other) ∙ same node
      ∙ ap (λ (b : Bool). b || list_any (same_path node) qs) also
]

pub same_in_order : (ps qs : List Path) → are_in_order ps ≡ true → are_in_order qs ≡ true → SameMembers ps qs → ps ≡ qs
same_in_order [] [] first second same = refl
same_in_order [] (q ∷ qs) first second same = absurd (false≢true (same q ∙ has_itself q qs))
same_in_order (p ∷ ps) [] first second same = absurd (false≢true (sym (same p) ∙ has_itself p ps))
same_in_order (p ∷ ps) (q ∷ qs) first second same = by (path_cmp p q) refl (same_in_order ps qs)
  where
    left : (list_all (is_below p) ps ≡ true) × (are_in_order ps ≡ true)
    left = and_parts (list_all (is_below p) ps) (are_in_order ps) first

    right : (list_all (is_below q) qs ≡ true) × (are_in_order qs ≡ true)
    right = and_parts (list_all (is_below q) qs) (are_in_order qs) second

    by : (o : Ordering) → path_cmp p q ≡ o
        → (are_in_order ps ≡ true → are_in_order qs ≡ true → SameMembers ps qs → ps ≡ qs) → p ∷ ps ≡ q ∷ qs
    by Less is later =
        let below : is_below p q ≡ true = ap is_lt is in
        absurd (false≢true (sym (none_of p (q ∷ qs) (and_from (is_below p q) (list_all (is_below p) qs) below
        (not_first p q qs below right.0))) ∙ sym (same p) ∙ has_itself p ps))
    by Equal is later =
        let head : p ≡ q = same_path-true p q (same_as_tie p q ∙ ap is_eq is) in
        let rest = later left.1 right.1 (same_rest p q ps qs head left.0 right.0 same) in
        λ i. head i ∷ rest i
    by Greater is later =
        let below : is_below q p ≡ true = ap is_lt ((lists_total nat_list_cmp_total).antisymm q p ∙ ap ordering_reverse is) in
        absurd (false≢true (sym (none_of q (p ∷ ps) (and_from (is_below q p) (list_all (is_below q) ps) below
        (not_first q p ps below left.0))) ∙ same q ∙ has_itself q qs))
