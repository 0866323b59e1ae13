-- What roles consume, after a change of one row.
use Rattle.std.specs.Prelude.{◌≡◌, ℕ, ◌+◌, ◌<◌, ◌≤◌, ◌^◌, Bool, true, false, List, [], ◌∷◌, Option, Some, None, Result, Ok, Err, OnOk, OnErr}
use Rattle.std.specs.List.{IsDistinct, AllByRecursion}
use Rattle.std.specs.Map.{lookup, keys_of, set_value, remove_entry}
use Rattle.std.specs.Option.{option_map_or}
use Rattle.std.proofs.Common.{refl, sym, ap, subst, ◌∙◌, inl, inr, cond, arith}
use Rattle.std.proofs.lemmas.Bool.{cases_Bool}
use Rattle.std.proofs.lemmas.List.{append-nil}
use Rattle.std.proofs.lemmas.List.Sorted.{sum_by-IsPermutation}
use Rattle.std.proofs.lemmas.List.Sums.{sum_by-cons}
use Rattle.std.proofs.lemmas.Map.Keys.{IsDistinct-head, IsDistinct-tail}
use Rattle.std.proofs.lemmas.Slice.Eq.{starts_is}
use Rattle.std.specs.Cmp.Lexicographic.{bytes_decides}
use Rattle.indexmap.specs.IndexMap.{insert_entry, swap_remove_entry}
use Rattle.drf_role.specs.Text.{Text, same_text}
use Rattle.drf_role.specs.TextLaws.{same_from_test}
use Rattle.drf_role.specs.Path.{Path, same_path}
use Rattle.drf_role.specs.PathLaws.{same_path-true, same_path_itself}
use Rattle.drf_role.specs.Role.{IsRole}
use Rattle.drf_bundle.specs.Quantities.{amount_of}
use Rattle.drf_bundle.specs.declared.quantities.Entry.{Entry}
use Rattle.drf_rows.specs.Quota.{is_within}
use Rattle.drf_gates.specs.quota.Allowance.{Usage, AreRaised, IsBounded, counted, one_entry, used_where, used_by, used_at, row_of}
use Rattle.drf_gates.proofs.quota.Swapped.{swapped}

-- the first row and the others
used-cons : (test : Path → Bool) (u : Usage) (us : List Usage) (label : Text)
    → used_where test (u ∷ us) label ≡ counted test u.0 u.1 label + used_where test us label
used-cons test u us label = sum_by-cons (λ (v : Usage). counted test v.0 v.1 label) u us

-- a row's amounts are at most what its role consumes
pub row_le : (us : List Usage) (role : Path) (label : Text) → amount_of (row_of us role) label ≤ used_by us role label
row_le [] role label = omega arith
row_le (u ∷ us) role label = by (same_path role u.0) (row_le us role label) (used-cons (same_path role) u us label)
  where
    by : (b : Bool)
        → amount_of (row_of us role) label ≤ used_by us role label
        → used_by (u ∷ us) role label ≡ cond b (amount_of u.1 label) 0 + used_by us role label
        → amount_of (option_map_or (λ amounts. amounts) (cond b (Some u.1) (lookup (same_path role) us)) []) label ≤ used_by (u ∷ us) role label
    by true more whole = omega (arith, whole)
    by false more whole = omega (arith, whole, more)

none_used : (us : List Usage) (role : Path) (label : Text) → AllByRecursion (λ y. same_path role y ≡ false) (keys_of us)
    → used_by us role label ≡ 0
none_used [] role label none = refl
none_used (u ∷ us) role label none =
    let here : counted (same_path role) u.0 u.1 label ≡ 0 = ap (λ b. cond b (amount_of u.1 label) 0) none.0 in
    omega (arith, used-cons (same_path role) u us label, here, none_used us role label none.1)

pub row_is : (us : List Usage) (role : Path) (label : Text) (row : List Entry) → IsDistinct same_path (keys_of us)
    → lookup (same_path role) us ≡ Some row → used_by us role label ≡ amount_of row label
row_is [] role label row apart found = cc
row_is (u ∷ us) role label row apart found = elim (cases_Bool (same_path role u.0)) [
  | inl here ↦
      let same : u.0 ≡ role = sym (same_path-true role u.0 here) in
      let none = subst (λ (r : Path). AllByRecursion (λ y. same_path r y ≡ false) (keys_of us)) same
      (IsDistinct-head same_path u.0 (keys_of us) apart) in
      let first : counted (same_path role) u.0 u.1 label ≡ amount_of u.1 label = ap (λ b. cond b (amount_of u.1 label) 0) here in
      let got : ◌≡◌ {A = Option (List Entry)} (Some u.1) (Some row) = ap (λ b. cond b (Some u.1) (lookup (same_path role) us)) (sym here) ∙ found in
      let its : u.1 ≡ row = cc in
      omega (arith, used-cons (same_path role) u us label, first, none_used us role label none, ap (λ (q : List Entry). amount_of q label) its)
  | inr past ↦
      let first : counted (same_path role) u.0 u.1 label ≡ 0 = ap (λ b. cond b (amount_of u.1 label) 0) past in
      let later = ap (λ b. cond b (Some u.1) (lookup (same_path role) us)) (sym past) ∙ found in
      omega (arith, used-cons (same_path role) u us label, first, row_is us role label row (IsDistinct-tail same_path u.0 (keys_of us) apart) later)
]

pub unknown_used : (us : List Usage) (role : Path) (label : Text) → lookup (same_path role) us ≡ None → used_by us role label ≡ 0
unknown_used [] role label none = refl
unknown_used (u ∷ us) role label none = elim (cases_Bool (same_path role u.0)) [
  | inl here ↦
      let got : ◌≡◌ {A = Option (List Entry)} (Some u.1) None = ap (λ b. cond b (Some u.1) (lookup (same_path role) us)) (sym here) ∙ none in
      cc
  | inr past ↦
      let first : counted (same_path role) u.0 u.1 label ≡ 0 = ap (λ b. cond b (amount_of u.1 label) 0) past in
      let later = ap (λ b. cond b (Some u.1) (lookup (same_path role) us)) (sym past) ∙ none in
      omega (arith, used-cons (same_path role) u us label, first, unknown_used us role label later)
]

nothing : (b : Bool) → ◌≡◌ {A = ℕ} (cond b 0 0) 0
nothing true = refl
nothing false = refl

-- what is added to a row is added to its role
counted-plus : (b : Bool) (sum had more : ℕ) → sum ≡ had + more → cond b sum 0 ≡ cond b had 0 + cond b more 0
counted-plus true sum had more is = is
counted-plus false sum had more is = refl

pub put_raises : (us : List Usage) (role : Path) (sum amounts : List Entry)
    → ((label : Text) → amount_of sum label ≡ amount_of (row_of us role) label + amount_of amounts label)
    → AreRaised us (insert_entry same_path us role sum) role amounts
put_raises [] role sum amounts is = λ test label.
    omega (
      arith,
      used-cons test (role, sum) [] label,
      counted-plus (test role) (amount_of sum label) 0 (amount_of amounts label) (is label),
      nothing (test role),
    )
put_raises (u ∷ us) role sum amounts is =
    by (same_path role u.0) (λ same. same_path-true role u.0 same) is (put_raises us role sum amounts)
  where
    by : (b : Bool) → (b ≡ true → role ≡ u.0)
        → ((label : Text) → amount_of sum label
        ≡ amount_of (option_map_or (λ amounts. amounts) (cond b (Some u.1) (lookup (same_path role) us)) []) label + amount_of amounts label)
        → (((label : Text) → amount_of sum label ≡ amount_of (row_of us role) label + amount_of amounts label)
        → AreRaised us (insert_entry same_path us role sum) role amounts)
        → AreRaised (u ∷ us) (cond b ((u.0, sum) ∷ us) (u ∷ insert_entry same_path us role sum)) role amounts
    by true same is more = λ test label.
        let its : counted test role amounts label ≡ counted test u.0 amounts label = ap (λ (r : Path). counted test r amounts label) (same refl) in
        omega (
          arith,
          used-cons test (u.0, sum) us label,
          used-cons test u us label,
          counted-plus (test u.0) (amount_of sum label) (amount_of u.1 label) (amount_of amounts label) (is label),
          its,
        )
    by false same is more = λ test label.
        omega (arith, used-cons test u (insert_entry same_path us role sum) label, used-cons test u us label, more is test label)

-- if the role has a row, inserting sets the amounts of this row
pub put_is_set : (us : List Usage) (role : Path) (row sum : List Entry) → lookup (same_path role) us ≡ Some row
    → insert_entry same_path us role sum ≡ set_value (same_path role) us sum
put_is_set [] role row sum found = cc
put_is_set (u ∷ us) role row sum found = elim (cases_Bool (same_path role u.0)) [
  | inl here ↦ rw here refl
  | inr past ↦
      let later = ap (λ b. cond b (Some u.1) (lookup (same_path role) us)) (sym past) ∙ found in
      rw past (ap (λ (rest : List Usage). u ∷ rest) (put_is_set us role row sum later))
]

-- the same after the row is set
pub set_raises : (us : List Usage) (role : Path) (row sum amounts : List Entry)
    → lookup (same_path role) us ≡ Some row
    → ((label : Text) → amount_of sum label ≡ amount_of row label + amount_of amounts label)
    → AreRaised us (set_value (same_path role) us sum) role amounts
set_raises us role row sum amounts found is = λ test label.
    let own : row ≡ row_of us role = ap (λ (o : Option (List Entry)). option_map_or (λ q. q) o []) (sym found) in
    ap (λ (vs : List Usage). used_where test vs label) (sym (put_is_set us role row sum found))
    ∙ put_raises us role sum amounts (λ n. is n ∙ ap (λ (q : List Entry). amount_of q n + amount_of amounts n) own) test label

-- what is subtracted from a row is subtracted from its role
pub set_lowers : (us : List Usage) (role : Path) (row left amounts : List Entry)
    → lookup (same_path role) us ≡ Some row
    → ((label : Text) → amount_of left label + amount_of amounts label ≡ amount_of row label)
    → AreRaised (set_value (same_path role) us left) us role amounts
set_lowers [] role row left amounts found is = cc
set_lowers (u ∷ us) role row left amounts found is =
    by (same_path role u.0) (λ same. same_path-true role u.0 same) found (λ later. set_lowers us role row left amounts later is)
  where
    by : (b : Bool) → (b ≡ true → role ≡ u.0)
        → cond b (Some u.1) (lookup (same_path role) us) ≡ Some row
        → (lookup (same_path role) us ≡ Some row → AreRaised (set_value (same_path role) us left) us role amounts)
        → AreRaised (cond b ((u.0, left) ∷ us) (u ∷ set_value (same_path role) us left)) (u ∷ us) role amounts
    by true same found more = λ test label.
        let its : counted test role amounts label ≡ counted test u.0 amounts label = ap (λ (r : Path). counted test r amounts label) (same refl) in
        let one : u.1 ≡ row = cc in
        let sum : amount_of u.1 label ≡ amount_of left label + amount_of amounts label = ap (λ (q : List Entry). amount_of q label) one ∙ sym (is label) in
        omega (
          arith,
          used-cons test (u.0, left) us label,
          used-cons test u us label,
          counted-plus (test u.0) (amount_of u.1 label) (amount_of left label) (amount_of amounts label) sum,
          its,
        )
    by false same found more = λ test label.
        omega (arith, used-cons test u (set_value (same_path role) us left) label, used-cons test u us label, more found test label)

-- a value that was set is found
pub found_set : (us : List Usage) (role : Path) (row left : List Entry) → lookup (same_path role) us ≡ Some row
    → lookup (same_path role) (set_value (same_path role) us left) ≡ Some left
found_set [] role row left found = cc
found_set (u ∷ us) role row left found = elim (cases_Bool (same_path role u.0)) [
  | inl here ↦ rw (here, here) refl
  | inr past ↦
      let later = ap (λ b. cond b (Some u.1) (lookup (same_path role) us)) (sym past) ∙ found in
      rw (past, past) (found_set us role row left later)
]

-- an empty row can be removed
empty_leaves : (us : List Usage) (role : Path) → lookup (same_path role) us ≡ Some []
    → (test : Path → Bool) (label : Text) → used_where test (remove_entry (same_path role) us) label ≡ used_where test us label
empty_leaves [] role found = λ test label. refl
empty_leaves (u ∷ us) role found = by (same_path role u.0) found (empty_leaves us role)
  where
    by : (b : Bool) → cond b (Some u.1) (lookup (same_path role) us) ≡ Some []
        → (lookup (same_path role) us ≡ Some []
        → (test : Path → Bool) (label : Text) → used_where test (remove_entry (same_path role) us) label ≡ used_where test us label)
        → (test : Path → Bool) (label : Text)
        → used_where test (cond b us (u ∷ remove_entry (same_path role) us)) label ≡ used_where test (u ∷ us) label
    by true found more = λ test label.
        let none : u.1 ≡ [] = cc in
        let here : counted test u.0 u.1 label ≡ 0 = ap (λ (q : List Entry). counted test u.0 q label) none ∙ nothing (test u.0) in
        omega (arith, used-cons test u us label, here)
    by false found more = λ test label.
        omega (arith, used-cons test u us label, used-cons test u (remove_entry (same_path role) us) label, more found test label)

-- amounts are subtracted, and the row, which is empty then, is removed
pub removed_lowers : (us : List Usage) (role : Path) (row left amounts : List Entry)
    → lookup (same_path role) us ≡ Some row
    → ((label : Text) → amount_of left label + amount_of amounts label ≡ amount_of row label)
    → left ≡ []
    → AreRaised (swap_remove_entry (same_path role) (set_value (same_path role) us left)) us role amounts
removed_lowers us role row left amounts found is empty = λ test label.
    let mid : List Usage = set_value (same_path role) us left in
    let gone = empty_leaves mid role (found_set us role row left found ∙ ap (λ (q : List Entry). Some q) empty) test label in
    let moved : used_where test (swap_remove_entry (same_path role) mid) label ≡ used_where test (remove_entry (same_path role) mid) label =
    sum_by-IsPermutation (λ (u : Usage). counted test u.0 u.1 label) _ _ (swapped (same_path role) mid) in
    omega (arith, moved, gone, set_lowers us role row left amounts found is test label)

-- nothing can be subtracted from a role that consumes nothing
pub none_lowers : (us : List Usage) (role : Path) (amounts : List Entry) → lookup (same_path role) us ≡ None
    → ((label : Text) → amount_of amounts label ≤ used_by us role label) → AreRaised us us role amounts
none_lowers us role amounts none fits = λ test label.
    let zero : amount_of amounts label ≡ 0 = omega (arith, fits label, unknown_used us role label none) in
    let here : counted test role amounts label ≡ 0 = ap (λ n. cond (test role) n 0) zero ∙ nothing (test role) in
    omega (arith, here)

-- an amount of one label is at most what a role consumes, if it is at most what the role consumes of this label
pub one_fits : (us : List Usage) (role : Path) (label : Text) (amount : ℕ) → amount ≤ used_by us role label
    → (other : Text) → amount_of (one_entry label amount) other ≤ used_by us role other
one_fits us role label amount fits other = elim (cases_Bool (same_text label other)) [
  | inl here ↦
      let most : amount ≤ used_by us role other = subst (λ (n : Text). amount ≤ used_by us role n) (same_from_test label other here) fits in
      omega (arith, most, ap (λ b. cond b amount 0) here)
  | inr past ↦ omega (arith, ap (λ b. cond b amount 0) past)
]

-- a role counts as within itself
pub within_itself : (role : Path) → is_within role role ≡ true
within_itself role = (starts_is bytes_decides role role (is_within role role) refl).1 [] (sym (append-nil role))

-- a role by itself consumes at most what it and the roles below it consume
pub used_by_le : (us : List Usage) (role : Path) (label : Text) → used_by us role label ≤ used_at us role label
used_by_le [] role label = omega arith
used_by_le (u ∷ us) role label =
    omega (
      arith,
      used-cons (same_path role) u us label,
      used-cons (is_within role) u us label,
      used_by_le us role label,
      by (same_path role u.0) (λ same. subst (λ (r : Path). is_within role r ≡ true) (same_path-true role u.0 same) (within_itself role)),
    )
  where
    by : (b : Bool) → (b ≡ true → is_within role u.0 ≡ true) → cond b (amount_of u.1 label) 0 ≤ counted (is_within role) u.0 u.1 label
    by true is = omega (arith, ap (λ b. cond b (amount_of u.1 label) 0) (is refl))
    by false is = omega arith

-- if a role consumes less, all sums stay below 2^64
pub bounded-lowered : (old new : List Usage) (role : Path) (amounts : List Entry) → AreRaised new old role amounts → IsBounded old → IsBounded new
bounded-lowered old new role amounts raised bounded = record {
  below = λ outer label right. omega (arith, raised (is_within outer) label, bounded.below outer label right);
}

-- if no sum overflows with what is added, all sums are below 2^64 afterwards
pub bounded-raised : {T E : Type 0} (r : Result T E) (old new : List Usage) (role : Path) (amounts : List Entry)
    → OnOk r (AreRaised old new role amounts) → OnErr r (new ≡ old) → IsBounded old
    → ((outer : Path) (label : Text) → IsRole outer → is_within outer role ≡ true → used_at old outer label + amount_of amounts label < 2 ^ 64)
    → IsBounded new
bounded-raised (Err e) old new role amounts ok same bounded fits = subst IsBounded (sym same) bounded
bounded-raised (Ok x) old new role amounts raised err bounded fits = record { below = below }
  where
    below : (outer : Path) (label : Text) → IsRole outer → used_at new outer label < 2 ^ 64
    below outer label right = elim (cases_Bool (is_within outer role)) [
      | inl within ↦
          let more : counted (is_within outer) role amounts label ≡ amount_of amounts label = ap (λ b. cond b (amount_of amounts label) 0) within in
          omega (arith, raised (is_within outer) label, more, fits outer label right within)
      | inr past ↦
          let none : counted (is_within outer) role amounts label ≡ 0 = ap (λ b. cond b (amount_of amounts label) 0) past in
          omega (arith, raised (is_within outer) label, none, bounded.below outer label right)
    ]

-- ---- copying rows one by one

module _ (whole copy rest : List Usage) (role : Path) (amounts : List Entry) where
  -- the rows that were copied and those that remain are all rows
  abbrev AreParts : List Usage → List Usage → Type 0
  AreParts here there = (test : Path → Bool) (label : Text) → used_where test here label + used_where test there label ≡ used_where test whole label

  pub copy_fits : AreParts copy ((role, amounts) ∷ rest) → IsBounded whole → IsRole role
      → (label : Text) → used_by copy role label + amount_of amounts label < 2 ^ 64
  copy_fits parts bounded right label =
      let here : counted (same_path role) role amounts label ≡ amount_of amounts label =
      ap (λ b. cond b (amount_of amounts label) 0) (same_path_itself role) in
      omega (
        arith,
        parts (same_path role) label,
        used-cons (same_path role) (role, amounts) rest label,
        here,
        used_by_le whole role label,
        bounded.below role label right,
      )

  pub copy_more : (new : List Usage) → AreParts copy ((role, amounts) ∷ rest) → AreRaised copy new role amounts → AreParts new rest
  copy_more new parts raised = λ test label.
      omega (arith, parts test label, raised test label, used-cons test (role, amounts) rest label)
