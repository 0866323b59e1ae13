-- Elements that differ from all elements after them, by their names, their roles or their numbers.
use Rattle.std.specs.Prelude.{◌≡◌, ℕ, Bool, true, false, not, ◌&&◌, List, [], ◌∷◌, ◌++◌, map, nat_lt}
use Rattle.std.specs.List.{list_all, list_any}
use Rattle.std.proofs.Common.{refl, sym, ap, ◌∙◌, inl, inr}
use Rattle.std.proofs.lemmas.Bool.{cases_Bool, and_parts, and_from, not-true}
use Rattle.std.proofs.lemmas.List.Folds.{list_all-append, list_all-map}
use Rattle.drf_role.specs.Text.{Text, same_text}
use Rattle.drf_role.specs.Path.{Path, same_path}
use Rattle.drf_rows.specs.Consistent.{are_distinct, are_distinct_roles, are_distinct_tasks, are_rising}
use Rattle.drf_rows.specs.Releases.{is_task}
use Rattle.drf_row_laws.proofs.ReleaseLaws.{is_task-swap}
use Rattle.drf_rows.specs.declared.rows.OfferRow.{OfferRow}
use Rattle.drf_rows.specs.declared.rows.TaskRow.{TaskRow}

-- each element passes a test with every element after it
abbrev pub are_apart : {X : Type 0} → (X → X → Bool) → List X → Bool
are_apart test [] = true
are_apart test (x ∷ xs) = list_all (test x) xs && are_apart test xs

both_twice : (a b c d : Bool) → ((a && (b && true)) && (c && d)) ≡ ((a && c) && (b && d))
both_twice true true true d = refl
both_twice true true false d = refl
both_twice true false true d = refl
both_twice true false false d = refl
both_twice false b c d = refl

-- one more element at the end
apart_last : {X : Type 0} (test : X → X → Bool) (xs : List X) (x : X)
    → are_apart test (xs ++ x ∷ []) ≡ (are_apart test xs && list_all (λ y. test y x) xs)
apart_last test [] x = refl
apart_last test (y ∷ ys) x =
    (λ i. list_all-append (test y) ys (x ∷ []) i && apart_last test ys x i)
    ∙ both_twice (list_all (test y) ys) (test y x) (are_apart test ys) (list_all (λ z. test z x) ys)

-- the elements before an element differ from it
apart_before : {X : Type 0} (test : X → X → Bool) (before after : List X) (x : X)
    → are_apart test (before ++ x ∷ after) ≡ true → list_all (λ y. test y x) before ≡ true
apart_before test [] after x apart = refl
apart_before test (y ∷ ys) after x apart =
    let parts = and_parts (list_all (test y) (ys ++ x ∷ after)) (are_apart test (ys ++ x ∷ after)) apart in
    let first = and_parts (list_all (test y) ys) (test y x && list_all (test y) after)
    (sym (list_all-append (test y) ys (x ∷ after)) ∙ parts.0) in
    and_from (test y x) (list_all (λ z. test z x) ys) (and_parts (test y x) (list_all (test y) after) first.1).0
    (apart_before test ys after x parts.1)

-- all elements fail a test exactly if none passes it
all_not : {X : Type 0} (test : X → Bool) (xs : List X) → list_all (λ x. not (test x)) xs ≡ not (list_any test xs)
all_not test [] = refl
all_not test (x ∷ xs) = elim (cases_Bool (test x)) [
  | inl here ↦ rw here refl
  | inr past ↦ rw past (all_not test xs)
]

-- ---- elements that differ by a key

module _ {X : Type 0} (same : X → X → Bool) where
  abbrev other : X → X → Bool
  other x y = not (same x y)

  other_last : (xs : List X) (x : X) → are_apart other xs ≡ true → list_any (λ y. same y x) xs ≡ false
      → are_apart other (xs ++ x ∷ []) ≡ true
  other_last xs x apart new =
      apart_last other xs x
      ∙ and_from (are_apart other xs) (list_all (λ y. other y x) xs) apart (all_not (λ y. same y x) xs ∙ ap not new)

  other_before : (before after : List X) (x : X) → are_apart other (before ++ x ∷ after) ≡ true → list_any (λ y. same y x) before ≡ false
  other_before before after x apart =
      not-true (list_any (λ y. same y x) before) (sym (all_not (λ y. same y x) before) ∙ apart_before other before after x apart)

module _ {X : Type 0} (name : X → Text) where
  abbrev same_name : X → X → Bool
  same_name x y = same_text (name x) (name y)

  by_name : (xs : List X) → are_distinct (map name xs) ≡ are_apart (other same_name) xs
  by_name [] = refl
  by_name (x ∷ xs) = λ i. list_all-map (λ t. not (same_text (name x) t)) name xs i && by_name xs i

  pub names_last : (xs : List X) (x : X) → are_distinct (map name xs) ≡ true → list_any (λ y. same_text (name y) (name x)) xs ≡ false
      → are_distinct (map name (xs ++ x ∷ [])) ≡ true
  names_last xs x apart new = by_name (xs ++ x ∷ []) ∙ other_last same_name xs x (sym (by_name xs) ∙ apart) new

  pub names_before : (before after : List X) (x : X) → are_distinct (map name (before ++ x ∷ after)) ≡ true
      → list_any (λ y. same_text (name y) (name x)) before ≡ false
  names_before before after x apart = other_before same_name before after x (sym (by_name (before ++ x ∷ after)) ∙ apart)

module _ {X : Type 0} (role : X → Path) where
  abbrev same_role : X → X → Bool
  same_role x y = same_path (role x) (role y)

  by_role : (xs : List X) → are_distinct_roles (map role xs) ≡ are_apart (other same_role) xs
  by_role [] = refl
  by_role (x ∷ xs) = λ i. list_all-map (λ r. not (same_path (role x) r)) role xs i && by_role xs i

  pub roles_last : (xs : List X) (x : X) → are_distinct_roles (map role xs) ≡ true → list_any (λ y. same_path (role y) (role x)) xs ≡ false
      → are_distinct_roles (map role (xs ++ x ∷ [])) ≡ true
  roles_last xs x apart new = by_role (xs ++ x ∷ []) ∙ other_last same_role xs x (sym (by_role xs) ∙ apart) new

  pub roles_before : (before after : List X) (x : X) → are_distinct_roles (map role (before ++ x ∷ after)) ≡ true
      → list_any (λ y. same_path (role y) (role x)) before ≡ false
  roles_before before after x apart = other_before same_role before after x (sym (by_role (before ++ x ∷ after)) ∙ apart)

-- tasks differ by their framework and their name
abbrev same_task : TaskRow → TaskRow → Bool
same_task s t = is_task t.framework t.name s

by_task : (ts : List TaskRow) → are_distinct_tasks ts ≡ are_apart (other same_task) ts
by_task [] = refl
by_task (t ∷ ts) = λ i. list_all (λ s. not (is_task-swap t s i)) ts && by_task ts i

pub tasks_last : (ts : List TaskRow) (t : TaskRow) → are_distinct_tasks ts ≡ true → list_any (is_task t.framework t.name) ts ≡ false
    → are_distinct_tasks (ts ++ t ∷ []) ≡ true
tasks_last ts t apart new = by_task (ts ++ t ∷ []) ∙ other_last same_task ts t (sym (by_task ts) ∙ apart) new

pub tasks_before : (before after : List TaskRow) (t : TaskRow) → are_distinct_tasks (before ++ t ∷ after) ≡ true
    → list_any (is_task t.framework t.name) before ≡ false
tasks_before before after t apart = other_before same_task before after t (sym (by_task (before ++ t ∷ after)) ∙ apart)

-- ---- elements that differ by a rising number

abbrev pub is_below : OfferRow → OfferRow → Bool
is_below o p = nat_lt o.number p.number

both_rise : (a b c d : Bool) → ((a && b) && (c && d)) ≡ ((b && c) && (a && d))
both_rise true true true d = refl
both_rise true true false d = refl
both_rise true false c d = refl
both_rise false true true d = refl
both_rise false true false d = refl
both_rise false false c d = refl

by_number : (os : List OfferRow) (next : ℕ)
    → are_rising (map (λ o. o.number) os) next ≡ (are_apart is_below os && list_all (λ o. nat_lt o.number next) os)
by_number [] next = refl
by_number (o ∷ os) next =
    (λ i. (nat_lt o.number next && list_all-map (nat_lt o.number) (λ (p : OfferRow). p.number) os i) && by_number os next i)
    ∙ both_rise (nat_lt o.number next) (list_all (is_below o) os) (are_apart is_below os) (list_all (λ p. nat_lt p.number next) os)

pub numbers_last : (os : List OfferRow) (o : OfferRow) (next : ℕ) → are_rising (map (λ p. p.number) os) next ≡ true
    → list_all (λ p. nat_lt p.number o.number) os ≡ true → nat_lt o.number next ≡ true
    → are_rising (map (λ p. p.number) (os ++ o ∷ [])) next ≡ true
numbers_last os o next rising above below =
    let parts = and_parts (are_apart is_below os) (list_all (λ p. nat_lt p.number next) os) (sym (by_number os next) ∙ rising) in
    by_number (os ++ o ∷ []) next
    ∙ and_from (are_apart is_below (os ++ o ∷ [])) (list_all (λ p. nat_lt p.number next) (os ++ o ∷ []))
    (apart_last is_below os o ∙ and_from (are_apart is_below os) (list_all (λ p. is_below p o) os) parts.0 above)
    (list_all-append (λ p. nat_lt p.number next) os (o ∷ [])
    ∙ and_from (list_all (λ p. nat_lt p.number next) os) (nat_lt o.number next && true) parts.1 (and_from (nat_lt o.number next) true below refl))

pub numbers_before : (before after : List OfferRow) (o : OfferRow) (next : ℕ)
    → are_rising (map (λ p. p.number) (before ++ o ∷ after)) next ≡ true
    → (list_all (λ p. nat_lt p.number o.number) before ≡ true) × (nat_lt o.number next ≡ true)
numbers_before before after o next rising =
    let all : List OfferRow = before ++ o ∷ after in
    let parts = and_parts (are_apart is_below all) (list_all (λ p. nat_lt p.number next) all) (sym (by_number all next) ∙ rising) in
    let below = and_parts (list_all (λ p. nat_lt p.number next) before) (nat_lt o.number next && list_all (λ p. nat_lt p.number next) after)
    (sym (list_all-append (λ p. nat_lt p.number next) before (o ∷ after)) ∙ parts.1) in (
      apart_before is_below before after o parts.0,
      (and_parts (nat_lt o.number next) (list_all (λ p. nat_lt p.number next) after) below.1).0,
    )
