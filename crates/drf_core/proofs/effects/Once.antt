-- At most one offer has a number, and at most one task of a framework has a name.
use Rattle.std.specs.Prelude.{◌≡◌, ℕ, ◌+◌, ◌≤◌, ◌==◌, Bool, true, false, not, ◌&&◌, List, [], ◌∷◌, map, count_by, nat_lt}
use Rattle.std.specs.List.{list_all, list_any, AllByRecursion}
use Rattle.std.proofs.Common.{refl, ap, subst, ◌∙◌, inl, inr, cond, arith}
use Rattle.std.proofs.lemmas.Bool.{cases_Bool, and_parts, eqb-true}
use Rattle.drf_role.specs.Text.{Text, same_text}
use Rattle.drf_role.specs.TextLaws.{same_from_test}
use Rattle.drf_bundle.proofs.ListLaws.{count_by-cons, count_by-any, each_fails}
use Rattle.drf_rows.specs.Consistent.{IsConsistent, are_distinct_tasks, are_rising}
use Rattle.drf_rows.specs.Releases.{Release, one_offer, one_task, ends_offer, ends_task, is_task, without_ended}
use Rattle.drf_rows.specs.declared.rows.OfferRow.{OfferRow}
use Rattle.drf_rows.specs.declared.rows.TaskRow.{TaskRow}
use Rattle.drf_rows.specs.declared.rows.Rows.{Rows}
use Rattle.drf_row_laws.proofs.ReleaseLaws.{others_of_number, without_ended-none}
use Rattle.drf_tables.specs.offers.Ended.{HasEnded, left_to_end}
use Rattle.drf_holdings.specs.declared.holdings.Taken.{Taken}

none_counted : {X : Type 0} (p : X → Bool) (xs : List X) → AllByRecursion (λ x. p x ≡ false) xs → count_by p xs ≡ 0
none_counted p [] none = refl
none_counted p (x ∷ xs) none = count_by-cons p x xs ∙ (λ i. cond (none.0 i) 1 0 + none_counted p xs none.1 i)

never_counted : {X : Type 0} (xs : List X) → count_by (λ (x : X). false) xs ≡ 0
never_counted [] = refl
never_counted {X} (x ∷ xs) = count_by-cons (λ (x : X). false) x xs ∙ ap (λ (n : ℕ). cond false 1 0 + n) (never_counted xs)

counted_none : {X : Type 0} (p : X → Bool) (xs : List X) → count_by p xs ≡ 0 → list_any p xs ≡ false
counted_none p xs zero = elim (cases_Bool (list_any p xs)) [ inl any ↦ absurd (omega (arith, count_by-any p xs any, zero)) | inr none ↦ none ]

-- at most one element passes the test: the first or one of the others
count_first : {X : Type 0} (p : X → Bool) (x : X) (xs : List X) → (p x ≡ true → count_by p xs ≡ 0) → count_by p xs ≤ 1 → count_by p (x ∷ xs) ≤ 1
count_first p x xs alone later = elim (cases_Bool (p x)) [
  | inl here ↦ omega (arith, count_by-cons p x xs ∙ ap (λ (b : Bool). cond b 1 0 + count_by p xs) here, alone here)
  | inr past ↦ omega (arith, count_by-cons p x xs ∙ ap (λ (b : Bool). cond b 1 0 + count_by p xs) past, later)
]

offers_once : (n next : ℕ) (os : List OfferRow) → are_rising (map (λ o. o.number) os) next ≡ true → count_by (λ o. o.number == n) os ≤ 1
offers_once n next [] rising = omega arith
offers_once n next (o ∷ os) rising =
    let numbers : List ℕ = map (λ (o : OfferRow). o.number) os in
    let parts = and_parts (nat_lt o.number next && list_all (nat_lt o.number) numbers) (are_rising numbers next) rising in
    count_first (λ (o : OfferRow). o.number == n) o os
    (λ here. none_counted (λ (o : OfferRow). o.number == n) os
    (subst (λ (m : ℕ). AllByRecursion (λ (q : OfferRow). (q.number == m) ≡ false) os) (eqb-true o.number n here) (others_of_number [] os o next rising)))
    (offers_once n next os parts.1)

tasks_once : (framework name : Text) (ts : List TaskRow) → are_distinct_tasks ts ≡ true → count_by (is_task framework name) ts ≤ 1
tasks_once framework name [] apart = omega arith
tasks_once framework name (t ∷ ts) apart =
    let parts = and_parts (list_all (λ u. not (is_task t.framework t.name u)) ts) (are_distinct_tasks ts) apart in
    count_first (is_task framework name) t ts
    (λ here.
    let its = and_parts (same_text t.framework framework) (same_text t.name name) here in
    let same : is_task t.framework t.name ≡ is_task framework name
    = λ i. is_task (same_from_test t.framework framework its.0 i) (same_from_test t.name name its.1 i) in
    subst (λ (p : TaskRow → Bool). count_by p ts ≡ 0) same (none_counted (is_task t.framework t.name) ts (each_fails (is_task t.framework t.name) ts parts.0)))
    (tasks_once framework name ts parts.1)

pub offer_once : (number : ℕ) (rows : Rows) → IsConsistent rows → left_to_end rows (one_offer number) ≤ 1
offer_once number rows consistent = omega (arith, offers_once number rows.next_offer rows.offers consistent.numbered, never_counted rows.tasks)

pub task_once : (framework name : Text) (rows : Rows) → IsConsistent rows → left_to_end rows (one_task framework name) ≤ 1
task_once framework name rows consistent = omega (arith, tasks_once framework name rows.tasks consistent.tasks, never_counted rows.offers)

-- if at most one offer or task is selected, none is left after one is removed
pub all_ended : (old new : Rows) (release : Release) (taken : Taken) → HasEnded old new release taken → left_to_end old release ≤ 1 → without_ended new release ≡ new
all_ended old new release taken ended once =
    without_ended-none new release
    (counted_none (ends_offer release) new.offers (omega (arith, ended.fewer, once)))
    (counted_none (ends_task release) new.tasks (omega (arith, ended.fewer, once)))
