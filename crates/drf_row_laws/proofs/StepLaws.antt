-- The step, for refused and accepted events.
use Rattle.std.specs.Prelude.{◌≡◌, ◌+◌, suc, Bool, true, false, not, ◌||◌, List, [], ◌∷◌, map, Some, None, Contains, nat_lt, nat_le}
use Rattle.std.specs.List.{list_all, AllByRecursion}
use Rattle.std.proofs.Common.{refl, ap, subst, ◌∙◌, arith}
use Rattle.std.proofs.Math.Bool.{or-true}
use Rattle.std.proofs.lemmas.Bool.{and_parts, and_from}
use Rattle.std.proofs.lemmas.Bool.Decides.{nat_tests}
use Rattle.drf_bundle.proofs.ListLaws.{any_fails}
use Rattle.drf_rows.specs.LimitNumbers.{LimitNumbers}
use Rattle.drf_rows.specs.Step.{first_case, cases_of, refusal_of, effect, answer, rows_after, reply_to}
use Rattle.drf_row_laws.specs.Laws.{is_rising, CasesRise, LeastIsReported}
use Rattle.drf_rows.specs.Refusal.{refusal_number}
use Rattle.drf_rows.specs.declared.event.Event.{Event}
use Rattle.drf_rows.specs.declared.event.Event.TheVariants.{AddAgent}
use Rattle.drf_rows.specs.declared.reply.Refusal.{Refusal}
use Rattle.drf_rows.specs.declared.reply.Reply.TheVariants.{Refused}
use Rattle.drf_rows.specs.declared.rows.Rows.{Rows}

-- this first equation makes the prover look at each event
pub cases_rise : CasesRise
cases_rise limits rows (AddAgent agent total) = refl
cases_rise limits rows event = refl

-- ---- the first of the cases in order is the one with the least number

abbrev is_not_below : Refusal → Bool × Refusal → Bool
is_not_below refusal c = not c.0 || nat_le (refusal_number refusal) (refusal_number c.1)

not_below_first : (q : Refusal) (cases : List (Bool × Refusal))
    → list_all (nat_lt (refusal_number q)) (map (λ c. refusal_number c.1) cases) ≡ true → list_all (is_not_below q) cases ≡ true
not_below_first q [] rise = refl
not_below_first q (c ∷ cases) rise =
    let parts = and_parts (nat_lt (refusal_number q) (refusal_number c.1)) (list_all (nat_lt (refusal_number q)) (map (λ d. refusal_number d.1) cases)) rise in
    let above : nat_le (refusal_number q) (refusal_number c.1) ≡ true = grind (arith, nat_tests, parts.0) in
    and_from _ _ (ap (λ (b : Bool). not c.0 || b) above ∙ or-true (not c.0)) (not_below_first q cases parts.1)

least_first : (cases : List (Bool × Refusal)) (refusal : Refusal)
    → is_rising (map (λ c. refusal_number c.1) cases) ≡ true → first_case cases ≡ Some refusal
    → Contains cases (true, refusal) × (list_all (is_not_below refusal) cases ≡ true)
least_first [] refusal rise found = cc
least_first ((true, q) ∷ cases) refusal rise found =
    let same : q ≡ refusal = cc in
    let parts = and_parts (list_all (nat_lt (refusal_number q)) (map (λ c. refusal_number c.1) cases)) (is_rising (map (λ c. refusal_number c.1) cases)) rise in
    let itself : nat_le (refusal_number q) (refusal_number q) ≡ true = grind (arith, nat_tests) in
    let all : list_all (is_not_below q) ((true, q) ∷ cases) ≡ true = and_from _ _ itself (not_below_first q cases parts.0) in
    subst (λ (r : Refusal). Contains ((true, q) ∷ cases) (true, r) × (list_all (is_not_below r) ((true, q) ∷ cases) ≡ true)) same
    ((0, omega arith, refl), all)
least_first ((false, q) ∷ cases) refusal rise found =
    let parts = and_parts (list_all (nat_lt (refusal_number q)) (map (λ c. refusal_number c.1) cases)) (is_rising (map (λ c. refusal_number c.1) cases)) rise in
    let later = least_first cases refusal parts.1 found in
    ((suc later.0.0, omega (arith, later.0.1), later.0.2), later.1)

-- ---- no case of an accepted event holds

pub no_case : (cases : List (Bool × Refusal)) → first_case cases ≡ None → AllByRecursion (λ c. c.0 ≡ false) cases
no_case [] none = tt
no_case ((true, r) ∷ cases) none = cc
no_case ((false, r) ∷ cases) none = (refl, no_case cases none)

pub no_case_of : (limits : LimitNumbers) (rows : Rows) (event : Event) → refusal_of limits rows event ≡ None
    → AllByRecursion (λ c. c.0 ≡ false) (cases_of limits rows event)
unfolding refusal_of
no_case_of limits rows event none = no_case (cases_of limits rows event) none

pub least_is_reported : LeastIsReported
unfolding refusal_of
least_is_reported limits rows event = (
  λ refusal found. least_first (cases_of limits rows event) refusal (cases_rise limits rows event) found,
  λ none. any_fails (λ c. c.0) (cases_of limits rows event) (no_case (cases_of limits rows event) none),
)

-- ---- the step

-- the reply to a refused event is its refusal, and the state stays the same
pub reply_to-refused : (limits : LimitNumbers) (rows : Rows) (event : Event) (refusal : Refusal)
    → refusal_of limits rows event ≡ Some refusal → reply_to limits rows event ≡ Refused refusal
unfolding reply_to
reply_to-refused limits rows event refusal case = rw case

pub rows_after-refused : (limits : LimitNumbers) (rows : Rows) (event : Event) (refusal : Refusal)
    → refusal_of limits rows event ≡ Some refusal → rows_after limits rows event ≡ rows
unfolding rows_after
rows_after-refused limits rows event refusal case = rw case

-- an accepted event has its effect, and is counted
pub reply_to-accepted : (limits : LimitNumbers) (rows : Rows) (event : Event)
    → refusal_of limits rows event ≡ None → reply_to limits rows event ≡ answer rows (effect rows event) event
unfolding reply_to
reply_to-accepted limits rows event case = rw case

pub rows_after-accepted : (limits : LimitNumbers) (rows : Rows) (event : Event)
    → refusal_of limits rows event ≡ None
    → rows_after limits rows event ≡ record (effect rows event) { events = rows.events + 1 }
unfolding rows_after
rows_after-accepted limits rows event case = rw case
