-- The resources held after a holding ends or an offer is accepted; and that the state stays consistent.
use Rattle.std.specs.Prelude.{◌≡◌, ℕ, ◌+◌, ◌<◌, ◌≤◌, ◌==◌, Bool, true, false, not, ◌&&◌, List, [], ◌∷◌, ◌++◌, length, map, filter, find, take, drop, slice_get, sum_by, nat_lt, Option}
use Rattle.std.specs.List.{list_all, list_any, count_by, AllByRecursion}
use Rattle.std.proofs.Common.{refl, sym, ap, subst, ◌∙◌, inl, inr, cond, zero, suc, arith, Some, append_assoc}
use Rattle.std.proofs.lemmas.Bool.{cases_Bool, and_parts, and_from, or_parts, or_from, not-true, not-false, ltb-true, eqb-true, eq-eqb, ne_eqb}
use Rattle.std.proofs.lemmas.List.{map-append, append-nil}
use Rattle.std.proofs.lemmas.List.Elements.{filter-append}
use Rattle.std.proofs.lemmas.List.Sums.{sum_by-cons, sum_by-append, length-filter, count_by-le-length}
use Rattle.drf_role.specs.Text.{Text, same_text}
use Rattle.drf_bundle.specs.Value.{Point, Thousandths}
use Rattle.drf_bundle.specs.Quantities.{amount_of}
use Rattle.drf_bundle.specs.Bundle.{Key, IsBundle, units, quantities_of}
use Rattle.drf_bundle.proofs.theorems.SumLaws.{amount-quantities_of}
use Rattle.drf_bundle.proofs.theorems.UnitProofs.{stocks_add}
use Rattle.drf_bundle.specs.Taken.{units_of_all, rest_of_all}
use Rattle.drf_bundle.proofs.theorems.TakenLaws.{bundle-rest_of_all, units-rest_of_all, joined-rest_of_all, AddsUp, sum-joined}
use Rattle.drf_bundle.specs.declared.resource.Resource.{Resource}
use Rattle.drf_rows.specs.Holdings.{Holding, holding_of_offer, holding_of_task, holdings_of, amount_in, held_where, is_on, parts_on}
use Rattle.drf_row_laws.proofs.HoldingsLaws.{held_where-append, held_where-cons, parts_on-append, units_on, units_on-append, units_on-cons}
use Rattle.drf_rows.specs.Consistent.{are_distinct, IsHeld, IsCovered, IsConsistent, IsFilter, are_rising, are_distinct_tasks}
use Rattle.drf_row_laws.proofs.ConsistentLaws.{same_text-swap}
use Rattle.drf_rows.specs.Releases.{Release, one_offer, ends_offer, ends_task, without_ended, is_task}
use Rattle.drf_bundle.proofs.ListLaws.{each_from, each_append}
use Rattle.drf_rows.specs.Offers.{has_task, offer_at, task_of, AreNew, CanStart}
use Rattle.drf_rows.proofs.TaskLaws.{HasAll, units-covers_all}
use Rattle.drf_rows.specs.Tasks.{Start, names_of, uses}
use Rattle.drf_rows.specs.declared.rows.AgentRow.{AgentRow}
use Rattle.drf_rows.specs.declared.rows.FilterRow.{FilterRow}
use Rattle.drf_rows.specs.declared.rows.OfferRow.{OfferRow}
use Rattle.drf_rows.specs.declared.rows.TaskRow.{TaskRow}
use Rattle.drf_rows.specs.declared.rows.Rows.{Rows}

-- ---- lists with one element removed

-- removing an element that does not pass the test does not change what passes
pub filter-out : {X : Type 0} (p : X → Bool) (xs ys : List X) (x : X)
    → p x ≡ false → filter p (xs ++ x ∷ ys) ≡ filter p (xs ++ ys)
filter-out p xs ys x past =
    filter-append p xs (x ∷ ys)
    ∙ (λ i. filter p xs ++ cond (past i) (x ∷ filter p ys) (filter p ys))
    ∙ sym (filter-append p xs ys)

pub sum_by-out : {X : Type 0} (f : X → ℕ) (xs ys : List X) (x : X)
    → sum_by f (xs ++ x ∷ ys) ≡ sum_by f (xs ++ ys) + f x
sum_by-out f xs ys x = omega (arith, sum_by-append f xs (x ∷ ys), sum_by-cons f x ys, sum_by-append f xs ys)

-- removing an element that passes lowers the count by one
pub count_by-out : {X : Type 0} (p : X → Bool) (xs ys : List X) (x : X)
    → p x ≡ true → count_by p (xs ++ x ∷ ys) ≡ count_by p (xs ++ ys) + 1
count_by-out p xs ys x passes =
    sum_by-out (λ x. cond (p x) 1 0) xs ys x ∙ ap (λ (b : Bool). count_by p (xs ++ ys) + cond b 1 0) passes

pub each-out : {X : Type 0} (P : X → Type 0) (xs ys : List X) (x : X)
    → AllByRecursion P (xs ++ x ∷ ys) → AllByRecursion P (xs ++ ys)
each-out P [] ys x all = all.1
each-out P (z ∷ xs) ys x all = (all.0, each-out P xs ys x all.1)

-- what is true of each element is true of one
pub each-one : {X : Type 0} (P : X → Type 0) (xs ys : List X) (x : X)
    → AllByRecursion P (xs ++ x ∷ ys) → P x
each-one P [] ys x all = all.0
each-one P (z ∷ xs) ys x all = each-one P xs ys x all.1

list_all-out : {X : Type 0} (p : X → Bool) (xs ys : List X) (x : X)
    → list_all p (xs ++ x ∷ ys) ≡ true → list_all p (xs ++ ys) ≡ true
list_all-out p [] ys x all = (and_parts (p x) (list_all p ys) all).1
list_all-out p (z ∷ xs) ys x all =
    let parts = and_parts (p z) (list_all p (xs ++ x ∷ ys)) all in
    and_from (p z) (list_all p (xs ++ ys)) parts.0 (list_all-out p xs ys x parts.1)

rising-out : (ns ms : List ℕ) (n next : ℕ) → are_rising (ns ++ n ∷ ms) next ≡ true → are_rising (ns ++ ms) next ≡ true
rising-out [] ms n next rising = (and_parts (nat_lt n next && list_all (nat_lt n) ms) (are_rising ms next) rising).1
rising-out (m ∷ ns) ms n next rising =
    let old : List ℕ = ns ++ n ∷ ms in
    let parts = and_parts (nat_lt m next && list_all (nat_lt m) old) (are_rising old next) rising in
    let first = and_parts (nat_lt m next) (list_all (nat_lt m) old) parts.0 in
    and_from (nat_lt m next && list_all (nat_lt m) (ns ++ ms)) (are_rising (ns ++ ms) next)
    (and_from (nat_lt m next) (list_all (nat_lt m) (ns ++ ms)) first.0 (list_all-out (nat_lt m) ns ms n first.1))
    (rising-out ns ms n next parts.1)

tasks_apart-out : (ts us : List TaskRow) (t : TaskRow)
    → are_distinct_tasks (ts ++ t ∷ us) ≡ true → are_distinct_tasks (ts ++ us) ≡ true
tasks_apart-out [] us t apart = (and_parts (list_all (λ s. not (is_task t.framework t.name s)) us) (are_distinct_tasks us) apart).1
tasks_apart-out (s ∷ ts) us t apart =
    let other : TaskRow → Bool = λ u. not (is_task s.framework s.name u) in
    let parts = and_parts (list_all other (ts ++ t ∷ us)) (are_distinct_tasks (ts ++ t ∷ us)) apart in
    and_from (list_all other (ts ++ us)) (are_distinct_tasks (ts ++ us))
    (list_all-out other ts us t parts.0) (tasks_apart-out ts us t parts.1)

-- ---- one holding is removed

-- `new` is `old` without the holding h
pub record IsOneLess (old new : List Holding) (h : Holding) : Type 0 where
  pub before : List Holding
  pub after : List Holding
  pub has : old ≡ before ++ h ∷ after
  pub lacks : new ≡ before ++ after

module _ (old new : List Holding) (h : Holding) (less : IsOneLess old new h) where
  -- the holdings that pass a test have less by this holding, if it passes
  pub held_where-one_less : (test : Holding → Bool) (label : Text)
      → held_where test old label ≡ held_where test new label + cond (test h) (amount_in label h) 0
  held_where-one_less test label =
      ap (λ (hs : List Holding). held_where test hs label) less.has
      ∙ held_where-append test less.before (h ∷ less.after) label
      ∙ omega (
        arith,
        held_where-cons test h less.after label,
        held_where-append test less.before less.after label,
        ap (λ (hs : List Holding). held_where test hs label) less.lacks,
      )

  -- on other agents the same is held
  pub parts_on-one_less : (agent : Text) → same_text h.agent agent ≡ false → parts_on agent new ≡ parts_on agent old
  parts_on-one_less agent past =
      ap (parts_on agent) less.lacks
      ∙ ap (map (λ (g : Holding). g.bundle)) (sym (filter-out (is_on agent) less.before less.after h past))
      ∙ sym (ap (parts_on agent) less.has)

  -- the units held on an agent before are those held afterwards and those of the holding, if it was there
  pub units-one_less : (agent : Text) (key : Key) (p : Point)
      → units_of_all (parts_on agent old) key p
      ≡ units_of_all (parts_on agent new) key p + cond (same_text h.agent agent) (units h.bundle key p) 0
  units-one_less agent key p =
      ap (λ (hs : List Holding). units_of_all (parts_on agent hs) key p) less.has
      ∙ (λ i. units_of_all (parts_on-append agent less.before (h ∷ less.after) i) key p)
      ∙ sum_by-append of (parts_on agent less.before) (parts_on agent (h ∷ less.after))
      ∙ ap (λ (n : ℕ). units_of_all (parts_on agent less.before) key p + n) (first (same_text h.agent agent))
      ∙ omega (
        arith,
        ap (λ (hs : List Holding). units_of_all (parts_on agent hs) key p) less.lacks,
        ap (λ (parts : List (List Resource)). units_of_all parts key p) (parts_on-append agent less.before less.after),
        sum_by-append of (parts_on agent less.before) (parts_on agent less.after),
      )
    where
      of : List Resource → ℕ
      of part = units part key p

      later : List Holding
      later = filter (is_on agent) less.after

      first : (b : Bool) → units_of_all (map (λ g. g.bundle) (cond b (h ∷ later) later)) key p
          ≡ cond b (units h.bundle key p) 0 + units_of_all (parts_on agent less.after) key p
      first true = sum_by-cons of h.bundle (parts_on agent less.after)
      first false = omega arith

  -- what was true of each holding still is
  pub each-one_less : (P : Holding → Type 0) → AllByRecursion P old → AllByRecursion P new
  each-one_less P all =
      subst (AllByRecursion P) (sym less.lacks) (each-out P less.before less.after h (subst (AllByRecursion P) less.has all))

  -- and it is true of the removed one
  pub one-one_less : (P : Holding → Type 0) → AllByRecursion P old → P h
  one-one_less P all = each-one P less.before less.after h (subst (AllByRecursion P) less.has all)

  -- at most the total is held on each agent
  pub covered-one_less : (agent : AgentRow) → IsCovered old agent → IsCovered new agent
  covered-one_less agent covered key p = omega (arith, covered key p, units-one_less agent.name key p)

-- ---- one offer or one task is removed

map-out : {X Y : Type 0} (f : X → Y) (xs ys : List X) (x : X) → map f (xs ++ x ∷ ys) ≡ map f xs ++ f x ∷ map f ys
map-out f xs ys x = map-append f xs (x ∷ ys)

-- if offers and tasks are changed so that they satisfy the rules, the state stays consistent
pub IsConsistent-held : (rows : Rows) (offers : List OfferRow) (tasks : List TaskRow)
    → IsConsistent rows
    → AllByRecursion (IsHeld rows.agents rows.frameworks) (map holding_of_offer offers ++ map holding_of_task tasks)
    → AllByRecursion (IsCovered (map holding_of_offer offers ++ map holding_of_task tasks)) rows.agents
    → are_distinct_tasks tasks ≡ true
    → are_rising (map (λ o. o.number) offers) rows.next_offer ≡ true
    → IsConsistent (record rows { offers = offers; tasks = tasks })
IsConsistent-held rows offers tasks consistent held covered apart rising = record {
  agents = consistent.agents;
  frameworks = consistent.frameworks;
  holdings = held;
  covered = covered;
  tasks = apart;
  weights = consistent.weights;
  limits = consistent.limits;
  filters = consistent.filters;
  early = consistent.early;
  counted = consistent.counted;
  numbered = rising;
}

module _ (rows : Rows) (before after : List OfferRow) (x : OfferRow) (stands : rows.offers ≡ before ++ x ∷ after) where
  pub one_less-offer : IsOneLess (holdings_of rows) (holdings_of (record rows { offers = before ++ after })) (holding_of_offer x)
  one_less-offer = record {
    before = map holding_of_offer before;
    after = map holding_of_offer after ++ map holding_of_task rows.tasks;
    has = ap (λ (os : List OfferRow). map holding_of_offer os ++ map holding_of_task rows.tasks) stands
        ∙ ap (λ (hs : List Holding). hs ++ map holding_of_task rows.tasks) (map-out holding_of_offer before after x)
        ∙ append_assoc (map holding_of_offer before) (holding_of_offer x ∷ map holding_of_offer after) (map holding_of_task rows.tasks);
    lacks = ap (λ (hs : List Holding). hs ++ map holding_of_task rows.tasks) (map-append holding_of_offer before after)
        ∙ append_assoc (map holding_of_offer before) (map holding_of_offer after) (map holding_of_task rows.tasks);
  }

  pub IsConsistent-offer_out : IsConsistent rows → IsConsistent (record rows { offers = before ++ after })
  IsConsistent-offer_out consistent =
      let hs : List Holding = holdings_of rows in
      let new : List Holding = holdings_of (record rows { offers = before ++ after }) in
      let number : OfferRow → ℕ = λ o. o.number in
      let numbers : are_rising (map number before ++ x.number ∷ map number after) rows.next_offer ≡ true
      = sym (ap (λ (os : List OfferRow). are_rising (map number os) rows.next_offer) stands
      ∙ ap (λ (ns : List ℕ). are_rising ns rows.next_offer) (map-out number before after x)) ∙ consistent.numbered in
      IsConsistent-held rows (before ++ after) rows.tasks consistent
      (each-one_less hs new (holding_of_offer x) one_less-offer (IsHeld rows.agents rows.frameworks) consistent.holdings)
      (each_from (IsCovered hs) (IsCovered new) rows.agents (covered-one_less hs new (holding_of_offer x) one_less-offer) consistent.covered)
      consistent.tasks
      (ap (λ (ns : List ℕ). are_rising ns rows.next_offer) (map-append number before after)
      ∙ rising-out (map number before) (map number after) x.number rows.next_offer numbers)

  -- removing an offer that the ending ends does not change the result of the ending
  pub without_ended-offer : (release : Release) → ends_offer release x ≡ true
      → without_ended (record rows { offers = before ++ after }) release ≡ without_ended rows release
  without_ended-offer release ends =
      let stays : OfferRow → Bool = λ o. not (ends_offer release o) in
      let same : filter stays (before ++ after) ≡ filter stays rows.offers
      = sym (ap (filter stays) stands ∙ filter-out stays before after x (ap not ends)) in
      λ i. record rows { offers = same i; tasks = filter (λ t. not (ends_task release t)) rows.tasks }

  pub left-offer : (release : Release) → ends_offer release x ≡ true
      → count_by (ends_offer release) rows.offers + count_by (ends_task release) rows.tasks
      ≡ count_by (ends_offer release) (before ++ after) + count_by (ends_task release) rows.tasks + 1
  left-offer release ends = omega (
    arith,
    ap (count_by (ends_offer release)) stands ∙ count_by-out (ends_offer release) before after x ends,
  )

module _ (rows : Rows) (before after : List TaskRow) (x : TaskRow) (stands : rows.tasks ≡ before ++ x ∷ after) where
  pub one_less-task : IsOneLess (holdings_of rows) (holdings_of (record rows { tasks = before ++ after })) (holding_of_task x)
  one_less-task = record {
    before = map holding_of_offer rows.offers ++ map holding_of_task before;
    after = map holding_of_task after;
    has = ap (λ (ts : List TaskRow). map holding_of_offer rows.offers ++ map holding_of_task ts) stands
        ∙ ap (λ (hs : List Holding). map holding_of_offer rows.offers ++ hs) (map-out holding_of_task before after x)
        ∙ sym (append_assoc (map holding_of_offer rows.offers) (map holding_of_task before) (holding_of_task x ∷ map holding_of_task after));
    lacks = ap (λ (hs : List Holding). map holding_of_offer rows.offers ++ hs) (map-append holding_of_task before after)
        ∙ sym (append_assoc (map holding_of_offer rows.offers) (map holding_of_task before) (map holding_of_task after));
  }

  pub IsConsistent-task_out : IsConsistent rows → IsConsistent (record rows { tasks = before ++ after })
  IsConsistent-task_out consistent =
      let hs : List Holding = holdings_of rows in
      let new : List Holding = holdings_of (record rows { tasks = before ++ after }) in
      IsConsistent-held rows rows.offers (before ++ after) consistent
      (each-one_less hs new (holding_of_task x) one_less-task (IsHeld rows.agents rows.frameworks) consistent.holdings)
      (each_from (IsCovered hs) (IsCovered new) rows.agents (covered-one_less hs new (holding_of_task x) one_less-task) consistent.covered)
      (tasks_apart-out before after x (sym (ap are_distinct_tasks stands) ∙ consistent.tasks))
      consistent.numbered

  pub without_ended-task : (release : Release) → ends_task release x ≡ true
      → without_ended (record rows { tasks = before ++ after }) release ≡ without_ended rows release
  without_ended-task release ends =
      let stays : TaskRow → Bool = λ t. not (ends_task release t) in
      let same : filter stays (before ++ after) ≡ filter stays rows.tasks
      = sym (ap (filter stays) stands ∙ filter-out stays before after x (ap not ends)) in
      λ i. record rows { offers = filter (λ o. not (ends_offer release o)) rows.offers; tasks = same i }

  pub left-task : (release : Release) → ends_task release x ≡ true
      → count_by (ends_offer release) rows.offers + count_by (ends_task release) rows.tasks
      ≡ count_by (ends_offer release) rows.offers + count_by (ends_task release) (before ++ after) + 1
  left-task release ends = omega (
    arith,
    ap (count_by (ends_task release)) stands ∙ count_by-out (ends_task release) before after x ends,
  )

-- ---- a release that ends nothing

-- if no element passes a test, it fails at each
pub each_past : {X : Type 0} (p : X → Bool) (xs : List X) → list_any p xs ≡ false → AllByRecursion (λ x. p x ≡ false) xs
each_past p [] none = tt
each_past p (x ∷ xs) none =
    let parts = or_parts (p x) (list_any p xs) none in
    (parts.0, each_past p xs parts.1)

-- if no element passes a test, a filter removes none
pub filter-none : {X : Type 0} (p : X → Bool) (xs : List X)
    → AllByRecursion (λ x. p x ≡ false) xs → filter (λ x. not (p x)) xs ≡ xs
filter-none p [] none = refl
filter-none p (x ∷ xs) none = λ i. cond (not (none.0 i)) (x ∷ filter-none p xs none.1 i) (filter-none p xs none.1 i)

-- if a filter removes none, no element passes the test
pub none-filter : {X : Type 0} (p : X → Bool) (xs : List X)
    → filter (λ x. not (p x)) xs ≡ xs → AllByRecursion (λ x. p x ≡ false) xs
none-filter p [] same = tt
none-filter {X} p (x ∷ xs) same =
    let stays : X → Bool = λ y. not (p y) in
    let left : List X = filter stays xs in
    let chosen : Bool → List X = λ b. cond (not b) (x ∷ left) left in
    elim (cases_Bool (p x)) [
      | inl here ↦
          let fewer : left ≡ x ∷ xs = sym (ap chosen here) ∙ same in
          absurd (omega (arith, ap length fewer, length-filter stays xs, count_by-le-length stays xs))
      | inr past ↦
          let others : x ∷ left ≡ x ∷ xs = sym (ap chosen past) ∙ same in
          let later : left ≡ xs = cc in
          (past, none-filter p xs later)
    ]

pub without_ended-none : (rows : Rows) (release : Release)
    → list_any (ends_offer release) rows.offers ≡ false → list_any (ends_task release) rows.tasks ≡ false
    → without_ended rows release ≡ rows
without_ended-none rows release offers tasks = λ i. record rows {
  offers = filter-none (ends_offer release) rows.offers (each_past (ends_offer release) rows.offers offers) i;
  tasks = filter-none (ends_task release) rows.tasks (each_past (ends_task release) rows.tasks tasks) i;
}

-- ---- places in lists

-- a list is what is before a place, its element, and what is after it
pub split_at : {X : Type 0} (xs : List X) (i : ℕ) (x : X) → slice_get xs i ≡ Some x → xs ≡ take i xs ++ x ∷ drop (suc i) xs
split_at [] i x at = cc
split_at (y ∷ ys) zero x at =
    let same : y ≡ x = cc in
    ap (λ z. z ∷ ys) same
split_at (y ∷ ys) (suc i) x at = ap (λ zs. y ∷ zs) (split_at ys i x at)

-- an element that is found has a place
pub record IsPlace {X : Type 0} (xs : List X) (x : X) : Type 0 where
  pub before : List X
  pub after : List X
  pub stands : xs ≡ before ++ x ∷ after

pub find-place : {X : Type 0} (p : X → Bool) (xs : List X) (x : X) → find p xs ≡ Some x → IsPlace xs x × (p x ≡ true)
find-place p [] x found = cc
find-place {X} p (y ∷ ys) x found = elim (cases_Bool (p y)) [
  | inl here ↦
      let first : ◌≡◌ {A = Option X} (Some y) (Some x) = sym (ap (λ (b : Bool). cond b (Some y) (find p ys)) here) ∙ found in
      let same : y ≡ x = cc in
      (record { before = []; after = ys; stands = ap (λ z. z ∷ ys) same }, sym (ap p same) ∙ here)
  | inr past ↦
      let later = find-place p ys x (sym (ap (λ (b : Bool). cond b (Some y) (find p ys)) past) ∙ found) in
      (record { before = y ∷ later.0.before; after = later.0.after; stands = ap (λ zs. y ∷ zs) later.0.stands }, later.1)
]

pub offer_at-place : (rows : Rows) (number : ℕ) (o : OfferRow) → offer_at rows number ≡ Some o
    → IsPlace rows.offers o × (o.number ≡ number)
offer_at-place rows number o found =
    let at = find-place (λ (p : OfferRow). p.number == number) rows.offers o found in
    (at.0, eqb-true o.number number at.1)

-- an outstanding offer is held by a registered client on a registered agent
pub held-offer_at : (rows : Rows) (number : ℕ) (o : OfferRow) → IsConsistent rows → offer_at rows number ≡ Some o
    → IsHeld rows.agents rows.frameworks (holding_of_offer o)
held-offer_at rows number o consistent found =
    let at = (offer_at-place rows number o found).0 in
    one-one_less (holdings_of rows) (holdings_of (record rows { offers = at.before ++ at.after })) (holding_of_offer o)
    (one_less-offer rows at.before at.after o at.stands) (IsHeld rows.agents rows.frameworks) consistent.holdings

-- different offers have different numbers, because these rise
list_all-one : {X : Type 0} (p : X → Bool) (xs ys : List X) (x : X) → list_all p (xs ++ x ∷ ys) ≡ true → p x ≡ true
list_all-one p [] ys x all = (and_parts (p x) (list_all p ys) all).0
list_all-one p (z ∷ xs) ys x all = list_all-one p xs ys x (and_parts (p z) (list_all p (xs ++ x ∷ ys)) all).1

abbrev number_of : OfferRow → ℕ
number_of o = o.number

above_others : (n : ℕ) (os : List OfferRow) → list_all (nat_lt n) (map number_of os) ≡ true
    → AllByRecursion (λ p. (p.number == n) ≡ false) os
above_others n [] all = tt
above_others n (o ∷ os) all =
    let parts = and_parts (nat_lt n o.number) (list_all (nat_lt n) (map number_of os)) all in
    let above : n < o.number = ltb-true n o.number parts.0 in
    (ne_eqb o.number n (λ same. omega (arith, same)), above_others n os parts.1)

pub others_of_number : (before after : List OfferRow) (o : OfferRow) (next : ℕ)
    → are_rising (map (λ o. o.number) (before ++ o ∷ after)) next ≡ true
    → AllByRecursion (λ p. (p.number == o.number) ≡ false) (before ++ after)
others_of_number [] after o next rising =
    let numbers : List ℕ = map number_of after in
    let parts = and_parts (nat_lt o.number next && list_all (nat_lt o.number) numbers) (are_rising numbers next) rising in
    above_others o.number after (and_parts (nat_lt o.number next) (list_all (nat_lt o.number) numbers) parts.0).1
others_of_number (p ∷ before) after o next rising =
    let numbers : List ℕ = map number_of (before ++ o ∷ after) in
    let parts = and_parts (nat_lt p.number next && list_all (nat_lt p.number) numbers) (are_rising numbers next) rising in
    let above = (and_parts (nat_lt p.number next) (list_all (nat_lt p.number) numbers) parts.0).1 in
    let below : p.number < o.number = ltb-true p.number o.number
    (list_all-one (nat_lt p.number) (map number_of before) (map number_of after) o.number
    (sym (ap (list_all (nat_lt p.number)) (map-out number_of before after o)) ∙ above)) in
    (ne_eqb p.number o.number (λ same. omega (arith, same)), others_of_number before after o next parts.1)

-- if exactly one element passes a test, a filter removes this one
pub filter-one : {X : Type 0} (p : X → Bool) (xs ys : List X) (x : X) → p x ≡ true → AllByRecursion (λ y. p y ≡ false) (xs ++ ys)
    → filter (λ y. not (p y)) (xs ++ x ∷ ys) ≡ xs ++ ys
filter-one p xs ys x here others =
    filter-out (λ y. not (p y)) xs ys x (ap not here) ∙ filter-none p (xs ++ ys) others

pub without_offer-place : (rows : Rows) (before after : List OfferRow) (o : OfferRow) → IsConsistent rows
    → rows.offers ≡ before ++ o ∷ after
    → filter (λ p. not (p.number == o.number)) rows.offers ≡ before ++ after
without_offer-place rows before after o consistent stands =
    ap (filter (λ p. not (p.number == o.number))) stands
    ∙ filter-one (λ (p : OfferRow). p.number == o.number) before after o (eq-eqb o.number o.number refl)
    (others_of_number before after o rows.next_offer
    (sym (ap (λ (os : List OfferRow). are_rising (map number_of os) rows.next_offer) stands) ∙ consistent.numbered))

-- ---- an offer is accepted

-- if filters are changed so that they are valid, the state stays consistent
pub IsConsistent-filters : (rows : Rows) (filters : List FilterRow) → IsConsistent rows
    → AllByRecursion (IsFilter rows.agents rows.frameworks) filters → IsConsistent (record rows { filters = filters })
IsConsistent-filters rows filters consistent each = record {
  agents = consistent.agents;
  frameworks = consistent.frameworks;
  holdings = consistent.holdings;
  covered = consistent.covered;
  tasks = consistent.tasks;
  weights = consistent.weights;
  limits = consistent.limits;
  filters = each;
  early = consistent.early;
  counted = consistent.counted;
  numbered = consistent.numbered;
}

pub is_task-swap : (s t : TaskRow) → is_task s.framework s.name t ≡ is_task t.framework t.name s
is_task-swap s t = λ i. same_text-swap t.framework s.framework i && same_text-swap t.name s.name i

-- tasks have different names if the last one is new
list_all-push : {X : Type 0} (p : X → Bool) (xs : List X) (x : X)
    → list_all p xs ≡ true → p x ≡ true → list_all p (xs ++ x ∷ []) ≡ true
list_all-push p [] x all here = and_from (p x) true here refl
list_all-push p (y ∷ ys) x all here =
    let parts = and_parts (p y) (list_all p ys) all in
    and_from (p y) (list_all p (ys ++ x ∷ [])) parts.0 (list_all-push p ys x parts.1 here)

tasks_apart-push : (ts : List TaskRow) (t : TaskRow)
    → are_distinct_tasks ts ≡ true → list_any (is_task t.framework t.name) ts ≡ false
    → are_distinct_tasks (ts ++ t ∷ []) ≡ true
tasks_apart-push [] t apart new = refl
tasks_apart-push (s ∷ ts) t apart new =
    let other : TaskRow → Bool = λ u. not (is_task s.framework s.name u) in
    let parts = and_parts (list_all other ts) (are_distinct_tasks ts) apart in
    let none = or_parts (is_task t.framework t.name s) (list_any (is_task t.framework t.name) ts) new in
    and_from (list_all other (ts ++ t ∷ [])) (are_distinct_tasks (ts ++ t ∷ []))
    (list_all-push other ts t parts.0 (ap not (is_task-swap s t ∙ none.0)))
    (tasks_apart-push ts t parts.1 none.1)

-- a scalar of the whole is in the parts or in the rest
amount-rest : (whole : List Resource) (parts : List (List Resource)) (label : Text) → IsBundle whole → AllByRecursion IsBundle parts
    → HasAll whole parts
    → amount_of (quantities_of whole) label
    ≡ sum_by (λ part. amount_of (quantities_of part) label) parts + amount_of (quantities_of (rest_of_all whole parts)) label
amount-rest whole parts label is each has =
    omega (arith, sum-joined of adds (rest_of_all whole parts) whole parts (bundle-rest_of_all whole parts is) each (joined-rest_of_all whole parts is each has))
  where
    of : List Resource → ℕ
    of bundle = amount_of (quantities_of bundle) label

    adds : AddsUp (λ bundle. amount_of (quantities_of bundle) label)
    adds a b both first second same = omega (
      arith,
      amount-quantities_of both label,
      amount-quantities_of a label,
      amount-quantities_of b label,
      stocks_add a b both first second same label Thousandths,
    )

-- the tasks of an offer as holdings
abbrev pub started_by : OfferRow → List Start → List Holding
started_by o starts = map holding_of_task (map (task_of o) starts)

-- the state after tasks are started with parts of an offer, with these filters added last
abbrev pub accepted_in : Rows → OfferRow → List Start → List FilterRow → Rows
accepted_in rows o starts filters = record (without_ended rows (one_offer o.number)) {
  tasks = rows.tasks ++ map (task_of o) starts;
  filters = rows.filters ++ filters;
}

none_either : (b : Bool) → ◌≡◌ {A = ℕ} 0 (cond b 0 0)
none_either true = refl
none_either false = refl

-- if the tasks pass a test exactly if the offer did, they hold what they use
held_where-started : (test : Holding → Bool) (label : Text) (o : OfferRow) (starts : List Start)
    → ((s : Start) → test (holding_of_offer o) ≡ test (holding_of_task (task_of o s)))
    → held_where test (started_by o starts) label
    ≡ cond (test (holding_of_offer o)) (sum_by (λ part. amount_of (quantities_of part) label) (uses starts)) 0
held_where-started test label o [] same = none_either (test (holding_of_offer o))
held_where-started test label o (s ∷ starts) same =
    held_where-cons test (holding_of_task (task_of o s)) (started_by o starts) label
    ∙ (λ i. cond (sym (same s) i) (amount_of (quantities_of s.1) label) 0 + held_where-started test label o starts same i)
    ∙ by (test (holding_of_offer o))
  where
    more : sum_by (λ part. amount_of (quantities_of part) label) (s.1 ∷ uses starts)
        ≡ amount_of (quantities_of s.1) label + sum_by (λ part. amount_of (quantities_of part) label) (uses starts)
    more = sum_by-cons (λ (part : List Resource). amount_of (quantities_of part) label) s.1 (uses starts)

    by : (b : Bool) → cond b (amount_of (quantities_of s.1) label) 0 + cond b (sum_by (λ part. amount_of (quantities_of part) label) (uses starts)) 0
        ≡ cond b (sum_by (λ part. amount_of (quantities_of part) label) (s.1 ∷ uses starts)) 0
    by true = sym more
    by false = omega arith

-- on the agent of the offer they hold what they use, and elsewhere nothing
units-started : (agent : Text) (key : Key) (p : Point) (o : OfferRow) (starts : List Start)
    → units_on agent (started_by o starts) key p ≡ cond (same_text o.agent agent) (units_of_all (uses starts) key p) 0
units-started agent key p o [] = none_either (same_text o.agent agent)
units-started agent key p o (s ∷ starts) =
    units_on-cons agent key p (holding_of_task (task_of o s)) (started_by o starts)
    ∙ ap (λ (n : ℕ). cond (same_text o.agent agent) (units s.1 key p) 0 + n) (units-started agent key p o starts)
    ∙ by (same_text o.agent agent)
  where
    by : (b : Bool) → cond b (units s.1 key p) 0 + cond b (units_of_all (uses starts) key p) 0
        ≡ cond b (units_of_all (uses (s ∷ starts)) key p) 0
    by true = sym (sum_by-cons (λ (part : List Resource). units part key p) s.1 (uses starts))
    by false = omega arith

parts_on-started : (agent : Text) (o : OfferRow) (starts : List Start) → same_text o.agent agent ≡ false
    → parts_on agent (started_by o starts) ≡ []
parts_on-started agent o [] past = refl
parts_on-started agent o (s ∷ starts) past = rw past (parts_on-started agent o starts past)

-- ---- new tasks

tasks_apart : (old new : List TaskRow) → are_distinct_tasks old ≡ true → AreNew old new → are_distinct_tasks (old ++ new) ≡ true
tasks_apart old [] apart new = ap are_distinct_tasks (append-nil old) ∙ apart
tasks_apart old (t ∷ ts) apart new =
    ap are_distinct_tasks (sym (append_assoc old (t ∷ []) ts))
    ∙ tasks_apart (old ++ t ∷ []) ts (tasks_apart-push old t apart new.0) new.1

any-push : {X : Type 0} (p : X → Bool) (xs : List X) (x : X) → list_any p xs ≡ false → p x ≡ false → list_any p (xs ++ x ∷ []) ≡ false
any-push p [] x none past = or_from (p x) false past refl
any-push p (y ∷ ys) x none past =
    let parts = or_parts (p y) (list_any p ys) none in
    or_from (p y) (list_any p (ys ++ x ∷ [])) parts.0 (any-push p ys x parts.1 past)

and_false : (b : Bool) → (b && false) ≡ false
and_false true = refl
and_false false = refl

-- the tasks of an offer are new if their names are
new_tasks : (o : OfferRow) (old : List TaskRow) (starts : List Start)
    → list_any (λ s. list_any (is_task o.framework s.0) old) starts ≡ false → are_distinct (names_of starts) ≡ true
    → AreNew old (map (task_of o) starts)
new_tasks o old [] new apart = tt
new_tasks o old (s ∷ starts) new apart =
    let first = or_parts (list_any (is_task o.framework s.0) old) (list_any (λ s. list_any (is_task o.framework s.0) old) starts) new in
    let others = and_parts (list_all (λ t. not (same_text s.0 t)) (names_of starts)) (are_distinct (names_of starts)) apart in
    (first.0, new_tasks o (old ++ task_of o s ∷ []) starts (later starts first.1 others.0) others.1)
  where
    later : (ss : List Start) → list_any (λ s. list_any (is_task o.framework s.0) old) ss ≡ false
        → list_all (λ t. not (same_text s.0 t)) (names_of ss) ≡ true
        → list_any (λ q. list_any (is_task o.framework q.0) (old ++ task_of o s ∷ [])) ss ≡ false
    later [] none other = refl
    later (q ∷ ss) none other =
        let one = or_parts (list_any (is_task o.framework q.0) old) (list_any (λ s. list_any (is_task o.framework s.0) old) ss) none in
        let two = and_parts (not (same_text s.0 q.0)) (list_all (λ t. not (same_text s.0 t)) (names_of ss)) other in
        let past : is_task o.framework q.0 (task_of o s) ≡ false =
        ap (λ (b : Bool). same_text o.framework o.framework && b) (not-true (same_text s.0 q.0) two.0) ∙ and_false (same_text o.framework o.framework) in
        or_from _ _ (any-push (is_task o.framework q.0) old (task_of o s) one.0 past) (later ss one.1 two.1)

pub new_starts : (rows : Rows) (o : OfferRow) (starts : List Start) → CanStart rows o starts → AreNew rows.tasks (map (task_of o) starts)
new_starts rows o starts can =
    let known = or_parts (list_any (λ s. has_task rows o.framework s.0) starts) (not (are_distinct (names_of starts))) can.new in
    new_tasks o rows.tasks starts known.0 (not-false (are_distinct (names_of starts)) known.1)

-- ---- the resources held afterwards

module _ (rows : Rows) (number : ℕ) (o : OfferRow) (starts : List Start) (filters : List FilterRow)
    (consistent : IsConsistent rows) (found : offer_at rows number ≡ Some o) where
  abbrev pub left : List OfferRow
  left = filter (λ p. not (p.number == o.number)) rows.offers

  abbrev pub after : Rows
  after = accepted_in rows o starts filters

  -- the holdings without the offer and without the tasks
  abbrev pub between : List Holding
  between = map holding_of_offer left ++ map holding_of_task rows.tasks

  pub offer_out : IsOneLess (holdings_of rows) between (holding_of_offer o)
  offer_out =
      let at = (offer_at-place rows number o found).0 in
      let less = one_less-offer rows at.before at.after o at.stands in
      record {
        before = less.before;
        after = less.after;
        has = less.has;
        lacks = ap (λ (os : List OfferRow). map holding_of_offer os ++ map holding_of_task rows.tasks)
            (without_offer-place rows at.before at.after o consistent at.stands) ∙ less.lacks;
      }

  -- the tasks are added last
  pub tasks_last : holdings_of after ≡ between ++ started_by o starts
  tasks_last =
      ap (λ (hs : List Holding). map holding_of_offer left ++ hs) (map-append holding_of_task rows.tasks (map (task_of o) starts))
      ∙ sym (append_assoc (map holding_of_offer left) (map holding_of_task rows.tasks) (started_by o starts))

  pub offer_held : IsHeld rows.agents rows.frameworks (holding_of_offer o)
  offer_held = held-offer_at rows number o consistent found

  -- if the tasks pass a test exactly if the offer did, only the rest of the offer is no longer held
  pub held_where-accepted : (test : Holding → Bool) (label : Text) → AllByRecursion IsBundle (uses starts) → HasAll o.bundle (uses starts)
      → ((s : Start) → test (holding_of_offer o) ≡ test (holding_of_task (task_of o s)))
      → held_where test (holdings_of rows) label
      ≡ held_where test (holdings_of (accepted_in rows o starts filters)) label
      + cond (test (holding_of_offer o)) (amount_of (quantities_of (rest_of_all o.bundle (uses starts))) label) 0
  held_where-accepted test label each has same =
      let now : held_where test (holdings_of after) label
      ≡ held_where test between label + cond (test (holding_of_offer o)) (sum_by (λ part. amount_of (quantities_of part) label) (uses starts)) 0 =
      ap (λ (hs : List Holding). held_where test hs label) tasks_last ∙ held_where-append test between (started_by o starts) label
      ∙ ap (λ (n : ℕ). held_where test between label + n) (held_where-started test label o starts same) in
      held_where-one_less (holdings_of rows) between (holding_of_offer o) offer_out test label
      ∙ by (test (holding_of_offer o)) (held_where test between label) _ _ _ (amount-rest o.bundle (uses starts) label offer_held.bundle each has)
      ∙ ap (λ (n : ℕ). n + cond (test (holding_of_offer o)) (amount_of (quantities_of (rest_of_all o.bundle (uses starts))) label) 0) (sym now)
    where
      by : (b : Bool) (n whole used rest : ℕ) → whole ≡ used + rest → n + cond b whole 0 ≡ n + cond b used 0 + cond b rest 0
      by true n whole used rest sums = omega (arith, sums)
      by false n whole used rest sums = omega arith

  -- on other agents the same is held
  pub parts_on-accepted : (agent : Text) → same_text o.agent agent ≡ false
      → parts_on agent (holdings_of (accepted_in rows o starts filters)) ≡ parts_on agent (holdings_of rows)
  parts_on-accepted agent past =
      ap (parts_on agent) tasks_last ∙ parts_on-append agent between (started_by o starts)
      ∙ ap (λ (ps : List (List Resource)). parts_on agent between ++ ps) (parts_on-started agent o starts past)
      ∙ append-nil (parts_on agent between)
      ∙ parts_on-one_less (holdings_of rows) between (holding_of_offer o) offer_out agent past

  -- on its own agent less is held, by the rest of the offer
  pub units-left : HasAll o.bundle (uses starts) → AllByRecursion IsBundle (uses starts) → (agent : Text) → same_text o.agent agent ≡ true
      → (key : Key) (p : Point)
      → units_of_all (parts_on agent (holdings_of rows)) key p
      ≡ units_of_all (parts_on agent (holdings_of (accepted_in rows o starts filters))) key p + units (rest_of_all o.bundle (uses starts)) key p
  units-left has each agent here key p =
      let offered : cond (same_text o.agent agent) (units o.bundle key p) 0 ≡ units o.bundle key p =
      ap (λ (b : Bool). cond b (units o.bundle key p) 0) here in
      let used : cond (same_text o.agent agent) (units_of_all (uses starts) key p) 0 ≡ units_of_all (uses starts) key p =
      ap (λ (b : Bool). cond b (units_of_all (uses starts) key p) 0) here in
      omega (
        arith,
        units-one_less (holdings_of rows) between (holding_of_offer o) offer_out agent key p,
        offered,
        ap (λ (hs : List Holding). units_on agent hs key p) tasks_last,
        units_on-append agent key p between (started_by o starts),
        units-started agent key p o starts,
        used,
        units-rest_of_all o.bundle (uses starts) key p offer_held.bundle each,
        has key p,
      )

  -- on no agent more is held
  pub units-accepted : HasAll o.bundle (uses starts) → (agent : Text) (key : Key) (p : Point)
      → units_of_all (parts_on agent (holdings_of (accepted_in rows o starts filters))) key p
      ≤ units_of_all (parts_on agent (holdings_of rows)) key p
  units-accepted has agent key p =
      omega (
        arith,
        units-one_less (holdings_of rows) between (holding_of_offer o) offer_out agent key p,
        ap (λ (hs : List Holding). units_on agent hs key p) tasks_last,
        units_on-append agent key p between (started_by o starts),
        units-started agent key p o starts,
        either (same_text o.agent agent) (units_of_all (uses starts) key p) (units o.bundle key p) (has key p),
      )
    where
      either : (b : Bool) (n m : ℕ) → n ≤ m → cond b n 0 ≤ cond b m 0
      either true n m le = le
      either false n m le = omega arith

  each_started : (ss : List Start) → AllByRecursion IsBundle (uses ss)
      → AllByRecursion (IsHeld rows.agents rows.frameworks) (started_by o ss)
  each_started [] each = tt
  each_started (s ∷ ss) each = (record { agent = offer_held.agent; client = offer_held.client; bundle = each.0 }, each_started ss each.1)

  pub IsConsistent-accepted : AllByRecursion IsBundle (uses starts) → CanStart rows o starts
      → AllByRecursion (IsFilter rows.agents rows.frameworks) filters
      → IsConsistent (accepted_in rows o starts filters)
  IsConsistent-accepted bundles can each =
      let Held : Holding → Type 0 = IsHeld rows.agents rows.frameworks in
      let has = units-covers_all o.bundle (uses starts) offer_held.bundle bundles can.covered in
      let at = (offer_at-place rows number o found).0 in
      let fewer : IsConsistent (record rows { offers = at.before ++ at.after })
      = IsConsistent-offer_out rows at.before at.after o at.stands consistent in
      let rising : are_rising (map number_of left) rows.next_offer ≡ true
      = ap (λ (os : List OfferRow). are_rising (map number_of os) rows.next_offer)
      (without_offer-place rows at.before at.after o consistent at.stands) ∙ fewer.numbered in
      let more : AllByRecursion Held (holdings_of after) = subst (AllByRecursion Held) (sym tasks_last)
      (each_append Held between (started_by o starts)
      (each-one_less (holdings_of rows) between (holding_of_offer o) offer_out Held consistent.holdings) (each_started starts bundles)) in
      IsConsistent-filters (record rows { offers = left; tasks = rows.tasks ++ map (task_of o) starts }) (rows.filters ++ filters)
      (IsConsistent-held rows left (rows.tasks ++ map (task_of o) starts) consistent more
      (each_from (IsCovered (holdings_of rows)) (IsCovered (holdings_of after)) rows.agents
      (λ a there key p. omega (arith, there key p, units-accepted has a.name key p)) consistent.covered)
      (tasks_apart rows.tasks (map (task_of o) starts) consistent.tasks (new_starts rows o starts can))
      rising)
      (each_append (IsFilter rows.agents rows.frameworks) rows.filters filters consistent.filters each)
