-- Lemmas about `specs/MovingLaws.antt`.
use Rattle.std.specs.Prelude.{◌≡◌, ℕ, ◌+◌, ◌≤◌, ◌<◌, Bool, true, false, not, ◌&&◌, List, [], ◌∷◌, map, find, filter, slice_get, Option, Some, None, IsTrue, if◌then◌else◌, nat_le}
use Rattle.std.specs.List.{list_all}
use Rattle.std.specs.Option.{option_map_or}
use Rattle.std.proofs.Common.{refl, sym, ap, subst, ◌∙◌, inl, inr, cond, arith, suc}
use Rattle.std.proofs.lemmas.Bool.{cases_Bool, and_parts, and_from, not-true, not-false, leb-true, leb-false, le-leb, false≢true}
use Rattle.drf_role.specs.Text.{Text, same_text}
use Rattle.drf_role.specs.TextLaws.{same_from_test}
use Rattle.drf_role.specs.Path.{Path}
use Rattle.drf_bundle.specs.Quantities.{amount_of, is_in_order, covers as covers_amounts}
use Rattle.drf_bundle.proofs.theorems.QuantitiesLaws.{covers_from}
use Rattle.drf_bundle.proofs.theorems.UnitProofs.{covers_by_units, quantities_no_zeros}
use Rattle.drf_bundle.specs.Bundle.{quantities_of, covers, is_default, is_unreserved, relabel}
use Rattle.drf_bundle.specs.declared.quantities.Entry.{Entry}
use Rattle.drf_bundle.specs.declared.resource.Resource.{Resource}
use Rattle.drf_rows.specs.LimitNumbers.{LimitNumbers}
use Rattle.drf_rows.specs.Cycle.{free_of}
use Rattle.drf_rows.specs.Consistent.{IsConsistent}
use Rattle.drf_rows.specs.Members.{has_agent}
use Rattle.drf_rows.specs.Offers.{is_empty}
use Rattle.drf_rows.specs.Quota.{Consumed, consumption, is_within, binds, stays_within, admits}
use Rattle.drf_row_laws.proofs.ReservationLaws.{CanMove, can_move-reserve, can_move-unreserve, can_exchange-reserve, can_exchange-unreserve, changed_back, found-with_total, moved_is_consumed}
use Rattle.drf_rows.specs.Step.{first_case, refusal_of, effect, rows_after, is_full}
use Rattle.drf_row_laws.proofs.StepLaws.{no_case_of, rows_after-accepted}
use Rattle.drf_rows.specs.Totals.{CanExchange, agent_at, total_at, with_total, exchanged, is_not_free}
use Rattle.drf_row_laws.proofs.TotalsLaws.{free_of-exchanged, cluster_total-exchanged}
use Rattle.drf_row_laws.proofs.TotalsLaws.{joined-exchanged, exchanged-back, bundle-exchanged, can_exchange-back, can_in_total, if_named, names-with_total, activity-with_total, has_agent-with_total}
use Rattle.drf_rows.specs.declared.event.Event.TheVariants.{Reserve, Unreserve, SetLimit}
use Rattle.drf_rows.specs.declared.reply.Refusal.{Refusal}
use Rattle.drf_rows.specs.declared.reply.Refusal.TheVariants.{HistoryFull, UnknownAgent, DefaultRole, Empty, NotUnreserved, NotCovered, OverLimit}
use Rattle.drf_rows.specs.declared.rows.AgentRow.{AgentRow}
use Rattle.drf_rows.specs.declared.rows.LimitRow.{LimitRow}
use Rattle.drf_rows.specs.declared.rows.Rows.{Rows}
use Rattle.drf_laws.specs.MovingLaws.{IsMoved, MovedOnly, ReservedCanBeGivenBack, GivenBackCanBeReserved, WithinLimitsItIsAdmitted, RefusedWouldPass, LimitsRefuseNothingElse, IsMovable, IsOverLimit}

-- ---- the part that is exchanged

find_other : (name other : Text) (made : List Resource → List Resource) (agents : List AgentRow) → same_text name other ≡ false
    → find (λ a. same_text a.name other) (map (total_at name made) agents) ≡ find (λ a. same_text a.name other) agents
find_other name other made [] apart = refl
find_other name other made (a ∷ agents) apart = elim (cases_Bool (same_text a.name name)) [
  | inl here ↦
      let past : same_text a.name other ≡ false = ap (λ n. same_text n other) (same_from_test a.name name here) ∙ apart in
      rw (here, past) (find_other name other made agents apart)
  | inr not_it ↦ elim (cases_Bool (same_text a.name other)) [
    | inl found ↦ rw (not_it, found) refl
    | inr later ↦ rw (not_it, later) (find_other name other made agents apart)
  ]
]

module _ (rows : Rows) (agent : Text) (row : AgentRow) (consistent : IsConsistent rows) (found : agent_at rows agent ≡ Some row)
    (old new : List Resource) (can : CanExchange (free_of rows row) old new) where
  abbrev after : Rows
  after = record rows { agents = with_total rows agent (exchanged old new) }

  in_total : CanExchange row.total old new
  in_total = can_in_total rows agent row consistent found old new can

  is_moved : IsMoved rows after agent row old new
  is_moved = record {
    only = refl;
    names = names-with_total rows agent (exchanged old new);
    activity = activity-with_total rows agent (exchanged old new);
    others = λ other apart. find_other agent other (exchanged old new) rows.agents apart;
    cluster = cluster_total-exchanged rows agent row consistent found old new can;
    total = exchanged old new row.total;
    changed = found-with_total agent (exchanged old new) rows.agents row found;
    joined = joined-exchanged row.total old new in_total;
    free = joined-exchanged (free_of rows row) old new can
        ∙ ap Some (sym (free_of-exchanged rows agent row consistent found old new can));
  }

  -- then the second part is free, and can be exchanged for the first one again
  back_free : covers (free_of after (record row { total = exchanged old new row.total })) new ≡ true
  back_free =
      ap (λ rs. covers rs new) (free_of-exchanged rows agent row consistent found old new can)
      ∙ (covers_by_units (exchanged old new (free_of rows row)) new (bundle-exchanged (free_of rows row) old new can) can.is_new).1
      (can_exchange-back (free_of rows row) old new can).covered

  free_again : is_not_free after agent new ≡ false
  free_again =
      ap (λ (f : Option AgentRow). option_map_or (λ a. not (covers (free_of after a) new)) f false)
      (found-with_total agent (exchanged old new) rows.agents row found)
      ∙ ap not back_free

  as_before : with_total after agent (exchanged new old) ≡ rows.agents
  as_before =
      changed_back agent (exchanged old new) (exchanged new old) rows.agents
      (if_named rows agent row consistent found (λ a. exchanged new old (exchanged old new a.total) ≡ a.total)
      (exchanged-back row.total old new in_total))

-- both searches find the same row
same_row : (rows : Rows) (agent : Text) (a b : AgentRow) → agent_at rows agent ≡ Some a → agent_at rows agent ≡ Some b → a ≡ b
same_row rows agent a b first second =
    let same : ◌≡◌ {A = Option AgentRow} (Some a) (Some b) = sym first ∙ second in
    cc

pub moved_only : MovedOnly
unfolding effect
moved_only limits rows agent role resources row consistent asked found = (
  λ accepted.
      let can = (can_move-reserve limits rows agent role resources accepted).0 in
      let same = same_row rows agent can.row row can.found found in
      is_moved rows agent row consistent found resources (relabel role resources)
      (subst (λ (r : AgentRow). CanExchange (free_of rows r) resources (relabel role resources)) same
      (can_exchange-reserve rows agent role resources consistent asked can)),
  λ accepted.
      let can = can_move-unreserve limits rows agent role resources accepted in
      let same = same_row rows agent can.row row can.found found in
      is_moved rows agent row consistent found (relabel role resources) resources
      (subst (λ (r : AgentRow). CanExchange (free_of rows r) (relabel role resources) resources) same
      (can_exchange-unreserve rows agent role resources consistent asked can)),
)

movable-reserve : (limits : LimitNumbers) (rows : Rows) (agent : Text) (role : Path) (resources : List Resource)
    → refusal_of limits rows (Reserve agent role resources) ≡ None → IsMovable rows agent role resources
movable-reserve limits rows agent role resources accepted =
    let no = (no_case_of limits rows (Reserve agent role resources) accepted).1 in
    record {
      known = not-false (has_agent rows agent) no.0;
      other = no.1.0;
      some = no.1.1.0;
      unreserved = not-false (is_unreserved resources) no.1.1.1.0;
    }

movable-unreserve : (limits : LimitNumbers) (rows : Rows) (agent : Text) (role : Path) (resources : List Resource)
    → refusal_of limits rows (Unreserve agent role resources) ≡ None → IsMovable rows agent role resources
movable-unreserve limits rows agent role resources accepted =
    let no = (no_case_of limits rows (Unreserve agent role resources) accepted).1 in
    record {
      known = not-false (has_agent rows agent) no.0;
      other = no.1.0;
      some = no.1.1.0;
      unreserved = not-false (is_unreserved resources) no.1.1.1.0;
    }

module _ (limits : LimitNumbers) (rows : Rows) (agent : Text) (role : Path) (resources : List Resource)
    (is : IsMovable rows agent role resources) (room : is_full limits rows ≡ false) where
  unreserve-accepted : is_not_free rows agent (relabel role resources) ≡ false
      → refusal_of limits rows (Unreserve agent role resources) ≡ None
  unfolding refusal_of
  unreserve-accepted free = rw (room, is.known, is.other, is.some, is.unreserved, free) refl

  reserve-decided : is_not_free rows agent resources ≡ false
      → refusal_of limits rows (Reserve agent role resources) ≡ (if admits rows role (quantities_of resources) then None else Some OverLimit)
  unfolding refusal_of
  reserve-decided free = rw (room, is.known, is.other, is.some, is.unreserved, free) (by (admits rows role (quantities_of resources)))
    where
      by : (b : Bool) → first_case ((not b, OverLimit) ∷ []) ≡ (if b then None else Some OverLimit)
      by true = refl
      by false = refl

-- the state after a part is exchanged and the event is counted
abbrev moved_rows : Rows → Text → List Resource → List Resource → Rows
moved_rows rows agent old new =
    record rows { agents = with_total rows agent (exchanged old new); events = rows.events + 1 }

module _ (rows : Rows) (agent : Text) (row : AgentRow) (consistent : IsConsistent rows) (found : agent_at rows agent ≡ Some row)
    (old new : List Resource) (can : CanExchange (free_of rows row) old new) where
  abbrev once_moved : Rows
  once_moved = moved_rows rows agent old new

  still_movable : (role : Path) (resources : List Resource) → IsMovable rows agent role resources → IsMovable once_moved agent role resources
  still_movable role resources is = record {
    known = has_agent-with_total rows agent (exchanged old new) agent ∙ is.known;
    other = is.other;
    some = is.some;
    unreserved = is.unreserved;
  }

  free_then : is_not_free once_moved agent new ≡ false
  unfolding free_of
  free_then = free_again rows agent row consistent found old new can

  all_as_before : moved_rows once_moved agent new old ≡ record rows { events = rows.events + 1 + 1 }
  all_as_before = λ i. record rows { agents = as_before rows agent row consistent found old new can i; events = rows.events + 1 + 1 }

module _ (limits : LimitNumbers) (rows : Rows) (agent : Text) (role : Path) (resources : List Resource) where
  after-reserve : refusal_of limits rows (Reserve agent role resources) ≡ None
      → rows_after limits rows (Reserve agent role resources) ≡ moved_rows rows agent resources (relabel role resources)
  unfolding effect
  after-reserve accepted = rows_after-accepted limits rows (Reserve agent role resources) accepted

  after-unreserve : refusal_of limits rows (Unreserve agent role resources) ≡ None
      → rows_after limits rows (Unreserve agent role resources) ≡ moved_rows rows agent (relabel role resources) resources
  unfolding effect
  after-unreserve accepted = rows_after-accepted limits rows (Unreserve agent role resources) accepted

pub reserved_can_be_given_back : ReservedCanBeGivenBack
reserved_can_be_given_back limits rows agent role resources consistent asked accepted room =
    subst (λ (r : Rows).
    (refusal_of limits r (Unreserve agent role resources) ≡ None)
    × (rows_after limits r (Unreserve agent role resources) ≡ record rows { events = rows.events + 1 + 1 }))
    (sym after) (taken, after-unreserve limits then_rows agent role resources taken ∙ all_as_before rows agent can.row consistent can.found resources (relabel role resources) exchange)
  where
    can : CanMove rows agent role resources resources
    can = (can_move-reserve limits rows agent role resources accepted).0

    exchange : CanExchange (free_of rows can.row) resources (relabel role resources)
    exchange = can_exchange-reserve rows agent role resources consistent asked can

    then_rows : Rows
    then_rows = moved_rows rows agent resources (relabel role resources)

    after : rows_after limits rows (Reserve agent role resources) ≡ then_rows
    after = after-reserve limits rows agent role resources accepted

    taken : refusal_of limits then_rows (Unreserve agent role resources) ≡ None
    taken =
        unreserve-accepted limits then_rows agent role resources
        (still_movable rows agent can.row consistent can.found resources (relabel role resources) exchange role resources (movable-reserve limits rows agent role resources accepted))
        (sym (ap (is_full limits) after) ∙ room)
        (free_then rows agent can.row consistent can.found resources (relabel role resources) exchange)

pub given_back_can_be_reserved : GivenBackCanBeReserved
given_back_can_be_reserved limits rows agent role resources consistent asked accepted room =
    subst (λ (r : Rows).
    (refusal_of limits r (Reserve agent role resources) ≡ (if admits r role (quantities_of resources) then None else Some OverLimit))
    × (IsTrue (admits r role (quantities_of resources))
    → rows_after limits r (Reserve agent role resources) ≡ record rows { events = rows.events + 1 + 1 }))
    (sym after) (
      decided,
      λ admitted.
          let taken : refusal_of limits then_rows (Reserve agent role resources) ≡ None =
          decided ∙ ap (λ (b : Bool). cond b None (Some OverLimit)) admitted in
          after-reserve limits then_rows agent role resources taken
          ∙ all_as_before rows agent can.row consistent can.found (relabel role resources) resources exchange,
    )
  where
    can : CanMove rows agent role resources (relabel role resources)
    can = can_move-unreserve limits rows agent role resources accepted

    exchange : CanExchange (free_of rows can.row) (relabel role resources) resources
    exchange = can_exchange-unreserve rows agent role resources consistent asked can

    then_rows : Rows
    then_rows = moved_rows rows agent (relabel role resources) resources

    after : rows_after limits rows (Unreserve agent role resources) ≡ then_rows
    after = after-unreserve limits rows agent role resources accepted

    decided : refusal_of limits then_rows (Reserve agent role resources)
        ≡ (if admits then_rows role (quantities_of resources) then None else Some OverLimit)
    decided =
        reserve-decided limits then_rows agent role resources
        (still_movable rows agent can.row consistent can.found (relabel role resources) resources exchange role resources (movable-unreserve limits rows agent role resources accepted))
        (sym (ap (is_full limits) after) ∙ room)
        (free_then rows agent can.row consistent can.found (relabel role resources) resources exchange)

-- ---- what limits admit

-- in a sorted list of amounts, each is at most the amount of its label
own_amounts : (es : List Entry) → IsTrue (is_in_order es) → IsTrue (covers_amounts es es)
own_amounts es ordered = covers_from es es ordered (λ label. omega arith)

module _ (consumed : Consumed) (role : Path) where
  abbrev all_stay : List LimitRow → Entry → Bool
  all_stay ls e = list_all (stays_within consumed e) (filter (binds role e.label) ls)

  some_stay : (e : Entry) (ls : List LimitRow)
      → ((place : ℕ) (l : LimitRow) → slice_get ls place ≡ Some l → binds role e.label l ≡ true → stays_within consumed e l ≡ true)
      → all_stay ls e ≡ true
  some_stay e [] each = refl
  some_stay e (l ∷ ls) each =
      let later = some_stay e ls (λ place m at binding. each (suc place) m at binding) in
      elim (cases_Bool (binds role e.label l)) [
        | inl here ↦ rw here (and_from (stays_within consumed e l) (all_stay ls e) (each 0 l refl here) later)
        | inr past ↦ rw past later
      ]

  all_admitted : (ls : List LimitRow) (whole es : List Entry) → IsTrue (covers_amounts whole es)
      → ((label : Text) (place : ℕ) (l : LimitRow) → slice_get ls place ≡ Some l → binds role label l ≡ true
      → consumed l.role label + amount_of whole label ≤ amount_of l.limit label)
      → list_all (all_stay ls) es ≡ true
  all_admitted ls whole [] part each = refl
  all_admitted ls whole (e ∷ es) part each =
      let parts = and_parts (nat_le e.amount (amount_of whole e.label)) (covers_amounts whole es) part in
      let little = leb-true e.amount (amount_of whole e.label) parts.0 in
      and_from (all_stay ls e) (list_all (all_stay ls) es)
      (some_stay e ls (λ place l at binding. le-leb (consumed l.role e.label + e.amount) (amount_of l.limit e.label)
      (omega (arith, each e.label place l at binding, little))))
      (all_admitted ls whole es parts.1 each)

  -- a limit that does not admit an amount
  pub record Passes (ls : List LimitRow) (whole : List Entry) : Type 0 where
    pub place : ℕ
    pub l : LimitRow
    pub at : slice_get ls place ≡ Some l
    pub label : Text
    pub binding : binds role label l ≡ true
    pub passed : amount_of l.limit label < consumed l.role label + amount_of whole label

  one_passes : (e : Entry) (whole : List Entry) → e.amount ≤ amount_of whole e.label → (ls : List LimitRow) → all_stay ls e ≡ false
      → Passes ls whole
  one_passes e whole little [] stay = absurd (false≢true (sym stay))
  one_passes e whole little (l ∷ ls) stay = elim (cases_Bool (binds role e.label l)) [
    | inl here ↦ elim (cases_Bool (stays_within consumed e l)) [
      | inl within ↦
          let stay_later : all_stay ls e ≡ false =
          sym (ap (λ (b : Bool). b && all_stay ls e) within)
          ∙ sym (ap (λ (b : Bool). list_all (stays_within consumed e) (cond b (l ∷ filter (binds role e.label) ls) (filter (binds role e.label) ls))) here) ∙ stay in
          let later = one_passes e whole little ls stay_later in
          record { place = suc later.place; l = later.l; at = later.at; label = later.label; binding = later.binding; passed = later.passed }
      | inr beyond ↦
          record {
            place = 0;
            l = l;
            at = refl;
            label = e.label;
            binding = here;
            passed = omega (arith, leb-false (consumed l.role e.label + e.amount) (amount_of l.limit e.label) beyond, little);
          }
    ]
    | inr past ↦
        let stay_later : all_stay ls e ≡ false =
        sym (ap (λ (b : Bool). list_all (stays_within consumed e) (cond b (l ∷ filter (binds role e.label) ls) (filter (binds role e.label) ls))) past) ∙ stay in
        let later = one_passes e whole little ls stay_later in
        record { place = suc later.place; l = later.l; at = later.at; label = later.label; binding = later.binding; passed = later.passed }
  ]

  some_passes : (ls : List LimitRow) (whole es : List Entry) → IsTrue (covers_amounts whole es) → list_all (all_stay ls) es ≡ false
      → Passes ls whole
  some_passes ls whole [] part stay = absurd (false≢true (sym stay))
  some_passes ls whole (e ∷ es) part stay =
      let parts = and_parts (nat_le e.amount (amount_of whole e.label)) (covers_amounts whole es) part in
      elim (cases_Bool (all_stay ls e)) [
        | inl here ↦ some_passes ls whole es parts.1 (sym (ap (λ (b : Bool). b && list_all (all_stay ls) es) here) ∙ stay)
        | inr past ↦ one_passes e whole (leb-true e.amount (amount_of whole e.label) parts.0) ls past
      ]

pub within_limits_it_is_admitted : WithinLimitsItIsAdmitted
unfolding effect
within_limits_it_is_admitted limits rows agent role resources consistent asked accepted within =
    let amounts : List Entry = quantities_of resources in
    let given : Rows = moved_rows rows agent (relabel role resources) resources in
    subst (λ (r : Rows). IsTrue (admits r role amounts)) (sym (after-unreserve limits rows agent role resources accepted))
    (all_admitted (consumption given) role rows.limits amounts amounts (own_amounts amounts (quantities_no_zeros resources asked.bundle).in_order)
    (λ label place l at binding. omega (
      arith,
      within label place l at binding,
      (moved_is_consumed limits rows agent role resources (is_within l.role) label consistent asked).1 accepted,
      ap (λ (b : Bool). cond b (amount_of amounts label) 0) (and_parts (is_within l.role role) _ binding).0,
    )))

-- ---- reservations that limits refuse

-- if the refusal is not that of the first case, it comes from the other cases
later_case : (b : Bool) (r q : Refusal) (cases : List (Bool × Refusal)) → (r ≡ q → ⊥) → first_case ((b, r) ∷ cases) ≡ Some q
    → (b ≡ false) × (first_case cases ≡ Some q)
later_case true r q cases apart reported =
    let same : r ≡ q = cc in
    absurd (apart same)
later_case false r q cases apart reported = (refl, reported)

last_case : (b : Bool) (q : Refusal) → first_case ((b, q) ∷ []) ≡ Some q → b ≡ true
last_case true q reported = refl
last_case false q reported = cc

module _ (rows : Rows) (agent : Text) (role : Path) (resources : List Resource) where
  abbrev from_limit : List (Bool × Refusal)
  from_limit = (not (admits rows role (quantities_of resources)), OverLimit) ∷ []

  abbrev from_free : List (Bool × Refusal)
  from_free = (is_not_free rows agent resources, NotCovered) ∷ from_limit

  abbrev from_unreserved : List (Bool × Refusal)
  from_unreserved = (not (is_unreserved resources), NotUnreserved) ∷ from_free

  abbrev from_some : List (Bool × Refusal)
  from_some = (is_empty resources, Empty) ∷ from_unreserved

  abbrev from_role : List (Bool × Refusal)
  from_role = (is_default role, DefaultRole) ∷ from_some

  abbrev from_known : List (Bool × Refusal)
  from_known = (not (has_agent rows agent), UnknownAgent) ∷ from_role

  over_limit : (limits : LimitNumbers) → refusal_of limits rows (Reserve agent role resources) ≡ Some OverLimit
      → (is_full limits rows ≡ false) × IsOverLimit rows agent role resources
  unfolding refusal_of
  over_limit limits reported =
      let full = later_case (is_full limits rows) HistoryFull OverLimit from_known (λ e. cc) reported in
      let known = later_case (not (has_agent rows agent)) UnknownAgent OverLimit from_role (λ e. cc) full.1 in
      let other = later_case (is_default role) DefaultRole OverLimit from_some (λ e. cc) known.1 in
      let some = later_case (is_empty resources) Empty OverLimit from_unreserved (λ e. cc) other.1 in
      let unreserved = later_case (not (is_unreserved resources)) NotUnreserved OverLimit from_free (λ e. cc) some.1 in
      let free = later_case (is_not_free rows agent resources) NotCovered OverLimit from_limit (λ e. cc) unreserved.1 in (
        full.0,
        record {
          movable = record {
            known = not-false (has_agent rows agent) known.0;
            other = other.0;
            some = some.0;
            unreserved = not-false (is_unreserved resources) unreserved.0;
          };
          free = free.0;
          beyond = not-true (admits rows role (quantities_of resources)) (last_case (not (admits rows role (quantities_of resources))) OverLimit free.1);
        },
      )

-- without limits all amounts are admitted
without_limits : (consumed : Consumed) (role : Path) (es : List Entry) → list_all (all_stay consumed role []) es ≡ true
without_limits consumed role [] = refl
without_limits consumed role (e ∷ es) = without_limits consumed role es

unlimited : (rows : Rows) → IsConsistent rows → IsConsistent (record rows { limits = [] })
unlimited rows consistent = record {
  agents = consistent.agents;
  frameworks = consistent.frameworks;
  holdings = consistent.holdings;
  covered = consistent.covered;
  tasks = consistent.tasks;
  weights = consistent.weights;
  limits = record { roles = refl; each = refl; valid = tt };
  filters = consistent.filters;
  early = consistent.early;
  counted = consistent.counted;
  numbered = consistent.numbered;
}

pub refused_would_pass : RefusedWouldPass
unfolding effect free_of
refused_would_pass limits rows agent role resources consistent asked reported =
    let amounts : List Entry = quantities_of resources in
    let over = over_limit rows agent role resources limits reported in
    let free_rows : Rows = record rows { limits = [] } in
    let accepted : refusal_of limits free_rows (Reserve agent role resources) ≡ None =
    reserve-decided limits free_rows agent role resources
    (record { known = over.1.movable.known; other = over.1.movable.other; some = over.1.movable.some; unreserved = over.1.movable.unreserved })
    over.0 over.1.free
    ∙ ap (λ (b : Bool). cond b None (Some OverLimit)) (without_limits (consumption free_rows) role amounts) in
    let passes = some_passes (consumption rows) role rows.limits amounts amounts
    (own_amounts amounts (quantities_no_zeros resources asked.bundle).in_order) over.1.beyond in
    let moved = (moved_is_consumed limits free_rows agent role resources (is_within passes.l.role) passes.label (unlimited rows consistent) asked).0 accepted in
    record {
      place = passes.place;
      l = passes.l;
      at = passes.at;
      label = passes.label;
      binding = passes.binding;
      passed = omega (
        arith,
        passes.passed,
        moved,
        ap (λ (b : Bool). cond b (amount_of amounts passes.label) 0) (and_parts (is_within passes.l.role role) _ passes.binding).0,
      );
    }

pub limits_refuse_nothing_else : LimitsRefuseNothingElse
unfolding refusal_of free_of
limits_refuse_nothing_else limits rows others (Reserve agent role resources) none = cc
limits_refuse_nothing_else limits rows others (SetLimit role limit) none = cc
limits_refuse_nothing_else limits rows others event none = refl
