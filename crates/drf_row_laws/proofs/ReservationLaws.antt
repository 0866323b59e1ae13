-- Lemmas about `specs/ReservationLaws.antt`.
use Rattle.std.specs.Prelude.{◌≡◌, ℕ, ◌+◌, ◌≤◌, max, Bool, true, false, not, ◌&&◌, ◌||◌, List, [], ◌∷◌, map, find, filter, sum_by, slice_get, Option, Some, None}
use Rattle.std.specs.List.{list_any, list_all, AllByRecursion}
use Rattle.std.specs.Option.{option_map_or}
use Rattle.std.proofs.Common.{refl, sym, ap, subst, ◌∙◌, inl, inr, cond, arith, zero, suc}
use Rattle.std.proofs.lemmas.Bool.{cases_Bool, and_parts, and_from, leb-true, not-false, false≢true}
use Rattle.drf_role.specs.Text.{Text, same_text}
use Rattle.drf_role.specs.TextLaws.{same_from_test}
use Rattle.drf_role.specs.Path.{Path}
use Rattle.drf_role.specs.Parts.{parts_of, text_of}
use Rattle.drf_bundle.specs.Value.{Thousandths, units_in}
use Rattle.drf_bundle.specs.Quantities.{amount_of, is_named}
use Rattle.drf_bundle.specs.Bundle.{same_key, IsBundle, units_where, stock, quantities_of, covers, is_default, is_unreserved, relabel}
use Rattle.drf_bundle.specs.laws.KeyLaws.{unit_of, where-cons}
use Rattle.drf_bundle.specs.laws.SumLaws.{of_name}
use Rattle.drf_bundle.proofs.theorems.SumLaws.{amount-quantities_of}
use Rattle.drf_bundle.specs.Taken.{units_of_all}
use Rattle.drf_bundle.proofs.theorems.TakenLaws.{joined-rest_of_all}
use Rattle.drf_bundle.specs.declared.quantities.Entry.{Entry}
use Rattle.drf_bundle.specs.declared.resource.Resource.{Resource}
use Rattle.drf_rows.specs.LimitNumbers.{LimitNumbers}
use Rattle.drf_rows.specs.Holdings.{holdings_of, parts_on}
use Rattle.drf_row_laws.proofs.HoldingsLaws.{each_part}
use Rattle.drf_rows.specs.Cycle.{free_of}
use Rattle.drf_rows.specs.Members.{has_agent}
use Rattle.drf_rows.specs.Consistent.{IsAgent, IsCovered, IsConsistent, IsConserved}
use Rattle.drf_row_laws.proofs.ConsistentLaws.{bundles-consistent}
use Rattle.drf_row_laws.proofs.ReleaseLaws.{sum_by-out}
use Rattle.drf_rows.proofs.TaskLaws.{units-covers_all}
use Rattle.drf_rows.specs.Quota.{reserves, unreserved_in, reserved_in, consumption_where, consumption, is_within, binds, stays_within, admits}
use Rattle.drf_row_laws.proofs.QuotaLaws.{moved_is_reserved}
use Rattle.drf_rows.specs.Step.{refusal_of, effect}
use Rattle.drf_row_laws.proofs.StepLaws.{no_case_of}
use Rattle.drf_rows.specs.Totals.{CanExchange, agent_at, total_at, with_total, with_other_total, exchanged, is_not_free, is_below_held}
use Rattle.drf_row_laws.proofs.TotalsLaws.{can_reserve, can_unreserve, where-exchanged, exchanged-back, with_total-place, agents_before, agents_after, agents_stand, same_name, if_named, bundle_free, can_in_total, names-with_total, activity-with_total, IsRightTotal, IsConsistent-with_total}
use Rattle.drf_rows.specs.declared.event.Event.TheVariants.{SetAgent, Reserve, Unreserve}
use Rattle.drf_rows.specs.declared.rows.AgentRow.{AgentRow}
use Rattle.drf_rows.specs.declared.rows.LimitRow.{LimitRow}
use Rattle.drf_rows.specs.declared.rows.Rows.{Rows}
use Rattle.drf_row_laws.specs.ReservationLaws.{IsAsked, ReservedIsGivenBack, ReservingKeepsLimits, MovedIsConsumed, ChangedAgentKeepsAll}

-- ---- an accepted event

-- a registered agent is found
pub found_known : (rows : Rows) (agent : Text) → has_agent rows agent ≡ true → (row : AgentRow) × (agent_at rows agent ≡ Some row)
found_known rows agent known = by rows.agents known
  where
    by : (agents : List AgentRow) → list_any (λ a. same_text a.name agent) agents ≡ true
        → (row : AgentRow) × (find (λ a. same_text a.name agent) agents ≡ Some row)
    by [] known = absurd (false≢true known)
    by (a ∷ agents) known = elim (cases_Bool (same_text a.name agent)) [
      | inl here ↦ (a, rw here refl)
      | inr past ↦
          let later = by agents (sym (ap (λ (b : Bool). b || list_any (λ a. same_text a.name agent) agents) past) ∙ known) in
          (later.0, ap (λ (b : Bool). cond b (Some a) (find (λ a. same_text a.name agent) agents)) past ∙ later.1)
    ]

-- what is true if reserving or unreserving is accepted
pub record CanMove (rows : Rows) (agent : Text) (role : Path) (resources moved : List Resource) : Type 0 where
  pub row : AgentRow
  pub found : agent_at rows agent ≡ Some row
  pub other : is_default role ≡ false
  pub unreserved : is_unreserved resources ≡ true
  pub free : covers (free_of rows row) moved ≡ true

pub can_move : (rows : Rows) (agent : Text) (role : Path) (resources moved : List Resource)
    → has_agent rows agent ≡ true → is_default role ≡ false → is_unreserved resources ≡ true → is_not_free rows agent moved ≡ false
    → CanMove rows agent role resources moved
can_move rows agent role resources moved known other unreserved free =
    let at = found_known rows agent known in
    record {
      row = at.0;
      found = at.1;
      other = other;
      unreserved = unreserved;
      free = not-false (covers (free_of rows at.0) moved)
          (sym (ap (λ (o : Option AgentRow). option_map_or (λ a. not (covers (free_of rows a) moved)) o false) at.1) ∙ free);
    }

module _ (limits : LimitNumbers) (rows : Rows) (agent : Text) (role : Path) (resources : List Resource) where
  pub can_move-reserve : refusal_of limits rows (Reserve agent role resources) ≡ None
      → CanMove rows agent role resources resources × (admits rows role (quantities_of resources) ≡ true)
  can_move-reserve accepted =
      let known = (no_case_of limits rows (Reserve agent role resources) accepted).1 in
      let some = known.1.1 in (
        can_move rows agent role resources resources (not-false (has_agent rows agent) known.0) known.1.0
            (not-false (is_unreserved resources) some.1.0) some.1.1.0,
        not-false (admits rows role (quantities_of resources)) some.1.1.1.0,
      )

  pub can_move-unreserve : refusal_of limits rows (Unreserve agent role resources) ≡ None
      → CanMove rows agent role resources (relabel role resources)
  can_move-unreserve accepted =
      let known = (no_case_of limits rows (Unreserve agent role resources) accepted).1 in
      let some = known.1.1 in
      can_move rows agent role resources (relabel role resources) (not-false (has_agent rows agent) known.0) known.1.0
      (not-false (is_unreserved resources) some.1.0) some.1.1.0

-- ---- the part that is exchanged

module _ (rows : Rows) (agent : Text) (role : Path) (resources : List Resource) (consistent : IsConsistent rows) (asked : IsAsked role resources) where
  pub can_exchange-reserve : (can : CanMove rows agent role resources resources)
      → CanExchange (free_of rows can.row) resources (relabel role resources)
  can_exchange-reserve can =
      can_reserve role resources asked.is_role asked.role_read asked.bundle can.unreserved (free_of rows can.row)
      (bundle_free rows agent can.row consistent can.found) can.free

  pub can_exchange-unreserve : (can : CanMove rows agent role resources (relabel role resources))
      → CanExchange (free_of rows can.row) (relabel role resources) resources
  can_exchange-unreserve can =
      can_unreserve role resources asked.is_role asked.role_read asked.bundle can.unreserved (free_of rows can.row)
      (bundle_free rows agent can.row consistent can.found) can.free

-- two changes, of which the second undoes the first
pub changed_back : (name : Text) (f g : List Resource → List Resource) (agents : List AgentRow)
    → AllByRecursion (λ a. same_text a.name name ≡ true → g (f a.total) ≡ a.total) agents
    → map (total_at name g) (map (total_at name f) agents) ≡ agents
changed_back name f g [] back = refl
changed_back name f g (a ∷ agents) back = λ i. one a back.0 i ∷ changed_back name f g agents back.1 i
  where
    one : (a : AgentRow) → (same_text a.name name ≡ true → g (f a.total) ≡ a.total) → total_at name g (total_at name f a) ≡ a
    one a back = elim (cases_Bool (same_text a.name name)) [
      | inl here ↦
          let same = back here in
          rw (here, here) (λ i. record a { total = same i })
      | inr past ↦ rw (past, past) refl
    ]

pub reserved_is_given_back : ReservedIsGivenBack
unfolding effect
reserved_is_given_back limits rows agent role resources consistent asked accepted =
    let can = (can_move-reserve limits rows agent role resources accepted).0 in
    let moved : List Resource = relabel role resources in
    let total = can_in_total rows agent can.row consistent can.found resources moved
    (can_exchange-reserve rows agent role resources consistent asked can) in
    let same = changed_back agent (exchanged resources moved) (exchanged moved resources) rows.agents
    (if_named rows agent can.row consistent can.found
    (λ a. exchanged moved resources (exchanged resources moved a.total) ≡ a.total)
    (exchanged-back can.row.total resources moved total)) in
    λ i. record rows { agents = same i }

-- ---- consumption

-- an unreserved bundle has nothing reserved, and all of it is unreserved
module _ (test : Path → Bool) (label : Text) where
  none_here : (a : Bool) (n : ℕ) → cond (a && false) n 0 ≡ 0
  none_here true n = refl
  none_here false n = refl

  all_here : (a : Bool) (n : ℕ) → cond (a && true) n 0 ≡ cond a n 0
  all_here true n = refl
  all_here false n = refl

  reserved_in-unreserved : (rs : List Resource) → is_unreserved rs ≡ true → reserved_in test label rs ≡ 0
  reserved_in-unreserved [] free = refl
  reserved_in-unreserved (r ∷ rs) free =
      let parts = and_parts (is_default r.role) (is_unreserved rs) free in
      let here : unit_of (reserves test label) Thousandths r ≡ 0 =
      ap (λ b. cond (same_text label r.label && (not (same_text (cond b [] (text_of r.role)) []) && test (parts_of (cond b [] (text_of r.role))))) (units_in r.value Thousandths) 0) parts.0
      ∙ none_here (same_text label r.label) (units_in r.value Thousandths) in
      omega (arith, where-cons (reserves test label) Thousandths r rs, here, reserved_in-unreserved rs parts.1)

  pub unreserved_in-all : (rs : List Resource) → is_unreserved rs ≡ true → unreserved_in label rs ≡ amount_of (quantities_of rs) label
  unreserved_in-all rs free = by rs free ∙ sym (amount-quantities_of rs label)
    where
      by : (rs : List Resource) → is_unreserved rs ≡ true → unreserved_in label rs ≡ stock rs label Thousandths
      by [] free = refl
      by (r ∷ rs) free =
          let parts = and_parts (is_default r.role) (is_unreserved rs) free in
          let here : unit_of (same_key (label, [])) Thousandths r ≡ unit_of (of_name label) Thousandths r =
          ap (λ b. cond (same_text label r.label && same_text [] (cond b [] (text_of r.role))) (units_in r.value Thousandths) 0) parts.0
          ∙ all_here (same_text label r.label) (units_in r.value Thousandths) in
          omega (
            arith,
            where-cons (same_key (label, [])) Thousandths r rs,
            where-cons (of_name label) Thousandths r rs,
            here,
            by rs parts.1,
          )

-- only the total of one agent makes a difference
module _ (rows : Rows) (name : Text) (a : AgentRow) (consistent : IsConsistent rows) (found : agent_at rows name ≡ Some a)
    (made : List Resource → List Resource) (test : Path → Bool) (label : Text) where
  pub consumption-with_total :
      consumption_where test (record rows { agents = with_total rows name made }) label + reserved_in test label a.total
      ≡ consumption_where test rows label + reserved_in test label (made a.total)
  consumption-with_total =
      let of : AgentRow → ℕ = λ b. reserved_in test label b.total in
      let before : List AgentRow = agents_before rows name a consistent found in
      let after : List AgentRow = agents_after rows name a consistent found in
      omega (
        arith,
        ap (sum_by of) (with_total-place rows name a consistent found made),
        ap (sum_by of) (agents_stand rows name a consistent found),
        sum_by-out of before after (record a { total = made a.total }),
        sum_by-out of before after a,
      )

pub moved_is_consumed : MovedIsConsumed
unfolding effect
moved_is_consumed limits rows agent role resources test label consistent asked = (reserving, giving_back)
  where
    moved : List Resource
    moved = relabel role resources

    counted : (can_free : is_unreserved resources ≡ true) → is_default role ≡ false
        → reserved_in test label moved ≡ cond (test role) (amount_of (quantities_of resources) label) 0
    counted free other =
        moved_is_reserved test role resources label asked.is_role asked.role_read other free
        ∙ ap (λ n. cond (test role) n 0) (unreserved_in-all test label resources free)

    reserving : refusal_of limits rows (Reserve agent role resources) ≡ None
        → consumption_where test (effect rows (Reserve agent role resources)) label
        ≡ consumption_where test rows label + cond (test role) (amount_of (quantities_of resources) label) 0
    reserving accepted =
        let can = (can_move-reserve limits rows agent role resources accepted).0 in
        let total = can_in_total rows agent can.row consistent can.found resources moved
        (can_exchange-reserve rows agent role resources consistent asked can) in
        omega (
          arith,
          consumption-with_total rows agent can.row consistent can.found (exchanged resources moved) test label,
          where-exchanged can.row.total resources moved total (reserves test label) Thousandths,
          reserved_in-unreserved test label resources can.unreserved,
          counted can.unreserved can.other,
        )

    giving_back : refusal_of limits rows (Unreserve agent role resources) ≡ None
        → consumption_where test (effect rows (Unreserve agent role resources)) label + cond (test role) (amount_of (quantities_of resources) label) 0
        ≡ consumption_where test rows label
    giving_back accepted =
        let can = can_move-unreserve limits rows agent role resources accepted in
        let total = can_in_total rows agent can.row consistent can.found moved resources
        (can_exchange-unreserve rows agent role resources consistent asked can) in
        omega (
          arith,
          consumption-with_total rows agent can.row consistent can.found (exchanged moved resources) test label,
          where-exchanged can.row.total moved resources total (reserves test label) Thousandths,
          reserved_in-unreserved test label resources can.unreserved,
          counted can.unreserved can.other,
        )

-- ---- what limits admit

-- if all limits admit an amount, so does each one
admitted_by : (more : Entry) (consumed : Path → Text → ℕ) (role : Path) (ls : List LimitRow) (place : ℕ) (l : LimitRow)
    → list_all (stays_within consumed more) (filter (binds role more.label) ls) ≡ true
    → slice_get ls place ≡ Some l → binds role more.label l ≡ true → stays_within consumed more l ≡ true
admitted_by more consumed role [] place l all at here = cc
admitted_by more consumed role (x ∷ xs) zero l all at here =
    let same : x ≡ l = cc in
    let binding : binds role more.label x ≡ true = ap (binds role more.label) same ∙ here in
    let parts = and_parts (stays_within consumed more x) (list_all (stays_within consumed more) (filter (binds role more.label) xs))
    (sym (ap (λ (b : Bool). list_all (stays_within consumed more) (cond b (x ∷ filter (binds role more.label) xs) (filter (binds role more.label) xs))) binding) ∙ all) in
    sym (ap (stays_within consumed more) same) ∙ parts.0
admitted_by more consumed role (x ∷ xs) (suc place) l all at here = elim (cases_Bool (binds role more.label x)) [
  | inl binding ↦
      admitted_by more consumed role xs place l
      (and_parts (stays_within consumed more x) (list_all (stays_within consumed more) (filter (binds role more.label) xs))
      (sym (ap (λ (b : Bool). list_all (stays_within consumed more) (cond b (x ∷ filter (binds role more.label) xs) (filter (binds role more.label) xs))) binding) ∙ all)).1
      at here
  | inr past ↦
      admitted_by more consumed role xs place l
      (sym (ap (λ (b : Bool). list_all (stays_within consumed more) (cond b (x ∷ filter (binds role more.label) xs) (filter (binds role more.label) xs))) past) ∙ all)
      at here
]

-- with admitted amounts a role consumes at most its limit, or what it consumed before
admitted_amount : (rows : Rows) (role : Path) (amounts : List Entry) (label : Text) (place : ℕ) (l : LimitRow)
    → admits rows role amounts ≡ true → slice_get rows.limits place ≡ Some l → binds role label l ≡ true
    → consumption rows l.role label + amount_of amounts label ≤ max (amount_of l.limit label) (consumption rows l.role label)
admitted_amount rows role [] label place l all at here = omega arith
admitted_amount rows role (e ∷ es) label place l all at here =
    let parts = and_parts (list_all (stays_within (consumption rows) e) (filter (binds role e.label) rows.limits)) (admits rows role es) all in
    elim (cases_Bool (same_text e.label label)) [
      | inl same ↦
          let name : e.label ≡ label = same_from_test e.label label same in
          let within = admitted_by e (consumption rows) role rows.limits place l parts.0 at (ap (λ n. binds role n l) name ∙ here) in
          let le = leb-true (consumption rows l.role e.label + e.amount) (amount_of l.limit e.label) within in
          omega (
            arith,
            le,
            ap (consumption rows l.role) name,
            ap (amount_of l.limit) name,
            ap (λ (b : Bool). cond b e.amount (amount_of es label)) same,
          )
      | inr other ↦
          omega (
            arith,
            ap (λ (b : Bool). cond b e.amount (amount_of es label)) other,
            admitted_amount rows role es label place l parts.1 at here,
          )
    ]

pub reserving_keeps_limits : ReservingKeepsLimits
reserving_keeps_limits limits rows agent role resources label place l consistent asked accepted at named =
    let all = (can_move-reserve limits rows agent role resources accepted).1 in
    let moved = (moved_is_consumed limits rows agent role resources (is_within l.role) label consistent asked).0 accepted in
    elim (cases_Bool (is_within l.role role)) [
      | inl within ↦
          omega (
            arith,
            moved,
            ap (λ (b : Bool). cond b (amount_of (quantities_of resources) label) 0) within,
            admitted_amount rows role (quantities_of resources) label place l all at (and_from (is_within l.role role) (is_named l.limit label) within named),
          )
      | inr outside ↦ omega (arith, moved, ap (λ (b : Bool). cond b (amount_of (quantities_of resources) label) 0) outside)
    ]

-- ---- a new total

module _ (rows : Rows) (name : Text) (a : AgentRow) (total : List Resource) (consistent : IsConsistent rows)
    (found : agent_at rows name ≡ Some a) (right : IsBundle total) (all : is_below_held rows name total ≡ false) where
  abbrev pub changed : AgentRow
  changed = record a { total = total }

  pub covered-other_total : IsCovered (holdings_of rows) changed
  covered-other_total key p =
      subst (λ (n : Text). units_of_all (parts_on n (holdings_of rows)) key p ≤ units_where (same_key key) p total)
      (sym (same_name rows name a consistent found))
      (units-covers_all total (parts_on name (holdings_of rows)) right
      (each_part name (holdings_of rows) (bundles-consistent rows consistent)) (not-false _ all) key p)

  pub IsConsistent-other_total : IsAgent changed → IsConsistent (record rows { agents = with_other_total rows name total })
  IsConsistent-other_total agent =
      IsConsistent-with_total rows name (λ old. total) consistent
      (if_named rows name a consistent found (IsRightTotal rows name (λ old. total))
      (record { agent = agent; covered = covered-other_total }))

  conserved-other_total : IsConserved (record rows { agents = with_other_total rows name total }) changed
  unfolding free_of
  conserved-other_total =
      joined-rest_of_all total (parts_on a.name (holdings_of rows)) right
      (each_part a.name (holdings_of rows) (bundles-consistent rows consistent)) covered-other_total

-- the same agent is found afterwards
pub found-with_total : (name : Text) (made : List Resource → List Resource) (agents : List AgentRow) (a : AgentRow)
    → find (λ b. same_text b.name name) agents ≡ Some a
    → find (λ b. same_text b.name name) (map (total_at name made) agents) ≡ Some (record a { total = made a.total })
found-with_total name made [] a found = cc
found-with_total name made (b ∷ agents) a found = elim (cases_Bool (same_text b.name name)) [
  | inl here ↦
      let same : ◌≡◌ {A = Option AgentRow} (Some b) (Some a) =
      sym (ap (λ (t : Bool). cond t (Some b) (find (λ b. same_text b.name name) agents)) here) ∙ found in
      let is : b ≡ a = cc in
      rw (here, here) (λ i. Some (record (is i) { total = made (is i).total }))
  | inr past ↦
      let later = sym (ap (λ (t : Bool). cond t (Some b) (find (λ b. same_text b.name name) agents)) past) ∙ found in
      rw (past, past) (found-with_total name made agents a later)
]

pub changed_agent_keeps_all : ChangedAgentKeepsAll
unfolding effect
changed_agent_keeps_all limits rows agent total row consistent right found accepted =
    let all = (no_case_of limits rows (SetAgent agent total) accepted).1.1.0 in (
      refl,
      found-with_total agent (λ old. total) rows.agents row found,
      names-with_total rows agent (λ old. total),
      activity-with_total rows agent (λ old. total),
      conserved-other_total rows agent row total consistent found right all,
    )
