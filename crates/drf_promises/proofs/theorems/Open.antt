-- In an open cluster, a turn offers everything that is free to the first client, or nothing to any client.
use Rattle.std.specs.Prelude.{◌≡◌, ℕ, ◌≤◌, max, Bool, true, false, not, ◌&&◌, List, [], ◌∷◌, filter, Option, Some, None, if◌then◌else◌, nat_lt}
use Rattle.std.specs.List.{AllByRecursion, list_all}
use Rattle.std.proofs.Common.{refl, sym, ap, subst, ◌∙◌, inl, inr, ◌⊎◌, arith}
use Rattle.std.proofs.lemmas.Bool.{cases_Bool, and_parts, and_from, or_left}
use Rattle.drf_role.specs.Path.{Path, begins_with}
use Rattle.drf_bundle.specs.Bundle.{IsBundle, is_default, is_for, is_unreserved, rest, left_of}
use Rattle.drf_bundle.specs.Value.{amount_in}
use Rattle.drf_bundle.specs.Taken.{rest_of_all}
use Rattle.drf_bundle.proofs.theorems.PartLaws.{part_for-all}
use Rattle.drf_bundle.specs.declared.resource.Resource.{Resource}
use Rattle.drf_rows.specs.Client.{Client}
use Rattle.drf_rows.specs.Cycle.{free_of, is_allocatable, grant, new_offer, with_offer, all_tried, turn_order, turn, at_timestamp, cycle}
use Rattle.drf_rows.specs.Filters.{is_held_back}
use Rattle.drf_rows.specs.Holdings.{holdings_of, parts_on, AreBundles}
use Rattle.drf_rows.specs.Quota.{headroom, headrooms, consumption, entitlement}
use Rattle.drf_row_laws.proofs.CycleLaws.{bundle-free_of, entitlement-unlimited, all_tried_none, all_tried_first}
use Rattle.drf_rows.specs.declared.rows.AgentRow.{AgentRow}
use Rattle.drf_rows.specs.declared.rows.FilterRow.{FilterRow}
use Rattle.drf_rows.specs.declared.rows.Rows.{Rows}
use Rattle.drf_rows.specs.Consistent.{IsAgent}
use Rattle.drf_rows.specs.Held.{active_clients}
use Rattle.drf_bundle.proofs.ListLaws.{each_at, each_filter, each_from_both}
use Rattle.drf_row_laws.proofs.LiveLaws.{kept-turns}
use Rattle.drf_row_laws.proofs.OthersLaws.{cycle_only_offers}
use Rattle.drf_promises.specs.Cycles.{active_agents, AllIsHandedOut, GetsNothing, IsOpen}
use Rattle.drf_promises.proofs.theorems.Cycles.{cycles_leave_nothing, end}
use Rattle.drf_promises.proofs.theorems.Unfiltered.{unheld}

-- ---- the rest of an unreserved bundle

unreserved-rest : (whole part : List Resource) → is_unreserved whole ≡ true → is_unreserved (rest whole part) ≡ true
unreserved-rest [] part none = refl
unreserved-rest (r ∷ whole) part none =
    let parts = and_parts (is_default r.role) (is_unreserved whole) none in
    elim (cases_Bool (nat_lt 0 (amount_in (left_of part r).value))) [
      | inl some ↦ rw some (and_from (is_default r.role) _ parts.0 (unreserved-rest whole part parts.1))
      | inr gone ↦ rw gone (unreserved-rest whole part parts.1)
    ]

unreserved-rest_of_all : (whole : List Resource) (parts : List (List Resource)) → is_unreserved whole ≡ true → is_unreserved (rest_of_all whole parts) ≡ true
unreserved-rest_of_all whole [] none = none
unreserved-rest_of_all whole (part ∷ parts) none = unreserved-rest_of_all (rest whole part) parts (unreserved-rest whole part none)

for_each : (role : Path) (bundle : List Resource) → is_unreserved bundle ≡ true → list_all (is_for role) bundle ≡ true
for_each role [] none = refl
for_each role (r ∷ rs) none =
    let parts = and_parts (is_default r.role) (is_unreserved rs) none in
    and_from (is_for role r) (list_all (is_for role) rs) (or_left (is_default r.role) (begins_with role r.role) parts.0) (for_each role rs parts.1)

-- every client can have everything that is free
pub entitled_to_all : (rows : Rows) (agent : AgentRow) (client : Client) → IsBundle agent.total → is_unreserved agent.total ≡ true → rows.limits ≡ []
    → entitlement rows (free_of rows agent) client ≡ free_of rows agent
unfolding free_of
entitled_to_all rows agent client total none limits =
    let free : List Resource = free_of rows agent in
    let room : headroom rows client.role ≡ [] = ap (λ ls. headrooms ls (consumption rows) client.role) limits in
    entitlement-unlimited rows free client (bundle-free_of rows agent total) room
    ∙ part_for-all client.role free (for_each client.role free (unreserved-rest_of_all agent.total (parts_on agent.name (holdings_of rows)) none))

-- ---- a turn

module _ (rows : Rows) (is_open : IsOpen rows) (agent : AgentRow) (total : IsBundle agent.total) (none : is_unreserved agent.total ≡ true)
    (each : AreBundles (holdings_of rows)) where
  abbrev free : List Resource
  free = free_of rows agent

  pub grants_all : (client : Client) → is_allocatable free ≡ true → grant rows agent client ≡ Some free
  grants_all client worth =
      let whole = entitled_to_all rows agent client total none is_open.limits in
      let held = unheld rows.clock rows.filters is_open.filters rows.clock (omega arith) client agent.name free in
      ap (λ (b : List Resource). if is_allocatable b && not (is_held_back rows.filters rows.clock client agent.name b) then Some b else None) whole
      ∙ (λ i. if worth i && not (held i) then Some free else None)

  -- the turn offers everything that is free to the first client in its order
  pub record OffersAll : Type 0 where
    pub first : Client
    pub others : List Client
    pub order : turn_order rows ≡ first ∷ others
    pub offered : turn rows agent ≡ with_offer rows (new_offer rows agent first free)

  pub all_or_nothing : (turn rows agent ≡ rows) ⊎ OffersAll
  unfolding turn
  all_or_nothing = elim (cases_Bool (is_allocatable free)) [
    | inl worth ↦ by (turn_order rows) refl worth
    | inr little ↦ inl (all_tried_none rows agent (turn_order rows) little)
  ]
    where
      by : (order : List Client) → turn_order rows ≡ order → is_allocatable free ≡ true → (all_tried rows agent (turn_order rows) ≡ rows) ⊎ OffersAll
      by [] is worth = inl (ap (all_tried rows agent) is)
      by (c ∷ cs) is worth = inr (record {
        first = c;
        others = cs;
        order = is;
        offered = ap (all_tried rows agent) is ∙ all_tried_first rows agent c cs (grants_all c worth) total each;
      })

-- ---- a cycle

-- a cycle changes no filters and moves the clock to its timestamp
kept-cycle : (rows : Rows) (at : ℕ) → ((cycle rows at).filters ≡ rows.filters) × ((cycle rows at).clock ≡ max rows.clock at)
unfolding cycle
kept-cycle rows at = kept-turns (at_timestamp rows at) (active_agents rows)

pub all_is_handed_out : AllIsHandedOut
all_is_handed_out rows at client consistent early is_open takes =
    each_from_both Fits Denied (λ agent. is_allocatable (free_of after agent) ≡ false) (active_agents rows) worthless fits denied
  where
    after : Rows
    after = cycle rows at

    Fits : AgentRow → Type 0
    Fits agent = IsBundle agent.total × (is_unreserved agent.total ≡ true)

    Denied : AgentRow → Type 0
    Denied agent = AllByRecursion (GetsNothing after agent) (active_clients rows)

    fits : AllByRecursion Fits (active_agents rows)
    fits = each_filter Fits (λ a. a.active) rows.agents
        (each_from_both IsAgent (λ a. is_unreserved a.total ≡ true) Fits rows.agents (λ a is none. (is.total, none)) consistent.agents.each is_open.unreserved)

    denied : AllByRecursion Denied (active_agents rows)
    denied =
        let gone = end rows at consistent early in
        subst (λ (p : List AgentRow × List Client). AllByRecursion (λ agent. AllByRecursion (GetsNothing after agent) p.1) (filter (λ a. a.active) p.0))
        (λ i. (gone.agents i, gone.active i)) (cycles_leave_nothing rows at consistent early)

    worthless : (agent : AgentRow) → Fits agent → Denied agent → is_allocatable (free_of after agent) ≡ false
    worthless agent right none =
        let free : List Resource = free_of after agent in
        let limits : after.limits ≡ [] = ap (λ (r : Rows). r.limits) (cycle_only_offers rows at).nothing_else ∙ is_open.limits in
        let kept = kept-cycle rows at in
        let later : max rows.clock at ≤ after.clock = omega (arith, kept.1) in
        let held : is_held_back after.filters after.clock client agent.name free ≡ false =
        ap (λ (fs : List FilterRow). is_held_back fs after.clock client agent.name free) kept.0
        ∙ unheld (max rows.clock at) rows.filters is_open.filters after.clock later client agent.name free in
        let gets : grant after agent client ≡ None = each_at (GetsNothing after agent) (active_clients rows) takes.0 client none takes.1 in
        let granted : ◌≡◌ {A = Option (List Resource)} (if is_allocatable free && true then Some free else None) None =
        (λ i. if is_allocatable free && not (sym held i) then Some free else None)
        ∙ sym (ap (λ (b : List Resource). if is_allocatable b && not (is_held_back after.filters after.clock client agent.name b) then Some b else None)
        (entitled_to_all after agent client right.0 right.1 limits)) ∙ gets in
        by (is_allocatable free) granted
      where
        by : (b : Bool) → ◌≡◌ {A = Option (List Resource)} (if b && true then Some (free_of after agent) else None) None → b ≡ false
        by true some = cc
        by false none = refl
