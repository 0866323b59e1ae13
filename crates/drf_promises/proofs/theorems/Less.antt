-- A state that leaves less for a client grants it nothing more: its entitlement falls with the free resources and the
-- headroom, and a filter that covers a bundle covers less of it too.
use Rattle.std.specs.Prelude.{◌≡◌, ℕ, ◌+◌, ◌-◌, ◌≤◌, min, Bool, true, false, not, ◌&&◌, ◌||◌, codes, List, [], ◌∷◌, fold, Some, None, if◌then◌else◌}
use Rattle.std.specs.List.{reduce, AllByRecursion}
use Rattle.std.specs.Option.{option_map_or}
use Rattle.std.proofs.Common.{refl, ap, ◌∙◌, inl, inr, cond, arith}
use Rattle.std.proofs.lemmas.Bool.{cases_Bool}
use Rattle.std.proofs.lemmas.Bool.Decides.{nat_tests}
use Rattle.drf_role.specs.Text.{Text}
use Rattle.drf_role.specs.Path.{Path}
use Rattle.drf_role.specs.Parts.{parts_of}
use Rattle.drf_bundle.specs.Value.{Point, Thousandths, Number, Member}
use Rattle.drf_bundle.specs.Quantities.{amount_of}
use Rattle.drf_bundle.specs.Bundle.{Key, IsBundle, units, rest, covers, quantities_of}
use Rattle.drf_bundle.proofs.theorems.SumLaws.{amount-quantities_of}
use Rattle.drf_bundle.proofs.theorems.RestLaws.{bundle-rest, covers_units, covered_units}
use Rattle.drf_bundle.proofs.theorems.UnitProofs.{stocks_add, rest_and_part}
use Rattle.drf_bundle.specs.declared.resource.Resource.{Resource}
use Rattle.drf_rows.specs.Client.{Client}
use Rattle.drf_rows.specs.Filters.{is_held_back, is_in_force, is_of_client, is_on_agent}
use Rattle.drf_rows.specs.Quota.{Consumed, consumption, is_within, binds, room_under, headroom_under, entitlement}
use Rattle.drf_row_laws.proofs.QuotaLaws.{rooms, rooms-here, rooms-past}
use Rattle.drf_row_laws.specs.EntitlementLaws.{units_for}
use Rattle.drf_row_laws.proofs.EntitlementLaws.{entitled_by_units}
use Rattle.drf_row_laws.proofs.CycleLaws.{bundle-free_of, bundle-entitlement}
use Rattle.drf_rows.specs.Cycle.{free_of, is_allocatable}
use Rattle.drf_rows.specs.declared.rows.AgentRow.{AgentRow}
use Rattle.drf_rows.specs.declared.rows.FilterRow.{FilterRow}
use Rattle.drf_rows.specs.declared.rows.LimitRow.{LimitRow}
use Rattle.drf_rows.specs.declared.rows.Rows.{Rows}
use Rattle.drf_promises.specs.Cycles.{GetsNothing}

-- ---- less of a bundle

-- if the test of a filter, or of those after it in the list, is still passed, some filter passes
some_still : (force whose there old new before after : Bool) → (old ≡ true → new ≡ true) → (before ≡ true → after ≡ true)
    → ((force && (whose && (there && old))) || before) ≡ true → ((force && (whose && (there && new))) || after) ≡ true
some_still force whose there old new before after here later either = grind (arith, nat_tests)

abbrev pub IsBelow : List Resource → List Resource → Type 0
IsBelow less more = (key : Key) (p : Point) → units less key p ≤ units more key p

module _ (less more : List Resource) (is_less : IsBundle less) (is_more : IsBundle more) (below : IsBelow less more) where
  pub amount_falls : (name : Text) → amount_of (quantities_of less) name ≤ amount_of (quantities_of more) name
  amount_falls name =
      let all : covers more less ≡ true = covers_units more less is_more.in_order is_less.in_order is_less.each below in
      omega (
        arith,
        stocks_add (rest more less) less more (bundle-rest more less is_more) is_less (rest_and_part more less is_more is_less all) name Thousandths,
        amount-quantities_of less name,
        amount-quantities_of more name,
      )

  pub worth_falls : is_allocatable more ≡ false → is_allocatable less ≡ false
  worth_falls little =
      let cpus = amount_falls (codes "cpus") in
      let mem = amount_falls (codes "mem") in
      grind (arith, nat_tests)

  held_falls : (fs : List FilterRow) (clock : ℕ) (client : Client) (agent : Text) → AllByRecursion (λ f. IsBundle f.bundle) fs
      → is_held_back fs clock client agent more ≡ true → is_held_back fs clock client agent less ≡ true
  held_falls [] clock client agent each held = held
  held_falls (f ∷ fs) clock client agent each held =
      some_still (is_in_force clock f) (is_of_client client f) (is_on_agent agent f) (covers f.bundle more) (covers f.bundle less) _ _
      (λ all. covers_units f.bundle less each.0.in_order is_less.in_order is_less.each
      (λ key p. omega (arith, below key p, covered_units f.bundle more each.0.in_order is_more.in_order all key p)))
      (held_falls fs clock client agent each.1) held

-- ---- less headroom

module _ (before after : Consumed) (role : Path) (label : Text) (e : ℕ)
    (more : (l : LimitRow) → binds role label l ≡ true → before l.role label + e ≤ after l.role label) where
  least_falls : (m n : ℕ) (ls : List LimitRow) → m ≤ n - e
      → fold min m (rooms after role label ls) ≤ fold min n (rooms before role label ls) - e
  least_falls m n [] le = le
  least_falls m n (l ∷ ls) le = elim (cases_Bool (binds role label l)) [
    | inl here ↦
        omega (
          arith,
          ap (fold min m) (rooms-here after role label l ls here),
          ap (fold min n) (rooms-here before role label l ls here),
          least_falls (min m (room_under after label l)) (min n (room_under before label l)) ls (omega (arith, le, more l here)),
        )
    | inr past ↦
        omega (
          arith,
          ap (fold min m) (rooms-past after role label l ls past),
          ap (fold min n) (rooms-past before role label l ls past),
          least_falls m n ls le,
        )
  ]

  -- what is cut to the headroom falls by as much
  pub cut_falls : (m n : ℕ) (ls : List LimitRow) → m ≤ n - e
      → option_map_or (min m) (headroom_under ls after role label) m ≤ option_map_or (min n) (headroom_under ls before role label) n - e
  cut_falls m n [] le = le
  cut_falls m n (l ∷ ls) le = elim (cases_Bool (binds role label l)) [
    | inl here ↦
        omega (
          arith,
          ap (λ (rs : List ℕ). option_map_or (min m) (reduce min rs) m) (rooms-here after role label l ls here),
          ap (λ (rs : List ℕ). option_map_or (min n) (reduce min rs) n) (rooms-here before role label l ls here),
          least_falls (room_under after label l) (room_under before label l) ls (omega (arith, more l here)),
          le,
        )
    | inr past ↦
        omega (
          arith,
          ap (λ (rs : List ℕ). option_map_or (min m) (reduce min rs) m) (rooms-past after role label l ls past),
          ap (λ (rs : List ℕ). option_map_or (min n) (reduce min rs) n) (rooms-past before role label l ls past),
          cut_falls m n ls le,
        )
  ]

-- ---- a state that leaves less on an agent

pub record LeavesLess (rows less : Rows) (agent : AgentRow) : Type 0 where
  pub free : IsBelow (free_of less agent) (free_of rows agent)
  pub consumed : (role : Path) (label : Text) → consumption rows role label ≤ consumption less role label
  pub limits : less.limits ≡ rows.limits
  pub filters : less.filters ≡ rows.filters
  pub clock : less.clock ≡ rows.clock

pub less_than_itself : (rows : Rows) (agent : AgentRow) → LeavesLess rows rows agent
less_than_itself rows agent = record {
  free = λ key p. omega arith;
  consumed = λ role label. omega arith;
  limits = refl;
  filters = refl;
  clock = refl;
}

pub less_and_less : (rows mid less : Rows) (agent : AgentRow) → LeavesLess rows mid agent → LeavesLess mid less agent → LeavesLess rows less agent
less_and_less rows mid less agent first second = record {
  free = λ key p. omega (arith, first.free key p, second.free key p);
  consumed = λ role label. omega (arith, first.consumed role label, second.consumed role label);
  limits = second.limits ∙ first.limits;
  filters = second.filters ∙ first.filters;
  clock = second.clock ∙ first.clock;
}

module _ (rows less : Rows) (agent : AgentRow) (client : Client) (leaves : LeavesLess rows less agent) (total : IsBundle agent.total) where
  abbrev old : List Resource
  old = entitlement rows (free_of rows agent) client

  abbrev new : List Resource
  new = entitlement less (free_of less agent) client

  units_for_falls : (key : Key) (p : Point) (m n : ℕ) → m ≤ n → units_for less client.role key p m ≤ units_for rows client.role key p n
  units_for_falls (label, []) Thousandths m n le =
      omega (
        arith,
        cut_falls (consumption rows) (consumption less) client.role label 0 (λ l binding. omega (arith, leaves.consumed l.role label)) m n rows.limits (omega (arith, le)),
        ap (λ (ls : List LimitRow). option_map_or (min m) (headroom_under ls (consumption less) client.role label) m) leaves.limits,
      )
  units_for_falls (label, []) (Number k) m n le = le
  units_for_falls (label, []) (Member k) m n le = le
  units_for_falls (label, byte ∷ bytes) p m n le = by (is_within (parts_of (byte ∷ bytes)) client.role)
    where
      by : (b : Bool) → cond b m 0 ≤ cond b n 0
      by true = le
      by false = omega arith

  entitled_falls : IsBelow new old
  entitled_falls key p = omega (
    arith,
    entitled_by_units rows (free_of rows agent) client key p (bundle-free_of rows agent total),
    entitled_by_units less (free_of less agent) client key p (bundle-free_of less agent total),
    units_for_falls key p (units (free_of less agent) key p) (units (free_of rows agent) key p) (leaves.free key p),
  )

  none_falls : (worth held worth_new held_new : Bool) → (worth ≡ false → worth_new ≡ false) → (held ≡ true → held_new ≡ true)
      → (if worth && not held then Some old else None) ≡ None → (if worth_new && not held_new then Some new else None) ≡ None
  none_falls worth held false held_new little back none = refl
  none_falls worth held true true little back none = refl
  none_falls true true true false little back none = cc (back refl)
  none_falls true false true false little back none = cc
  none_falls false held true false little back none = cc (little refl)

  -- a client that was granted nothing is granted nothing
  pub nothing_stays : AllByRecursion (λ f. IsBundle f.bundle) rows.filters → GetsNothing rows agent client → GetsNothing less agent client
  nothing_stays each nothing =
      let is_old : IsBundle old = bundle-entitlement rows (free_of rows agent) client (bundle-free_of rows agent total) in
      let is_new : IsBundle new = bundle-entitlement less (free_of less agent) client (bundle-free_of less agent total) in
      none_falls (is_allocatable old) (is_held_back rows.filters rows.clock client agent.name old) (is_allocatable new)
      (is_held_back less.filters less.clock client agent.name new) (worth_falls new old is_new is_old entitled_falls)
      (λ held. (λ i. is_held_back (leaves.filters i) (leaves.clock i) client agent.name new)
      ∙ held_falls new old is_new is_old entitled_falls rows.filters rows.clock client agent.name each held)
      nothing
