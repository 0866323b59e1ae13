-- In clusters that are alike except for names, each turn, and so each cycle, makes the same offers to roles.
use Rattle.std.specs.Prelude.{◌≡◌, ℕ, ◌≤◌, max, true, List, [], ◌∷◌, ◌++◌, filter, length, slice_get, Option, Some, None}
use Rattle.std.specs.List.{AllByRecursion}
use Rattle.std.specs.Option.{option_map_or}
use Rattle.std.proofs.Common.{refl, sym, ap, subst, ◌∙◌, inl, inr, ◌⊎◌, arith, append-nil, append_assoc}
use Rattle.std.proofs.lemmas.Bool.{cases_Bool, true≢false}
use Rattle.drf_role.specs.Path.{Path, same_path}
use Rattle.drf_role.specs.PathLaws.{same_path-true, same_path_itself}
use Rattle.drf_role.proofs.PathLaws.{NoDots}
use Rattle.drf_bundle.specs.Bundle.{IsBundle}
use Rattle.drf_bundle.specs.declared.resource.Resource.{Resource}
use Rattle.drf_rows.specs.Client.{Client, path_of}
use Rattle.drf_rows.specs.Consistent.{IsConsistent}
use Rattle.drf_rows.specs.Cycle.{grant, new_offer, with_offer, tried, all_tried, turn_order, turn, turns, at_timestamp, cycle}
use Rattle.drf_rows.specs.Held.{active_clients, is_registered}
use Rattle.drf_rows.specs.Held as rows_word
use Rattle.drf_row_laws.proofs.CycleLaws.{all_tried-append}
use Rattle.drf_bundle.proofs.ListLaws.{each_append, each_at, each_from, each_parts, list_any_at}
use Rattle.drf_laws.proofs.OfferedLaws.{each_served}
use Rattle.drf_row_laws.proofs.ServingOrder.{stands_before-back}
use Rattle.drf_rows.specs.declared.limits.TheConstants.{LATEST_TIMESTAMP}
use Rattle.drf_rows.specs.declared.rows.AgentRow.{AgentRow}
use Rattle.drf_rows.specs.declared.rows.Rows.{Rows}
use Rattle.drf_laws.proofs.theorems.Turns.{turn_order-registered}
use Rattle.drf_promises.specs.Cycles.{active_agents, GetsNothing}
use Rattle.drf_promises.specs.Frameworks.{has_part, StandAlike}
use Rattle.drf_promises.specs.Runs.{Has}
use Rattle.drf_laws.proofs.theorems.Cycles.{IsMidway, itself_midway, midway-tried, midway-turn, total_of, each_is_at}
use Rattle.drf_promises.proofs.theorems.Cycles.{everybody, turn_leaves_nothing, nobody_is_passed, begin, all_at}
use Rattle.drf_promises.proofs.theorems.First.{some_of}
use Rattle.drf_promises.proofs.theorems.Frameworks.{grant-alike, stands-alike, offer-alike, roles_of}
use Rattle.drf_promises.proofs.theorems.Order.{Before, InOrder, served_in_order, before_later}
use Rattle.drf_promises.proofs.theorems.Unfiltered.{unfiltered_later}

-- ---- a turn as the grants that it makes

-- a client, and what it is granted
abbrev Grant : Type 0
Grant = Client × List Resource

abbrev granted_to : Rows → AgentRow → Grant → Rows
granted_to rows agent g = with_offer rows (new_offer rows agent g.0 g.1)

abbrev all_granted : Rows → AgentRow → List Grant → Rows
all_granted rows agent [] = rows
all_granted rows agent (g ∷ gs) = all_granted (granted_to rows agent g) agent gs

module _ (rows : Rows) (agent : AgentRow) where
  -- the other client is granted nothing more, is this client, or comes after it
  abbrev EnoughOrBehind : Rows → Client → Client → Type 0
  EnoughOrBehind mid c other = GetsNothing mid agent other ⊎ ((other ≡ c) ⊎ Before (rows_word.standing_of rows) c other)

  -- a grant to an active client, when those before it would be granted nothing more
  record IsNext (mid : Rows) (g : Grant) : Type 0 where
    has : Has (active_clients rows) g.0
    granted : grant mid agent g.0 ≡ Some g.1
    others : AllByRecursion (EnoughOrBehind mid g.0) (active_clients rows)

  -- a list of such grants, after which no client would be granted anything
  abbrev AreNext : Rows → List Grant → Type 0
  AreNext mid [] = AllByRecursion (GetsNothing mid agent) (active_clients rows)
  AreNext mid (g ∷ gs) = IsNext mid g × AreNext (granted_to mid agent g) gs

  record Made (mid end : Rows) : Type 0 where
    grants : List Grant
    are_next : AreNext mid grants
    end_is : end ≡ all_granted mid agent grants

module _ (rows : Rows) (agent : AgentRow) (consistent : IsConsistent rows) (total : IsBundle agent.total) where
  abbrev order : List Client
  order = turn_order rows

  each_has_part : AllByRecursion (Has (active_clients rows)) order
  each_has_part =
      each_served (Has (active_clients rows)) (rows_word.standing_of rows) (length (active_clients rows)) (active_clients rows) (each_is_at (active_clients rows))

  others_of : (earlier later : List Client) (c : Client) → order ≡ earlier ++ c ∷ later
      → AllByRecursion (EnoughOrBehind rows agent (all_tried rows agent earlier) c) (active_clients rows)
  others_of earlier later c is =
      let Q : Client → Type 0 = EnoughOrBehind rows agent (all_tried rows agent earlier) c in
      let first = each_from (GetsNothing (all_tried rows agent earlier) agent) Q earlier (λ d none. inl none)
      (nobody_is_passed rows agent earlier later c consistent total is) in
      let last = each_from (Before (rows_word.standing_of rows) c) Q later (λ d before. inr (inr before))
      (before_later (rows_word.standing_of rows) earlier later c
      (subst (InOrder (rows_word.standing_of rows)) is
      (served_in_order (rows_word.standing_of rows) (length (active_clients rows)) (active_clients rows)))) in
      everybody Q rows consistent (subst (AllByRecursion Q) (sym is) (each_append Q earlier (c ∷ later) first (inr (inl refl), last)))

  made-from : (mid : Rows) (earlier later : List Client) → all_tried rows agent earlier ≡ mid → order ≡ earlier ++ later
      → Made rows agent mid (all_tried mid agent later)
  unfolding turn
  made-from mid earlier [] here is =
      let whole : order ≡ earlier = is ∙ append-nil earlier in
      let end : turn rows agent ≡ mid = ap (all_tried rows agent) whole ∙ here in
      record {
        grants = [];
        are_next = subst (λ (r : Rows). AllByRecursion (GetsNothing r agent) (active_clients rows)) end (turn_leaves_nothing rows agent consistent total);
        end_is = refl;
      }
  made-from mid earlier (c ∷ later) here is = by (grant mid agent c) refl
      (made-from (tried mid agent c) (earlier ++ c ∷ []) later
      (all_tried-append rows agent earlier (c ∷ []) ∙ ap (λ (r : Rows). tried r agent c) here)
      (is ∙ sym (append_assoc earlier (c ∷ []) later)))
    where
      after : Option (List Resource) → Rows
      after found = option_map_or (λ bundle. with_offer mid (new_offer mid agent c bundle)) found mid

      by : (found : Option (List Resource)) → grant mid agent c ≡ found
          → Made rows agent (after found) (all_tried (after found) agent later)
          → Made rows agent mid (all_tried (after found) agent later)
      by None none rest = rest
      by (Some bundle) some rest = record {
        grants = (c, bundle) ∷ rest.grants;
        are_next = (
          record {
            has = (each_parts (Has (active_clients rows)) earlier (c ∷ later) (subst (AllByRecursion (Has (active_clients rows))) is each_has_part)).1.0;
            granted = some;
            others = subst (λ (r : Rows). AllByRecursion (EnoughOrBehind rows agent r c) (active_clients rows)) here (others_of earlier later c is);
          },
          rest.are_next,
        );
        end_is = rest.end_is;
      }

  made_in_turn : Made rows agent rows (turn rows agent)
  unfolding turn
  made_in_turn = made-from rows [] order refl refl

-- ---- the same grants to roles

-- one of the active clients in a role, with a property
one_of : (Q : Client → Type 0) (rows : Rows) (role : Path) → has_part rows role ≡ true → AllByRecursion Q (active_clients rows)
    → (c : Client) × (c.role ≡ role) × Q c
one_of Q rows role has each =
    let found = some_of (λ c. same_path c.role role) Q (active_clients rows) has each in
    (found.0, same_path-true found.0.role role found.1, found.2)

part_of : (rows : Rows) (c : Client) → Has (active_clients rows) c → has_part rows c.role ≡ true
part_of rows c has = list_any_at (λ d. same_path d.role c.role) (active_clients rows) has.0 c has.1 (same_path_itself c.role)

none_is_not_some : {X : Type 0} (x : X) (found other : Option X) → found ≡ Some x → other ≡ found → other ≡ None → ⊥
none_is_not_some x found other some same none = cc

module _ (rows other : Rows) (agent : AgentRow) (at : Has rows.agents agent) (at_other : Has other.agents agent) (consistent : IsConsistent rows)
    (right : IsConsistent other) (alike : StandAlike rows other) where
  -- what is granted in both clusters goes to the same role
  module _ (mid late : Rows) (now : StandAlike mid late) (g h : Grant) (next : IsNext rows agent mid g) (later : IsNext other agent late h) where
    abbrev c : Client
    c = g.0

    abbrev d : Client
    d = h.0

    dots_c : NoDots c.role
    dots_c = each_at (λ (k : Client). NoDots k.role) (active_clients rows) next.has.0 c (roles_of rows consistent) next.has.1

    dots_d : NoDots d.role
    dots_d = each_at (λ (k : Client). NoDots k.role) (active_clients other) later.has.0 d (roles_of other right) later.has.1

    same_role : d.role ≡ c.role
    same_role =
        let ours = one_of (EnoughOrBehind rows agent mid c) rows d.role (sym (alike.parts d.role) ∙ part_of other d later.has) next.others in
        let theirs = one_of (EnoughOrBehind other agent late d) other c.role (alike.parts c.role ∙ part_of rows c next.has) later.others in
        elim ours.2 [
          | inl none ↦ absurd (none_is_not_some h.1 (grant late agent d) (grant mid agent ours.0) later.granted
              (sym (grant-alike mid late now agent ours.0 d (sym ours.1))) none)
          | inr (inl itself) ↦ sym ours.1 ∙ ap (λ (k : Client). k.role) itself
          | inr (inr behind) ↦ elim theirs.2 [
            | inl none ↦ absurd (none_is_not_some g.1 (grant mid agent c) (grant late agent theirs.0) next.granted
                (grant-alike mid late now agent c theirs.0 theirs.1) none)
            | inr (inl itself) ↦ sym (sym theirs.1 ∙ ap (λ (k : Client). k.role) itself)
            | inr (inr follows) ↦ elim (cases_Bool (same_path d.role c.role)) [
              | inl same ↦ same_path-true d.role c.role same
              | inr apart ↦ absurd (true≢false (
                  sym follows
                  ∙ stands-alike rows other alike ours.0 c d theirs.0 (subst NoDots (sym ours.1) dots_d) dots_c
                  (ap (λ (role : Path). same_path role c.role) ours.1 ∙ apart) (sym ours.1) theirs.1
                  ∙ stands_before-back (rows_word.standing_of rows) (path_of c) (path_of ours.0) behind
                  ))
            ]
          ]
        ]

    same_bundle : h.1 ≡ g.1
    same_bundle = some_is_same (grant mid agent c) (grant late agent d) next.granted later.granted (grant-alike mid late now agent c d same_role)
      where
        some_is_same : (found other : Option (List Resource)) → found ≡ Some g.1 → other ≡ Some h.1 → other ≡ found → h.1 ≡ g.1
        some_is_same found other some too same = cc

  abbrev Known : Rows → Client → Type 0
  Known start c = is_registered start.frameworks c ≡ true

  known_in : (start : Rows) → IsConsistent start → (c : Client) → Has (active_clients start) c → Known start c
  known_in start all_right c has = each_at (Known start) (active_clients start) has.0 c (everybody (Known start) start all_right (turn_order-registered start)) has.1

  midway-granted : (start mid : Rows) (g : Grant) → Has start.agents agent → Known start g.0 → grant mid agent g.0 ≡ Some g.1
      → IsMidway start mid → IsMidway start (granted_to mid agent g)
  midway-granted start mid g here known some between =
      subst (λ (found : Option (List Resource)). IsMidway start (option_map_or (λ bundle. with_offer mid (new_offer mid agent g.0 bundle)) found mid)) some
      (midway-tried start mid agent g.0 here known between)

  all_alike : (mid late : Rows) (gs hs : List Grant) → IsMidway rows mid → IsMidway other late → StandAlike mid late
      → AreNext rows agent mid gs → AreNext other agent late hs → StandAlike (all_granted mid agent gs) (all_granted late agent hs)
  all_alike mid late [] [] first second now next later = now
  all_alike mid late [] (h ∷ hs) first second now next later =
      let d : Client = h.0 in
      let ours = one_of (GetsNothing mid agent) rows d.role (sym (alike.parts d.role) ∙ part_of other d later.0.has) next in
      absurd (none_is_not_some h.1 (grant late agent d) (grant mid agent ours.0) later.0.granted
      (sym (grant-alike mid late now agent ours.0 d (sym ours.1))) ours.2)
  all_alike mid late (g ∷ gs) [] first second now next later =
      let c : Client = g.0 in
      let theirs = one_of (GetsNothing late agent) other c.role (alike.parts c.role ∙ part_of rows c next.0.has) later in
      absurd (none_is_not_some g.1 (grant mid agent c) (grant late agent theirs.0) next.0.granted (grant-alike mid late now agent c theirs.0 theirs.1) theirs.2)
  all_alike mid late (g ∷ gs) (h ∷ hs) first second now next later =
      let role = same_role mid late now g h next.0 later.0 in
      let bundle = same_bundle mid late now g h next.0 later.0 in
      let known : Known rows g.0 = known_in rows consistent g.0 next.0.has in
      let registered : Known other h.0 = known_in other right h.0 later.0.has in
      let offered = offer-alike mid late agent g.0 h.0 g.1 first.consistent second.consistent now role
      (first.clients g.0 ∙ known) (second.clients h.0 ∙ registered) in
      all_alike (granted_to mid agent g) (granted_to late agent h) gs hs
      (midway-granted rows mid g at known next.0.granted first) (midway-granted other late h at_other registered later.0.granted second)
      (subst (λ (b : List Resource). StandAlike (granted_to mid agent g) (with_offer late (new_offer late agent h.0 b))) (sym bundle) offered)
      next.1 later.1

  turn-alike : StandAlike (turn rows agent) (turn other agent)
  turn-alike =
      let ours = made_in_turn rows agent consistent (total_of rows rows agent at (itself_midway rows consistent)) in
      let theirs = made_in_turn other agent right (total_of other other agent at_other (itself_midway other right)) in
      subst (λ (p : Rows × Rows). StandAlike p.0 p.1) (λ i. (sym ours.end_is i, sym theirs.end_is i))
      (all_alike rows other ours.grants theirs.grants (itself_midway rows consistent) (itself_midway other right) alike ours.are_next theirs.are_next)

-- ---- turns and cycles

module _ (start origin : Rows) (same : origin.agents ≡ start.agents) where
  turns-alike : (rows other : Rows) (agents : List AgentRow) → AllByRecursion (Has start.agents) agents → IsMidway start rows → IsMidway origin other
      → StandAlike rows other → StandAlike (turns rows agents) (turns other agents)
  turns-alike rows other [] at first second alike = alike
  turns-alike rows other (agent ∷ agents) at first second alike =
      let there : (as' : List AgentRow) → as' ≡ start.agents → Has as' agent =
      λ as' is. (at.0.0, ap (λ (bs : List AgentRow). slice_get bs at.0.0) is ∙ at.0.1) in
      turns-alike (turn rows agent) (turn other agent) agents at.1
      (midway-turn start rows agent at.0 first) (midway-turn origin other agent (there origin.agents same) second)
      (turn-alike rows other agent (there rows.agents first.agents) (there other.agents (second.agents ∙ same)) first.consistent second.consistent alike)

pub cycle-alike : (rows other : Rows) (at : ℕ) → IsConsistent rows → IsConsistent other → at ≤ LATEST_TIMESTAMP → StandAlike rows other
    → StandAlike (cycle rows at) (cycle other at)
unfolding cycle
cycle-alike rows other at consistent right early alike =
    subst (λ (agents : List AgentRow). StandAlike (cycle rows at) (turns (at_timestamp other at) (filter (λ a. a.active) agents))) (sym alike.agents)
    (turns-alike (at_timestamp rows at) (at_timestamp other at) alike.agents (at_timestamp rows at) (at_timestamp other at) (active_agents rows)
    (all_at rows at consistent early) (begin rows at consistent early) (begin other at right early)
    (record {
      agents = alike.agents;
      weights = alike.weights;
      limits = alike.limits;
      next_offer = alike.next_offer;
      offers = alike.offers;
      tasks = alike.tasks;
      parts = alike.parts;
      counts = alike.counts;
      unfiltered = unfiltered_later rows.clock rows.filters alike.unfiltered (max rows.clock at) (omega arith);
      unfiltered_too = unfiltered_later other.clock other.filters alike.unfiltered_too (max other.clock at) (omega arith);
    }))
