-- A node that holds nothing is passed over only by nodes that received at most as many offers, so each pass uses up a
-- part of the others' lead.
use Rattle.std.specs.Prelude.{◌≡◌, ℕ, zero, suc, ◌+◌, ◌-◌, ◌*◌, ◌≤◌, ◌==◌, Bool, true, false, ◌&&◌, ◌||◌, List, [], ◌∷◌, length, slice_get, is_some, Option, Some, None, nat_lt}
use Rattle.std.specs.List.{list_any}
use Rattle.std.specs.Option.{option_map_or}
use Rattle.std.proofs.Common.{refl, sym, ap, ◌∙◌, inl, inr, ◌⊎◌, cond, arith}
use Rattle.std.proofs.lemmas.Bool.{cases_Bool, and_parts, or_cases, ltb-true, eqb-true, false_from_ne_true, true≢false}
use Rattle.std.proofs.lemmas.List.Sums.{sum_by-cons}
use Rattle.drf_role.specs.Path.{Path, begins_with}
use Rattle.drf_role.specs.Text.{Text, same_text}
use Rattle.drf_bundle.specs.declared.resource.Resource.{Resource}
use Rattle.drf_rows.specs.Client.{Client, path_of}
use Rattle.drf_rows.specs.Consistent.{IsConsistent}
use Rattle.drf_rows.specs.Cycle.{grant, new_offer, with_offer, tried, all_tried, turn, turn_order}
use Rattle.drf_rows.specs.Held.{active_clients, count_of, is_registered}
use Rattle.drf_rows.specs.Held as rows_word
use Rattle.drf_rows.specs.Share.{Fraction, Standing, is_less, is_same, is_ahead, stands_before_below, weighted_share_of}
use Rattle.drf_row_laws.proofs.ConsistentLaws.{registered_once}
use Rattle.drf_laws.proofs.OfferedLaws.{each_served}
use Rattle.drf_role.specs.TextLaws.{same_from_test}
use Rattle.drf_laws.proofs.theorems.Turns.{turn_order-registered}
use Rattle.drf_bundle.proofs.ListLaws.{each_at}
use Rattle.drf_rows.specs.declared.rows.AgentRow.{AgentRow}
use Rattle.drf_rows.specs.declared.rows.Rows.{Rows}
use Rattle.drf_promises.specs.Apart.{AreClientsOf}
use Rattle.drf_promises.specs.Sharing.{share_at}
use Rattle.drf_promises.specs.Passes.{lead_of, is_passed}
use Rattle.drf_promises.specs.Runs.{Has}
use Rattle.drf_laws.proofs.theorems.Cycles.{each_is_at}
use Rattle.drf_promises.proofs.theorems.Cycles.{everybody}
use Rattle.drf_promises.proofs.theorems.First.{decided, some_of, through}
use Rattle.drf_promises.proofs.theorems.Order.{Before, InOrder, served_in_order}
use Rattle.drf_promises.specs.Siblings.{child}
use Rattle.drf_promises.proofs.theorems.Counts.{count-with_offer}

-- ---- counts in a turn

after_grant : Rows → AgentRow → Client → Option (List Resource) → Rows
after_grant rows agent c granted = option_map_or (λ bundle. with_offer rows (new_offer rows agent c bundle)) granted rows

-- no count falls when a client is tried
count-tried : (rows : Rows) (agent : AgentRow) (c : Client) (node : Path) → count_of rows node ≤ count_of (tried rows agent c) node
count-tried rows agent c node = by (grant rows agent c)
  where
    by : (granted : Option (List Resource)) → count_of rows node ≤ count_of (option_map_or (λ bundle. with_offer rows (new_offer rows agent c bundle)) granted rows) node
    by None = omega arith
    by (Some bundle) = omega (arith, count-with_offer rows (new_offer rows agent c bundle) node)

pub count-all_tried : (rows : Rows) (agent : AgentRow) (cs : List Client) (node : Path) → count_of rows node ≤ count_of (all_tried rows agent cs) node
count-all_tried rows agent [] node = omega arith
count-all_tried rows agent (c ∷ cs) node = omega (arith, count-tried rows agent c node, count-all_tried (tried rows agent c) agent cs node)

-- a grant to a client raises the counts of its nodes by one
count-granted : (rows : Rows) (agent : AgentRow) (c : Client) (bundle : List Resource) (node : Path) → IsConsistent rows
    → is_registered rows.frameworks c ≡ true → grant rows agent c ≡ Some bundle → begins_with (path_of c) node ≡ true
    → count_of (tried rows agent c) node ≡ count_of rows node + 1
count-granted rows agent c bundle node consistent known granted own =
    ap (λ (g : Option (List Resource)). count_of (option_map_or (λ b. with_offer rows (new_offer rows agent c b)) g rows) node) granted
    ∙ count-with_offer rows (new_offer rows agent c bundle) node
    ∙ (λ i. count_of rows node + cond (own i) (registered_once rows.frameworks c consistent.frameworks known i) 0)

-- ---- the lead of others

module _ (parent : Path) (one : Text) where
  abbrev node : Path
  node = child parent one

  -- if counts rise except that of the node, the lead falls
  lead_falls : (old new : Rows) (others : List Text) → count_of new node ≡ count_of old node
      → ((name : Text) → count_of old (child parent name) ≤ count_of new (child parent name)) → lead_of new parent one others ≤ lead_of old parent one others
  lead_falls old new [] same rise = omega arith
  lead_falls old new (name ∷ others) same rise =
      omega (
        arith,
        sum_by-cons (λ n. count_of old node + 1 - count_of old (child parent n)) name others,
        sum_by-cons (λ n. count_of new node + 1 - count_of new (child parent n)) name others,
        same,
        rise name,
        lead_falls old new others same rise,
      )

  -- it falls by at least one if one of the others that was not ahead in count receives an offer
  lead_used : (old new : Rows) (others : List Text) (own : Text → Bool) → count_of new node ≡ count_of old node
      → ((name : Text) → count_of old (child parent name) ≤ count_of new (child parent name))
      → ((name : Text) → own name ≡ true → (count_of new (child parent name) ≡ count_of old (child parent name) + 1) × (count_of old (child parent name) ≤ count_of old node))
      → list_any own others ≡ true → lead_of new parent one others + 1 ≤ lead_of old parent one others
  lead_used old new [] own same rise more any = cc
  lead_used old new (name ∷ others) own same rise more any =
      let before = sum_by-cons (λ n. count_of old node + 1 - count_of old (child parent n)) name others in
      let after = sum_by-cons (λ n. count_of new node + 1 - count_of new (child parent n)) name others in
      elim (or_cases (own name) (list_any own others) any) [
        | inl here ↦ omega (arith, before, after, same, more name here, lead_falls old new others same rise)
        | inr later ↦ omega (arith, before, after, same, rise name, lead_used old new others own same rise more later)
      ]

-- a sibling that comes before a node which holds nothing has received at most as many offers
ahead_of_nothing : (s : Standing) (parent : Path) (a b : Text) → (weighted_share_of s (child parent b)).part ≡ 0 → is_ahead s parent a b ≡ true
    → s.count (child parent a) ≤ s.count (child parent b)
unfolding is_ahead
ahead_of_nothing s parent a b none ahead =
    let A : Fraction = weighted_share_of s (child parent a) in
    let B : Fraction = weighted_share_of s (child parent b) in
    elim (or_cases (is_less A B) _ ahead) [
      | inl less ↦ absurd (omega (arith, ltb-true (A.part * B.whole) (B.part * A.whole) less, ap (λ n. n * A.whole) none))
      | inr tied ↦
          let counts = (and_parts (is_same A B) _ tied).1 in
          elim (or_cases (nat_lt (s.count (child parent a)) (s.count (child parent b))) _ counts) [
            | inl fewer ↦ omega (arith, ltb-true (s.count (child parent a)) (s.count (child parent b)) fewer)
            | inr same ↦
                omega (arith, eqb-true (s.count (child parent a)) (s.count (child parent b)) (and_parts (s.count (child parent a) == s.count (child parent b)) _ same).0)
          ]
    ]

-- ---- a turn that passes over a node

-- the first client that is granted something, before or at one that would be
record FirstGranted (rows : Rows) (agent : AgentRow) (cs : List Client) (d : Client) : Type 0 where
  c : Client
  has : Has cs c
  bundle : List Resource
  granted : grant rows agent c ≡ Some bundle
  later : List Client
  rest : all_tried rows agent cs ≡ all_tried (tried rows agent c) agent later
  ahead : (c ≡ d) ⊎ Before (rows_word.standing_of rows) c d

first_granted : (rows : Rows) (agent : AgentRow) (cs : List Client) (d : Client) → InOrder (rows_word.standing_of rows) cs → Has cs d
    → is_some (grant rows agent d) ≡ true → FirstGranted rows agent cs d
first_granted rows agent [] d order (place, at) wanted = cc
first_granted rows agent (c ∷ cs) d order (place, at) wanted = by (grant rows agent c) refl place at (first_granted rows agent cs d order.1)
  where
    by : (found : Option (List Resource)) → grant rows agent c ≡ found → (i : ℕ) → slice_get (c ∷ cs) i ≡ Some d
        → (Has cs d → is_some (grant rows agent d) ≡ true → FirstGranted rows agent cs d) → FirstGranted rows agent (c ∷ cs) d
    by (Some bundle) some i at others = record {
      c = c;
      has = (0, refl);
      bundle = bundle;
      granted = some;
      later = cs;
      rest = refl;
      ahead = first_or_behind i at;
    }
      where
        first_or_behind : (i : ℕ) → slice_get (c ∷ cs) i ≡ Some d → (c ≡ d) ⊎ Before (rows_word.standing_of rows) c d
        first_or_behind zero at = let same : c ≡ d = cc in inl same
        first_or_behind (suc i) at = inr (each_at (Before (rows_word.standing_of rows) c) cs i d order.0 at)
    by None none zero at others =
        let same : c ≡ d = cc in
        absurd (true≢false (sym wanted ∙ ap (λ (x : Client). is_some (grant rows agent x)) (sym same) ∙ ap (is_some {T = List Resource}) none))
    by None none (suc i) at others =
        let found = others (i, at) wanted in
        record {
          c = found.c;
          has = (suc found.has.0, found.has.1);
          bundle = found.bundle;
          granted = found.granted;
          later = found.later;
          rest = ap (λ (g : Option (List Resource)). all_tried (option_map_or (λ b. with_offer rows (new_offer rows agent c b)) g rows) agent cs) none ∙ found.rest;
          ahead = found.ahead;
        }

module _ (rows : Rows) (agent : AgentRow) (parent : Path) (one : Text) (others : List Text) (consistent : IsConsistent rows)
    (clients : AreClientsOf rows parent (one ∷ others)) (same : count_of (turn rows agent) (child parent one) ≡ count_of rows (child parent one)) where
  abbrev mine : Path
  mine = child parent one

  turn_rises : (n : Path) → count_of rows n ≤ count_of (turn rows agent) n
  unfolding turn
  turn_rises n = count-all_tried rows agent (turn_order rows) n

  pub turn_keeps : lead_of (turn rows agent) parent one others ≤ lead_of rows parent one others
  turn_keeps = lead_falls parent one rows (turn rows agent) others same (λ name. turn_rises (child parent name))

  module _ (d : Client) (own : begins_with (path_of d) mine ≡ true) (first : FirstGranted rows agent (turn_order rows) d)
      (none : (weighted_share_of (rows_word.standing_of rows) mine).part ≡ 0) where
    abbrev c : Client
    c = first.c

    abbrev next : Rows
    next = tried rows agent c

    known : is_registered rows.frameworks c ≡ true
    known = each_at (λ k. is_registered rows.frameworks k ≡ true) (turn_order rows) first.has.0 c (turn_order-registered rows) first.has.1

    next_rises : (n : Path) → count_of next n ≤ count_of (turn rows agent) n
    unfolding turn
    next_rises n = omega (arith, count-all_tried next agent first.later n, ap (λ (r : Rows). count_of r n) first.rest)

    -- it is not a client of the node
    not_mine : begins_with (path_of c) mine ≡ false
    not_mine = elim (cases_Bool (begins_with (path_of c) mine)) [
      | inl here ↦
          absurd (omega (arith, count-granted rows agent c first.bundle mine consistent known first.granted here, next_rises mine, same))
      | inr past ↦ past
    ]

    -- its own node has received at most as many offers
    no_more : (name : Text) → begins_with (path_of c) (child parent name) ≡ true → count_of rows (child parent name) ≤ count_of rows mine
    unfolding rows_word.standing_of
    no_more name its =
        let there = through (path_of c) parent name its in
        let here = through (path_of d) parent one own in
        let apart : same_text name one ≡ false = false_from_ne_true (same_text name one)
        (λ alike. true≢false (sym its ∙ ap (λ (n : Text). begins_with (path_of c) (child parent n)) (same_from_test name one alike) ∙ not_mine)) in
        elim first.ahead [
          | inl itself ↦ absurd (true≢false (sym own ∙ ap (λ (k : Client). begins_with (path_of k) mine) (sym itself) ∙ not_mine))
          | inr before ↦
              let s : Standing = rows_word.standing_of rows in
              let ahead : is_ahead s parent name one ≡ true =
              sym (decided s [] parent name one there.0 here.0 apart) ∙ (λ i. stands_before_below s [] (sym there.1 i) (sym here.1 i)) ∙ before in
              ahead_of_nothing s parent name one none ahead
        ]

    uses_lead : lead_of (turn rows agent) parent one others + 1 ≤ lead_of rows parent one others
    uses_lead =
        let among = each_at (λ k. list_any (λ name. begins_with (path_of k) (child parent name)) (one ∷ others) ≡ true) (turn_order rows) first.has.0 c
        (each_served (λ k. list_any (λ name. begins_with (path_of k) (child parent name)) (one ∷ others) ≡ true) (rows_word.standing_of rows) _
        (active_clients rows) clients) first.has.1 in
        let any : list_any (λ name. begins_with (path_of c) (child parent name)) others ≡ true =
        sym (ap (λ b. b || list_any (λ name. begins_with (path_of c) (child parent name)) others) not_mine) ∙ among in
        let still : count_of next mine ≡ count_of rows mine = omega (arith, next_rises mine, same, count-tried rows agent c mine) in
        let used = lead_used parent one rows next others (λ name. begins_with (path_of c) (child parent name)) still
        (λ name. count-tried rows agent c (child parent name))
        (λ name its. (count-granted rows agent c first.bundle (child parent name) consistent known first.granted its, no_more name its)) any in
        let after = lead_falls parent one next (turn rows agent) others (omega (arith, still, same)) (λ name. next_rises (child parent name)) in
        omega (arith, used, after)

  pub turn_passes : is_passed mine rows agent ≡ true → lead_of (turn rows agent) parent one others + 1 ≤ lead_of rows parent one others
  turn_passes passed =
      let s : Standing = rows_word.standing_of rows in
      let parts = and_parts ((share_at rows mine).part == 0) _ passed in
      let wanted = (and_parts (list_any (λ c. begins_with (path_of c) mine && is_some (grant rows agent c)) (active_clients rows)) _ parts.1).0 in
      let in_order = everybody (Has (turn_order rows)) rows consistent (each_is_at (turn_order rows)) in
      let d = some_of (λ c. begins_with (path_of c) mine && is_some (grant rows agent c)) (Has (turn_order rows)) (active_clients rows) wanted in_order in
      let both = and_parts (begins_with (path_of d.0) mine) (is_some (grant rows agent d.0)) d.1 in
      uses_lead d.0 both.0
      (first_granted rows agent (turn_order rows) d.0 (served_in_order s (length (active_clients rows)) (active_clients rows)) d.2 both.1)
      (ap (λ n. n * 1000) (eqb-true (share_at rows mine).part 0 parts.0))
