-- Additions to the nodes above a client do not overflow, and these nodes hold at least what the client holds.
use Rattle.std.specs.List.{AllByRecursion, list_any}
use Rattle.std.proofs.Common.{refl, sym, ap, subst, ◌∙◌, inl, inr, arith, get_or, ◌≡◌, ◌≤◌, ◌<◌, ◌+◌, ◌-◌, ◌^◌, ℕ, Bool, true, cond, ◌||◌, List, [], ◌∷◌, Some, filter, length, map, slice_get, sum_by}
use Rattle.std.proofs.lemmas.Bool.{false≢true, cases_Bool, or_cases}
use Rattle.std.proofs.lemmas.List.{length-map}
use Rattle.std.proofs.lemmas.List.Sums.{sum_by-cons}
use Rattle.std.proofs.lemmas.Option.{slice_get-get_or}
use Rattle.drf_tree.proofs.Names.{amount_of, Entry, Path, IsClientPath, begins_with, same_path, same_path-true, each_from, length-filter_le, ledger_content, Sum, Tree, CanLower, CanLowerAt, HasRoomFor, IsLeast, IsLowerable, OnWay, lowered, client_at, is_live, path_at, IsSumOf, IsTreeOf}
use Rattle.drf_sorter.specs.Content.{Content, HasCharge, HasChargeAt, Holds, HoldsAt, IsSound, Ranked, charged, clients_under, has_client, refunded, standing_in, with_change}
use Rattle.drf_hash.proofs.SlotLaws.{filled-short}
use Rattle.drf_tree.specs.Booked.{seen_slot}
use Rattle.drf_tree.specs.Ledger.{rows_in}
use Rattle.drf_tree.specs.declared.ledger.Ledger.{Ledger}
use Rattle.drf_tree.proofs.change.Charge.{of_charged}
use Rattle.drf_tree.proofs.change.Climb.{live_on_way}
use Rattle.drf_tree.proofs.shape.Node.{live_within}
use Rattle.drf_tree.proofs.sums.Content.{below, sum_below}
use Rattle.drf_tree.proofs.sums.Fit.{below_less, part_less}
use Rattle.drf_tree.proofs.sums.Move.{AreMoved, IsChange, active_is, changed_below, is_served, length_is, none, one}

-- ---- clients

-- a client's path is a client path
pub right_path : (path : Path) (cs : List Ranked) → AllByRecursion IsClientPath (map (λ (c : Ranked). c.path) cs)
    → list_any (λ c. same_path c.path path) cs ≡ true → IsClientPath path
right_path path [] all some = absurd (false≢true some)
right_path path (c ∷ cs) all some = elim (or_cases (same_path c.path path) (list_any (λ c. same_path c.path path) cs) some) [
  | inl here ↦ subst IsClientPath (same_path-true c.path path here) all.0
  | inr past ↦ right_path path cs all.1 past
]

-- the node with a client's path is that client
pub leaf_of : (content : Content) (tree : Tree) (leaf : ℕ) (path : Path) → IsTreeOf content tree
    → has_client content path ≡ true → is_live tree.places.items leaf ≡ true → path_at tree.places.items leaf ≡ path
    → client_at tree.places.items leaf ≡ Some path
leaf_of content tree leaf path of has live at =
    of.shape.clients leaf live (subst IsClientPath (sym at) (right_path path content.clients of.paths has))
    ∙ ap (λ (p : Path). Some p) at

-- a client of a ledger is one of those that contracts see
pub known_in : (inside seen : Ledger) (path : Path) → inside ≡ seen → has_client (ledger_content seen) path ≡ true
    → has_client (ledger_content inside) path ≡ true
known_in inside seen path is known = ap (λ (l : Ledger). has_client (ledger_content l) path) is ∙ known

-- the clients of a node hold at least what one of them holds
client_within : (f : Ranked → ℕ) (n : ℕ) (path node : Path) → begins_with path node ≡ true → (cs : List Ranked)
    → list_any (λ c. same_path c.path path) cs ≡ true
    → AllByRecursion (λ (c : Ranked). same_path c.path path ≡ true → n ≤ f c) cs
    → n ≤ sum_by (below node f) cs
client_within f n path node begins [] some all = absurd (false≢true some)
client_within f n path node begins (c ∷ cs) some all = elim (cases_Bool (same_path c.path path)) [
  | inl here ↦
      let under : begins_with c.path node ≡ true =
      ap (λ (p : Path). begins_with p node) (same_path-true c.path path here) ∙ begins in
      let value : below node f c ≡ f c = ap (λ (b : Bool). cond b (f c) 0) under in
      let least : n ≤ f c = all.0 here in
      omega (arith, least, value, sum_by-cons (below node f) c cs)
  | inr past ↦
      let later : list_any (λ c. same_path c.path path) cs ≡ true =
      subst (λ (b : Bool). (b || list_any (λ c. same_path c.path path) cs) ≡ true) past some in
      let rest = client_within f n path node begins cs later all.1 in
      omega (arith, rest, sum_by-cons (below node f) c cs)
]

each_all : (P : Ranked → Type 0) → ((c : Ranked) → P c) → (cs : List Ranked) → AllByRecursion P cs
each_all P so [] = tt
each_all P so (c ∷ cs) = (so c, each_all P so cs)

-- if a client has a charge, the charge can be subtracted; so can what it holds
pub can_discharge : (content : Content) (path : Path) (quantities : List Entry) → HasChargeAt content path quantities
    → CanLowerAt content path quantities 1
can_discharge content path quantities has =
    each_from (λ (c : Ranked). same_path c.path path ≡ true → HasCharge quantities c)
    (λ (c : Ranked). same_path c.path path ≡ true → CanLower quantities 1 c) content.clients
    (λ c so same. record { held = (so same).held; count = (so same).count }) has

pub can_refund : (content : Content) (path : Path) (quantities : List Entry) → HoldsAt content path quantities
    → CanLowerAt content path quantities 0
can_refund content path quantities has =
    each_from (λ (c : Ranked). same_path c.path path ≡ true → Holds quantities c)
    (λ (c : Ranked). same_path c.path path ≡ true → CanLower quantities 0 c) content.clients
    (λ c so same. record { held = so same; count = omega arith }) has

-- if the number of offers is 0, lowering is a refund
pub lowered_refunded : (quantities : List Entry) → lowered quantities 0 ≡ refunded quantities
lowered_refunded quantities = λ i c. record {
  path = c.path;
  active = c.active;
  held = λ label. c.held label - amount_of quantities label;
  count = none_less c.count i;
}
  where
    none_less : (n : ℕ) → n - 0 ≡ n
    none_less n = omega arith

-- there are fewer than 2^63 clients, because they are in memory
pub few_clients : (ledger : Ledger) → length (ledger_content ledger).clients < 2 ^ 63
few_clients ledger =
    omega (arith, filled-short (rows_in ledger), length-map ledger.slots.items seen_slot, ledger.slots.ok.0, ledger.slots.ok.1, ledger.slots.small)

-- ---- nodes

module _ (content : Content) (tree : Tree) (leaf : ℕ) (of : IsTreeOf content tree)
    (live : is_live tree.places.items leaf ≡ true) where
  -- the active clients below a node are some of all clients
  few_active : (i : ℕ) (sum : Sum) → IsSumOf content (path_at tree.places.items i) sum → length content.clients < 2 ^ 63
      → (sum.clients < 2 ^ 63) × (sum.active < 2 ^ 63)
  few_active i sum is few =
      let p : Path = path_at tree.places.items i in
      let some : length (clients_under content p) ≤ length content.clients =
      length-filter_le (λ (c : Ranked). begins_with c.path p) content.clients in
      let fewer : length (filter (λ (c : Ranked). c.active) (clients_under content p)) ≤ length (clients_under content p) =
      length-filter_le (λ (c : Ranked). c.active) (clients_under content p) in
      (omega (arith, is.clients, some, few), omega (arith, is.active, some, fewer, few))

  pub active_fits : length content.clients < 2 ^ 63 → OnWay tree leaf (λ s. s.active + 1 < 2 ^ 64)
  active_fits few i sum on there =
      let now = few_active i sum (of.sums i sum (live_on_way tree.places.items leaf i on).0 there) few in
      omega (arith, now.1)

  pub admit_fits : length content.clients < 2 ^ 63
      → OnWay tree leaf (λ s. (s.clients + 1 < 2 ^ 64) × (s.active + 1 < 2 ^ 64))
  admit_fits few i sum on there =
      let now = few_active i sum (of.sums i sum (live_on_way tree.places.items leaf i on).0 there) few in
      (omega (arith, now.0), omega (arith, now.1))

  abbrev first : Sum
  first = get_or tree.sums.items leaf (record { held = []; count = 0; clients = 0; active = 0; weight = 0 })

  first_there : slice_get tree.sums.items leaf ≡ Some first
  first_there =
      slice_get-get_or tree.sums.items leaf (record { held = []; count = 0; clients = 0; active = 0; weight = 0 })
      (omega (arith, live_within tree.places.items leaf live, of.shape.sums_long))

  pub least : IsLeast tree leaf
  unfolding standing_in
  least = record {
    sum = first;
    there = first_there;
    held = λ i s on there label.
        omega (
          arith,
          (of.sums leaf first live first_there).held label,
          (of.sums i s (live_on_way tree.places.items leaf i on).0 there).held label,
          below_less (λ c. c.held label) content (path_at tree.places.items leaf) (path_at tree.places.items i)
              (live_on_way tree.places.items leaf i on).1,
        );
    count = λ i s on there.
        omega (
          arith,
          (of.sums leaf first live first_there).count,
          (of.sums i s (live_on_way tree.places.items leaf i on).0 there).count,
          below_less (λ c. c.count) content (path_at tree.places.items leaf) (path_at tree.places.items i)
              (live_on_way tree.places.items leaf i on).1,
        );
    clients = λ i s on there.
        omega (
          arith,
          (of.sums leaf first live first_there).clients,
          (of.sums i s (live_on_way tree.places.items leaf i on).0 there).clients,
          length_is (clients_under content (path_at tree.places.items leaf)),
          length_is (clients_under content (path_at tree.places.items i)),
          below_less one content (path_at tree.places.items leaf) (path_at tree.places.items i)
              (live_on_way tree.places.items leaf i on).1,
        );
    active = λ i s on there.
        omega (
          arith,
          (of.sums leaf first live first_there).active,
          (of.sums i s (live_on_way tree.places.items leaf i on).0 there).active,
          active_is (clients_under content (path_at tree.places.items leaf)),
          active_is (clients_under content (path_at tree.places.items i)),
          below_less is_served content (path_at tree.places.items leaf) (path_at tree.places.items i)
              (live_on_way tree.places.items leaf i on).1,
        );
  }

  module _ (path : Path) (at : path_at tree.places.items leaf ≡ path) (has : has_client content path ≡ true)
      (quantities : List Entry) where
    begins_at : (i : ℕ) → begins_with (path_at tree.places.items leaf) (path_at tree.places.items i) ≡ true
        → begins_with path (path_at tree.places.items i) ≡ true
    begins_at i begins = ap (λ (q : Path). begins_with q (path_at tree.places.items i)) (sym at) ∙ begins

    more_below : (offers : ℕ) (i : ℕ) → begins_with (path_at tree.places.items leaf) (path_at tree.places.items i) ≡ true
        → AreMoved none (of_charged quantities offers) content (with_change content path (charged quantities offers)) (path_at tree.places.items i)
    more_below offers i begins =
        changed_below content path (path_at tree.places.items i) (charged quantities offers) (λ c. refl) none (of_charged quantities offers) refl
        (begins_at i begins) of.distinct has
        (each_all (λ (c : Ranked). same_path c.path path ≡ true → IsChange none (of_charged quantities offers) c (charged quantities offers c))
        (λ c same. record { held = λ label. omega arith; count = omega arith; active = refl }) content.clients)

    pub room : (offers : ℕ) → IsSound (with_change content path (charged quantities offers))
        → HasRoomFor tree leaf quantities offers
    unfolding standing_in
    room offers sound = record {
      live = live;
      held = λ i s on there label.
          let way = live_on_way tree.places.items leaf i on in
          let more = (more_below offers i way.1).held label in
          let is = (of.sums i s way.0 there).held label in
          let within = sound.held label in
          let fits = sound.total label in
          let part =
          part_less (λ (c : Ranked). c.held label) (λ (c : Ranked). begins_with c.path (path_at tree.places.items i))
          (with_change content path (charged quantities offers)).clients in
          omega (arith, is, more, part, within, fits);
      count = λ i s on there.
          let way = live_on_way tree.places.items leaf i on in
          let more = (more_below offers i way.1).count in
          let is = (of.sums i s way.0 there).count in
          let fits = sound.count in
          let part =
          part_less (λ (c : Ranked). c.count) (λ (c : Ranked). begins_with c.path (path_at tree.places.items i))
          (with_change content path (charged quantities offers)).clients in
          omega (arith, is, more, part, fits);
    }

    pub lowerable : (offers : ℕ) → CanLowerAt content path quantities offers → IsLowerable tree leaf quantities offers
    unfolding standing_in
    lowerable offers can = record {
      live = live;
      held = λ i s on there label.
          let way = live_on_way tree.places.items leaf i on in
          let is = (of.sums i s way.0 there).held label in
          let least =
          client_within (λ (c : Ranked). c.held label) (amount_of quantities label) path (path_at tree.places.items i)
          (begins_at i way.1) content.clients has
          (each_from (λ (c : Ranked). same_path c.path path ≡ true → CanLower quantities offers c)
          (λ (c : Ranked). same_path c.path path ≡ true → amount_of quantities label ≤ c.held label) content.clients
          (λ c so same. (so same).held label) can) in
          let all = sum_below (path_at tree.places.items i) (λ (c : Ranked). c.held label) content.clients in
          omega (arith, is, least, all);
      count = λ i s on there.
          let way = live_on_way tree.places.items leaf i on in
          let is = (of.sums i s way.0 there).count in
          let least =
          client_within (λ (c : Ranked). c.count) offers path (path_at tree.places.items i) (begins_at i way.1) content.clients has
          (each_from (λ (c : Ranked). same_path c.path path ≡ true → CanLower quantities offers c)
          (λ (c : Ranked). same_path c.path path ≡ true → offers ≤ c.count) content.clients
          (λ c so same. (so same).count) can) in
          let all = sum_below (path_at tree.places.items i) (λ (c : Ranked). c.count) content.clients in
          omega (arith, is, least, all);
    }
