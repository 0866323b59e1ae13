-- Finding, changing, adding and removing clients in the slots of a ledger.
use Rattle.std.specs.List.{AllByRecursion, list_any}
use Rattle.std.proofs.Common.{◌≡◌, ◌+◌, ◌<◌, ◌≤◌, ◌++◌, ◌∷◌, [], ℕ, true, false, List, Option, None, Some, Result, Ok, Err, OnErr, OnOk, refl, map, get_or, length, set, sum_by, take, ap, ◌∙◌, sym, subst, arith, if◌then◌else◌}
use Rattle.std.specs.Option.{option_map, IfSome}
use Rattle.std.proofs.lemmas.List.{append-nil, get_or-map, length-map, map-set, take_more}
use Rattle.std.proofs.lemmas.List.Elements.{filter_map-append}
use Rattle.drf_hash.specs.Slots.{filled, ranks_of, slot_of, IsRegistry}
use Rattle.drf_hash.proofs.FreeSlotLaws.{closed-seen, ranks-seen, registry-closed}
use Rattle.drf_hash.proofs.SlotLaws.{IsIn, each_slot, filled-changed, filled-push, new_to_come, registry-set, slot_found, slot_in_sum, slot_missed}
use Rattle.drf_tree.proofs.Names.{Path, same_path, path_decides, same_path_itself, Content, Ranked, has_client, ledger_content}
use Rattle.drf_tree.specs.Booked.{client_of, path_of, seen_slot}
use Rattle.drf_tree.specs.Ledger.{rows_in}
use Rattle.drf_tree.specs.declared.booked.Booked.{Booked}
use Rattle.drf_tree.specs.declared.ledger.Ledger.{Ledger}

-- a slot as contracts see it
pub slot_seen : (slots : List (Option Booked)) (i : ℕ) (x : Option Booked) → i < length slots → x ≡ get_or slots i x
    → seen_slot x ≡ get_or (map seen_slot slots) i None
slot_seen slots i x below read = ap seen_slot read ∙ sym (get_or-map seen_slot slots i x None below)

-- the free slots are closed, unless memory ran out
pub closed_rows : (slots new : List (Option Booked)) → new ≡ map (λ b. Some b) (filled slots)
    → map seen_slot new ≡ map (λ r. Some r) (filled (map seen_slot slots))
closed_rows slots new is = ap (map seen_slot) is ∙ closed-seen client_of slots

pub registry_closed : {T E : Type 0} (r : Result T E) (slots new : List (Option Booked)) (places after : List (Path × ℕ)) (live : ℕ)
    → OnOk r (new ≡ map (λ b. Some b) (filled slots)) → OnOk r (after ≡ map (λ e. (e.0, get_or (ranks_of 0 slots) e.1 0)) places)
    → OnErr r (new ≡ slots) → OnErr r (after ≡ places) → IsRegistry same_path path_of (map seen_slot slots) places live
    → IsRegistry same_path path_of (map seen_slot new) after live
registry_closed (Ok v) slots new places after live closed moved same stay known =
    let places_moved = moved ∙ ap (λ (ks : List ℕ). map (λ e. (e.0, get_or ks e.1 0)) places) (sym (ranks-seen client_of 0 slots)) in
    subst (λ (rows : List (Option Ranked)). IsRegistry same_path path_of rows after live) (sym (closed_rows slots new closed))
    (subst (λ (es : List (Path × ℕ)). IsRegistry same_path path_of (map (λ c. Some c) (filled (map seen_slot slots))) es live) (sym places_moved)
    (registry-closed same_path path_of (map seen_slot slots) places live known))
registry_closed (Err e) slots new places after live closed moved same stay known =
    subst (λ (ss : List (Option Booked)). IsRegistry same_path path_of (map seen_slot ss) after live) (sym same)
    (subst (λ (es : List (Path × ℕ)). IsRegistry same_path path_of (map seen_slot slots) es live) (sym stay) known)

-- a client with this path is in a slot
pub row_missed : (path : Path) (ledger : Ledger) → has_client (ledger_content ledger) path ≡ true
    → slot_of same_path path_of path (rows_in ledger) ≡ None → ⊥
row_missed path ledger = slot_missed same_path path_decides path_of path (rows_in ledger)

-- the content with other clients
abbrev pub with_clients : Ledger → List Ranked → Content
with_clients ledger clients = record (ledger_content ledger) { clients = clients }

-- ---- one more slot is copied

module _ (ledger copy : Ledger) (slots : List (Option Booked)) (all : slots ≡ ledger.slots.items) (i : ℕ) (x : Option Booked)
    (below : i < length slots) (read : x ≡ get_or slots i x)
    (copied : ledger_content copy ≡ with_clients ledger (filled (take i (rows_in ledger)))) where
  seen_there : seen_slot x ≡ get_or (rows_in ledger) i None
  seen_there = slot_seen slots i x below read ∙ ap (λ (ss : List (Option Booked)). get_or (map seen_slot ss) i None) all

  -- no client before it has its path
  pub copy_is_new : (b d : Booked) → x ≡ Some b → client_of d ≡ client_of b → has_client (ledger_content copy) d.client.path ≡ false
  copy_is_new b d some same =
      ap (λ (k : Content). has_client k d.client.path) copied
      ∙ ap (λ (r : Ranked). list_any (λ c. same_path c.path r.path) (filled (take i (rows_in ledger)))) same
      ∙ new_to_come same_path path_decides path_of (rows_in ledger) i (client_of b) ledger.registry.apart (sym seen_there ∙ ap seen_slot some)

  one_more : take (i + 1) (rows_in ledger) ≡ take i (rows_in ledger) ++ seen_slot x ∷ []
  one_more =
      take_more (rows_in ledger) i None
      (subst (λ (ss : List (Option Booked)). i < length (map seen_slot ss)) all (omega (arith, below, length-map slots seen_slot)))
      ∙ ap (λ (s : Option Ranked). take i (rows_in ledger) ++ s ∷ []) (sym seen_there)

  pub copied_some : (new : Ledger) (b d : Booked) → x ≡ Some b → client_of d ≡ client_of b
      → ledger_content new ≡ with_clients copy (filled (rows_in copy) ++ client_of d ∷ [])
      → ledger_content new ≡ with_clients ledger (filled (take (i + 1) (rows_in ledger)))
  copied_some new b d some same put =
      put
      ∙ (λ j. record (copied j) { clients = (copied j).clients ++ same j ∷ [] })
      ∙ ap (with_clients ledger) (sym (ap (λ (rows : List (Option Ranked)). filled rows)
      (one_more ∙ ap (λ (s : Option Booked). take i (rows_in ledger) ++ seen_slot s ∷ []) some)
      ∙ filled-push (take i (rows_in ledger)) (client_of b)))

  pub copied_free_slot : x ≡ None → ledger_content copy ≡ with_clients ledger (filled (take (i + 1) (rows_in ledger)))
  copied_free_slot none =
      copied
      ∙ ap (with_clients ledger) (sym (ap (λ (rows : List (Option Ranked)). filled rows)
      (one_more ∙ ap (λ (s : Option Booked). take i (rows_in ledger) ++ seen_slot s ∷ []) none)
      ∙ filter_map-append (λ s. s) (take i (rows_in ledger)) (None ∷ []) ∙ append-nil (filled (take i (rows_in ledger)))))

module _ (path : Path) (slots : List (Option Booked)) (i : ℕ) (at : slot_of same_path path_of path (map seen_slot slots) ≡ Some i) where
  pub here : IsIn path_of path (map seen_slot slots) i
  here = slot_found same_path path_decides path_of path (map seen_slot slots) i at

  pub here_below : i < length slots
  here_below = omega (arith, here.below, length-map slots seen_slot)

  -- what holds of the client that is found holds of the slot that is read
  pub if_here : (P : Ranked → Type 0) (x : Option Booked) → x ≡ get_or slots i x → P here.entry → IfSome (seen_slot x) P
  if_here P x read holds = subst (λ (o : Option Ranked). IfSome o P) (sym (slot_seen slots i x here_below read ∙ here.there)) holds

  -- what holds of each client with the path holds there
  pub each_here : (P : Ranked → Type 0) (x : Option Booked) → x ≡ get_or slots i x
      → AllByRecursion (λ c. same_path c.path path ≡ true → P c) (filled (map seen_slot slots)) → IfSome (seen_slot x) P
  each_here P x read all =
      if_here P x read (each_slot (λ c. same_path c.path path ≡ true → P c) (map seen_slot slots) i here.entry here.there all
      (subst (λ (p : Path). same_path p path ≡ true) (sym here.named) (same_path_itself path)))

  -- ---- the client changes, and keeps its path

  module _ (places : List (Path × ℕ)) (live : ℕ) (known : IsRegistry same_path path_of (map seen_slot slots) places live) (change : Ranked → Ranked) where
    -- what is subtracted is part of each sum
    pub part_here : (f : Ranked → ℕ)
        → f (change here.entry) ≤ sum_by f (map (λ c. if same_path c.path path then change c else c) (filled (map seen_slot slots)))
    part_here f =
        subst (λ (cs : List Ranked). f (change here.entry) ≤ sum_by f cs)
        (filled-changed same_path path_decides path_of path change (map seen_slot slots) i here.entry known.apart at here.there)
        (slot_in_sum f (map seen_slot slots) i here.entry (change here.entry) here.there)

    module _ (x y : Option Booked) (read : x ≡ get_or slots i x) (is : seen_slot y ≡ option_map change (seen_slot x)) where
      written : map seen_slot (set slots i y) ≡ set (map seen_slot slots) i (Some (change here.entry))
      written =
          map-set seen_slot slots i y
          ∙ ap (set (map seen_slot slots) i) (is ∙ ap (option_map change) (slot_seen slots i x here_below read ∙ here.there))

      pub registry_stays : ((c : Ranked) → (change c).path ≡ c.path) → IsRegistry same_path path_of (map seen_slot (set slots i y)) places live
      registry_stays keeps =
          subst (λ (rows : List (Option Ranked)). IsRegistry same_path path_of rows places live) (sym written)
          (registry-set same_path path_decides path_of (map seen_slot slots) places live i here.entry (change here.entry) known here.there
          (keeps here.entry))

      pub clients_change : filled (map seen_slot (set slots i y))
          ≡ map (λ c. if same_path c.path path then change c else c) (filled (map seen_slot slots))
      clients_change =
          ap (λ (rows : List (Option Ranked)). filled rows) written
          ∙ filled-changed same_path path_decides path_of path change (map seen_slot slots) i here.entry known.apart at here.there

  -- the change can fail when out of memory
  pub registry_stays_if : {T E : Type 0} (r : Result T E) (places : List (Path × ℕ)) (live : ℕ) → IsRegistry same_path path_of (map seen_slot slots) places live
      → (change : Ranked → Ranked) → ((c : Ranked) → (change c).path ≡ c.path) → (x y : Option Booked) → x ≡ get_or slots i x
      → OnOk r (seen_slot y ≡ option_map change (seen_slot x)) → OnErr r (y ≡ x)
      → IsRegistry same_path path_of (map seen_slot (set slots i y)) places live
  registry_stays_if (Ok v) places live known change keeps x y read done same = registry_stays places live known change x y read done keeps
  registry_stays_if (Err e) places live known change keeps x y read done same =
      registry_stays places live known (λ c. c) x y read (ap seen_slot same ∙ by (seen_slot x)) (λ c. refl)
    where
      by : (o : Option Ranked) → o ≡ option_map (λ c. c) o
      by None = refl
      by (Some c) = refl
