use Rattle.std.proofs.Common.{◌≡◌, ◌+◌, ◌++◌, ◌∷◌, [], List, Option, Some, cond, length, map, sym, ap, ◌∙◌, subst, arith}
use Rattle.std.specs.Map.{lookup}
use Rattle.std.proofs.lemmas.List.{length-map, map_push}
use Rattle.drf_hash.specs.Slots.{filled, IsRegistry}
use Rattle.drf_hash.proofs.SlotLaws.{filled-push, filled-short, registry-push}
use Rattle.drf_tree.proofs.Names.{same_path, path_decides, Ranked}
use Rattle.drf_tree.proofs.ledger.Rows.{with_clients}
use Rattle.drf_tree.specs.Booked.{client_of, path_of, seen_slot}
use Rattle.drf_tree.specs.Ledger.{rows_in}
use Rattle.drf_tree.specs.declared.booked.Booked.{Booked}
use Rattle.drf_tree.proofs.ledger.Ledger.push.Goals as goal

pub overflow_add-self : goal.overflow_add-self
overflow_add-self c =
    let l = c.args.self.now in
    omega (arith, l.registry.live, filled-short (rows_in l), length-map l.slots.items seen_slot, l.slots.ok.0, l.slots.ok.1, l.slots.small)

pub invariant_of-self-2 : goal.invariant_of-self-2
invariant_of-self-2 c =
    let l = c.args.self.now in
    let client = client_of c.args.booked in
    let items : c.push_reserved.new.self.items ≡ l.slots.items ++ Some c.args.booked ∷ [] =
    c.push_reserved.ensures.items ∙ ap (λ (ss : List (Option Booked)). ss ++ Some c.args.booked ∷ []) c.in_ok-reserve.ensures.items in
    let small = c.reserve.new.self.ok.0 in
    let place : c.len.result ≡ length (rows_in l) =
    c.len.ensures ∙ omega (arith, small) ∙ ap length c.in_ok-reserve.ensures.items ∙ sym (length-map l.slots.items seen_slot) in
    record {
      registry =
          subst (λ (rows : List (Option Ranked)). IsRegistry same_path path_of rows c.insert.new.self.entries (l.live + 1))
          (sym (ap (map seen_slot) items ∙ map_push seen_slot l.slots.items (Some c.args.booked)))
          (registry-push same_path path_decides path_of (rows_in l) l.places.entries c.insert.new.self.entries l.live client l.registry c.requires
          (λ p. c.in_ok-insert.ensures.updates.0 p
          ∙ (λ i. cond (same_path (c.in_ok-key.ensures i) p) (Some (place i)) (lookup (same_path p) l.places.entries))));
    }

pub returns-clause-ok : goal.returns-clause-ok
returns-clause-ok c =
    let l = c.args.self.now in
    let items : c.push_reserved.new.self.items ≡ l.slots.items ++ Some c.args.booked ∷ [] =
    c.push_reserved.ensures.items ∙ ap (λ (ss : List (Option Booked)). ss ++ Some c.args.booked ∷ []) c.in_ok-reserve.ensures.items in
    ap (with_clients l)
    (ap (λ (ss : List (Option Booked)). filled (map seen_slot ss)) items
    ∙ ap (λ (rows : List (Option Ranked)). filled rows) (map_push seen_slot l.slots.items (Some c.args.booked))
    ∙ filled-push (rows_in l) (client_of c.args.booked))
