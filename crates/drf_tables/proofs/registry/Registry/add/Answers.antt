use Rattle.std.proofs.Common.{◌≡◌, ◌++◌, ◌∷◌, [], Some, is_some, false, cond, length, ap, sym, ◌∙◌, arith}
use Rattle.std.specs.Map.{lookup}
use Rattle.std.specs.Cmp.Lexicographic.{bytes_decides}
use Rattle.drf_hash.proofs.SlotLaws.{filled-push, filled-short, registry-push}
use Rattle.drf_tables.proofs.tables.Names.{Text, same_text, filled, name_of, Registered}
use Rattle.drf_tables.proofs.registry.Entries.{any-lookup, from_ok}
use Rattle.drf_tables.proofs.registry.Slots.{Slots}
use Rattle.drf_tables.proofs.registry.Registry.add.Goals as goal

pub unwrap-requires : goal.unwrap-requires
unwrap-requires g c =
    let room = ap (λ (r : Registered g.row.T.Denot). r.room) c.self.view_is in
    let some = c.requires.room in
    c.insert.ensures.succeeds (omega (arith, room, some))

pub push_reserved-requires : goal.push_reserved-requires
push_reserved-requires g c =
    let room = ap (λ (r : Registered g.row.T.Denot). r.room) c.self.view_is in
    let some = c.requires.room in
    let small = c.self.inside.slots.ok.0 in
    omega (arith, room, some, small)

pub overflow_add-self : goal.overflow_add-self
overflow_add-self g c =
    let s = c.self.inside.slots in
    omega (arith, c.self.invariant.live, filled-short s.items, s.ok.0, s.ok.1, s.small)

pub invariant_of-self : goal.invariant_of-self
invariant_of-self g c =
    let t = c.self.inside in
    let name : Text = c.into_two-key.result.1 in
    let two = c.into_two-key.ensures in
    let new : is_some (lookup (same_text name) (filled t.slots.items)) ≡ false =
    (λ i. is_some (lookup (same_text (two.name i)) (c.self.view_is i).entries)) ∙ c.requires.new in
    let small = t.slots.ok.0 in
    let place : c.len.result ≡ length t.slots.items = c.len.ensures ∙ omega (arith, small) in
    let updates = from_ok c.insert.result c.unwrap.result _ c.unwrap.ensures c.insert.ensures.updates in
    rw c.push_reserved.ensures.items (
    registry-push same_text bytes_decides name_of t.slots.items t.places.entries c.insert.new.self.entries t.live (name, c.args.added) c.self.invariant
    (any-lookup name (filled t.slots.items) ∙ new)
    (λ m. updates.0 m ∙ (λ i. cond (same_text ((two.key ∙ sym two.name) i) m) (Some (place i)) (lookup (same_text m) t.places.entries))))

pub returns : goal.returns
returns g c =
    ap (λ (ss : Slots g.row.T.Denot). filled ss) c.push_reserved.ensures.items
    ∙ filled-push c.self.inside.slots.items (c.into_two-key.result.1, c.args.added)
    ∙ (λ i. (c.self.view_is i).entries ++ (c.into_two-key.ensures.name i, c.args.added) ∷ [])
