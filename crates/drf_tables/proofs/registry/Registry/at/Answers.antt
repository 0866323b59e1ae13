use Rattle.std.proofs.Common.{◌≡◌, ◌<◌, ℕ, None, Some, is_some, get_or, length, take, slice_get, sym, ap, ◌∙◌, arith}
use Rattle.std.specs.Option.{option_copied}
use Rattle.drf_hash.proofs.SlotLaws.{read_is}
use Rattle.drf_tables.proofs.tables.Names.{filled, Registered}
use Rattle.drf_tables.proofs.registry.Slots.{Slots, filled_at, slot-below}
use Rattle.drf_tables.proofs.registry.Registry.at.Given as given
use Rattle.drf_tables.proofs.registry.Registry.at.Goals.{After-ranked-slot}
use Rattle.drf_tables.proofs.registry.Registry.at.Goals as goal

there_at : (g : given.Over) (c : After-ranked-slot g) → get_or c.self.inside.slots.items c.ranked-slot.result None ≡ Some c.ranked-slot.ensures.entry
there_at g c = ap (λ (ss : Slots g.row.T.Denot). get_or ss c.ranked-slot.result None) (sym c.deref.ensures.value) ∙ c.ranked-slot.ensures.there

below_at : (g : given.Over) (c : After-ranked-slot g) → c.ranked-slot.result < length c.self.inside.slots.items
below_at g c = slot-below c.self.inside.slots.items _ _ (there_at g c)

pub index-requires : goal.index-requires
index-requires g c = omega (arith, below_at g (goal.at.index-requires g c).After-ranked-slot, c.self.inside.slots.ok.0)

pub unwrap-requires : goal.unwrap-requires
unwrap-requires g c =
    let b = (goal.at.unwrap-requires g c).After-ranked-slot in
    c.as_ref.ensures.variant ∙ ap is_some (read_is c.self.inside.slots.items _ c.index.result.now _ (below_at g b) c.index.ensures (there_at g b))

pub returns : goal.returns
returns g c =
    let slots = c.self.inside.slots.items in
    let b = (goal.at.returns g c).After-ranked-slot in
    let read : c.index.result.now ≡ Some c.unwrap.result.now = sym c.as_ref.ensures.value ∙ ap option_copied c.unwrap.ensures in
    let before : length (filled (take c.ranked-slot.result slots)) ≡ c.args.place =
    ap (λ (ss : Slots g.row.T.Denot). length (filled (take c.ranked-slot.result ss))) (sym c.deref.ensures.value) ∙ c.ranked-slot.ensures.before in
    ap (λ (r : Registered g.row.T.Denot). slice_get r.entries c.args.place) (sym c.self.view_is)
    ∙ ap (λ (n : ℕ). slice_get (filled slots) n) (sym before)
    ∙ filled_at slots _ _ (there_at g b)
    ∙ sym (read_is slots _ c.index.result.now _ (below_at g b) c.index.ensures (there_at g b)) ∙ read
