use Rattle.std.proofs.Common.{◌≡◌, None, sym, ap, ◌∙◌, arith}
use Rattle.std.specs.Map.{lookup}
use Rattle.std.specs.Option.{option_copied}
use Rattle.drf_tables.proofs.tables.Names.{same_text, Registered, name_of, slot_of}
use Rattle.drf_tables.proofs.registry.Slots.{IsFound, found_in, no_free_slot, read_slot, slot_none, value_found}
use Rattle.drf_tables.proofs.registry.Registry.get.Given as given
use Rattle.drf_tables.proofs.registry.Registry.get.Goals.{In-Some}
use Rattle.drf_tables.proofs.registry.Registry.get.Goals as goal

pub returns-in_default : goal.returns-in_default
returns-in_default g c =
    let name = c.args.name.now in
    let none : slot_of same_text name_of name c.self.inside.slots.items ≡ None =
    sym (c.self.invariant.found name) ∙ sym c.get.ensures.value ∙ ap option_copied c.in_default.is in
    record { value = sym (slot_none name c.self.inside.slots.items none) ∙ ap (λ (r : Registered g.row.T.Denot). lookup (same_text name) r.entries) c.self.view_is }

here_at : (g : given.Over) (c : In-Some g) → IsFound c.args.name.now c.self.inside.slots.items c.in-Some.place.now
here_at g c = found_in _ _ _ (sym (c.self.invariant.found c.args.name.now) ∙ sym c.get.ensures.value ∙ ap option_copied c.in-Some.is)

pub index-requires : goal.index-requires
index-requires g c = omega (arith, (here_at g (goal.at.index-requires g c).In-Some).here.below, c.self.inside.slots.ok.0)

pub returns-in_default-index : goal.returns-in_default-index
returns-in_default-index g c =
    let here = (here_at g (goal.at.returns-in_default-index g c).In-Some).here in
    absurd (no_free_slot c.self.inside.slots.items c.in-Some.place.now c.index.result.now here.entry here.below c.index.ensures here.there c.in_default-index.is)

pub returns : goal.returns
returns g c =
    let slots = c.self.inside.slots.items in
    let here = here_at g (goal.at.returns g c).In-Some in
    let e = c.in-Some-index.entry in
    let there = read_slot slots c.in-Some.place.now c.index.result.now e here.here.below c.index.ensures c.in-Some-index.is in
    record {
      value = sym (value_found c.args.name.now slots c.in-Some.place.now e c.self.invariant.apart here there)
          ∙ ap (λ (r : Registered g.row.T.Denot). lookup (same_text c.args.name.now) r.entries) c.self.view_is;
    }
