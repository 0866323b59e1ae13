use Rattle.std.proofs.Common.{is_some, ap, ◌∙◌}
use Rattle.std.specs.Map.{lookup}
use Rattle.drf_tables.proofs.tables.Names.{same_text, Registered}
use Rattle.drf_tables.proofs.registry.Slots.{slot-looked_up}
use Rattle.drf_tables.proofs.registry.Registry.has.Goals as goal

pub returns : goal.returns
returns g c =
    let name = c.args.name.now in
    c.contains_key.ensures
    ∙ ap is_some (c.self.invariant.found name)
    ∙ slot-looked_up name c.self.inside.slots.items
    ∙ ap (λ (r : Registered g.row.T.Denot). is_some (lookup (same_text name) r.entries)) c.self.view_is
