use Rattle.std.proofs.Common.{ap, ◌∙◌, subst}
use Rattle.std.specs.List.{IsDistinct}
use Rattle.std.specs.Map.{keys_of}
use Rattle.drf_tables.proofs.tables.Names.{filled, same_text, Registered}
use Rattle.drf_tables.proofs.registry.Slots.{Slots}
use Rattle.drf_tables.proofs.registry.Registry.slots.Goals as goal

pub returns-clause-entries : goal.returns-clause-entries
returns-clause-entries g c = ap (λ (ss : Slots g.row.T.Denot). filled ss) c.deref.ensures.value ∙ ap (λ (r : Registered g.row.T.Denot). r.entries) c.self.view_is

pub returns-clause-apart : goal.returns-clause-apart
returns-clause-apart g c = subst (λ (r : Registered g.row.T.Denot). IsDistinct same_text (keys_of r.entries)) c.self.view_is c.self.invariant.apart
