use Rattle.std.proofs.Common.{◌≡◌, Bool, false, Some, None, Option, sym, ap, ◌∙◌}
use Rattle.std.specs.Global.{Vec}
use Rattle.std.specs.List.{list_any}
use Rattle.std.specs.Map.{lookup}
use Rattle.std.specs.Option.{option_copied, option_map_or}
use Rattle.drf_tables.proofs.tables.Names.{same_text, same_path, Client, ClientRow, Stored}
use Rattle.drf_rows.specs.Step.{is_in_role}
use Rattle.drf_tables.specs.Inside.{rows_of}
use Rattle.drf_tables.proofs.registry.Entries.{registered-lookup}
use Rattle.drf_tables.proofs.agents.Changes.{frameworks_apart}
use Rattle.drf_tables.proofs.tables.Tables.is_in_role.Goals as goal

pub returns-in_default : goal.returns-in_default
unfolding rows_of
returns-in_default c =
    let t = c.self.inside in
    let client : Client = record { role = c.args.role.now; framework = c.args.framework.now } in
    let none : lookup (same_text client.framework) t.frameworks.entries ≡ None = sym c.get.ensures.value ∙ ap option_copied c.in_default.is in
    let has : Option (Vec ClientRow) → Bool = λ o. option_map_or (λ v. list_any (λ c. same_path c.role client.role) v.items) o false in
    sym (registered-lookup client t.frameworks.entries (frameworks_apart t c.self.invariant.kept) ∙ ap has none)
    ∙ ap (λ (s : Stored). is_in_role s.rows client.framework client.role) c.self.view_is

pub returns : goal.returns
unfolding rows_of
returns c =
    let t = c.self.inside in
    let client : Client = record { role = c.args.role.now; framework = c.args.framework.now } in
    let there : lookup (same_text client.framework) t.frameworks.entries ≡ Some c.in-Some.clients.now =
    sym c.get.ensures.value ∙ ap option_copied c.in-Some.is in
    let has : Option (Vec ClientRow) → Bool = λ o. option_map_or (λ v. list_any (λ c. same_path c.role client.role) v.items) o false in
    c.has_role.ensures
    ∙ ap (list_any (λ (c : ClientRow). same_path c.role client.role)) c.deref.ensures.value
    ∙ sym (registered-lookup client t.frameworks.entries (frameworks_apart t c.self.invariant.kept) ∙ ap has there)
    ∙ ap (λ (s : Stored). is_in_role s.rows client.framework client.role) c.self.view_is
