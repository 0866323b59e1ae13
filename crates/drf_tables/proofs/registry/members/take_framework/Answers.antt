use Rattle.std.proofs.Common.{◌≡◌, Some, None, List, sym, ap, ◌∙◌, refl, arith}
use Rattle.std.specs.Global.{Vec}
use Rattle.std.specs.Map.{lookup}
use Rattle.std.specs.Option.{option_copied}
use Rattle.drf_tables.proofs.tables.Names.{Text, same_text, are_distinct, ClientRow, count_clients, framework_row, framework_rows}
use Rattle.drf_tables.proofs.registry.Entries.{removed_entry, rows-filter, names-keys, removed-none, counted-removed}
use Rattle.drf_tables.proofs.registry.members.take_framework.Goals as goal

pub returns-in_default-clause-rows : goal.returns-in_default-clause-rows
returns-in_default-clause-rows c =
    let entries = c.args.frameworks.now.entries in
    let name : Text = c.args.framework.now in
    let apart = sym (ap are_distinct (names-keys framework_row (λ f. f.name) entries (λ e. refl))) ∙ c.requires in
    let none : lookup (same_text name) entries ≡ None = sym c.get.ensures.value ∙ ap option_copied c.in_default.is in
    ap framework_rows (sym (removed-none name entries none) ∙ removed_entry name entries apart)
    ∙ rows-filter name framework_row (λ f. f.name) entries (λ e. refl)

pub returns-clause-rows : goal.returns-clause-rows
returns-clause-rows c =
    let entries = c.args.frameworks.now.entries in
    let name : Text = c.args.framework.now in
    let apart = sym (ap are_distinct (names-keys framework_row (λ f. f.name) entries (λ e. refl))) ∙ c.requires in
    ap framework_rows (c.remove.ensures ∙ removed_entry name entries apart)
    ∙ rows-filter name framework_row (λ f. f.name) entries (λ e. refl)

pub returns-clause-clients : goal.returns-clause-clients
returns-clause-clients c =
    let entries = c.args.frameworks.now.entries in
    let name : Text = c.args.framework.now in
    let v : Vec ClientRow = c.in-Some.clients.now in
    let found : lookup (same_text name) entries ≡ Some v = sym c.get.ensures.value ∙ ap option_copied c.in-Some.is in
    let many = ap (λ (es : List (Text × Vec ClientRow)). count_clients (framework_rows es)) c.remove.ensures in
    omega (arith, counted-removed name entries v found, many, c.len-count.ensures, v.ok.0)
