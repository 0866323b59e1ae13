-- The rows with one more framework, whose clients can have counts above 0.
use Rattle.std.specs.List.{list_any}
use Rattle.std.proofs.Common.{refl, sym, ap, ◌∙◌, ◌≡◌, ◌<◌, ◌&&◌, Bool, true, false, List, [], ◌∷◌, ◌++◌, map}
use Rattle.std.proofs.lemmas.Bool.{or_left}
use Rattle.std.proofs.lemmas.List.{map-append}
use Rattle.std.proofs.lemmas.List.Folds.{list_any-append}
use Rattle.drf_tables.proofs.tables.Names.{Text, same_text, same_path, Client, are_distinct, are_distinct_roles, offers_counted, IsConsistent, IsFilter, IsFramework, IsHeld, is_registered, Holding, holdings_of, has_framework, each_append, each_from, ClientRow, FrameworkRow, Rows}
use Rattle.drf_row_laws.proofs.RegistrationLaws.{framework_added, IsConsistent-framework_added}
use Rattle.drf_rows.specs.declared.rows.FilterRow.{FilterRow}

-- registered clients stay registered
still_registered : (fs : List FrameworkRow) (f : FrameworkRow) (client : Client) → is_registered fs client ≡ true → is_registered (fs ++ f ∷ []) client ≡ true
still_registered fs f client known =
    let test : FrameworkRow → Bool =
    λ f. same_text f.name client.framework && list_any (λ (c : ClientRow). same_path c.role client.role) f.clients in
    list_any-append test fs (f ∷ []) ∙ or_left (list_any test fs) (list_any test (f ∷ [])) known

-- the names of frameworks stay distinct
names_apart : (rows : Rows) (f : FrameworkRow) → IsConsistent rows → has_framework rows f.name ≡ false → IsFramework f
    → are_distinct (map (λ f. f.name) (rows.frameworks ++ f ∷ [])) ≡ true
names_apart rows f consistent new valid =
    let name : FrameworkRow → Text = λ f. f.name in
    let bare : FrameworkRow = record { name = f.name; clients = [] } in
    let added : IsConsistent (framework_added rows bare) =
    IsConsistent-framework_added rows bare consistent new (record { name = valid.name; roles = tt }) refl tt in
    ap are_distinct (map-append name rows.frameworks (f ∷ []) ∙ sym (map-append name rows.frameworks (bare ∷ []))) ∙ added.frameworks.names

pub IsConsistent-framework_put : (rows : Rows) (f : FrameworkRow)
    → IsConsistent rows → has_framework rows f.name ≡ false → IsFramework f
    → are_distinct_roles (map (λ c. c.role) f.clients) ≡ true
    → offers_counted (rows.frameworks ++ f ∷ []) < rows.next_offer → IsConsistent (framework_added rows f)
IsConsistent-framework_put rows f consistent new valid apart counted =
    let frameworks : List FrameworkRow = rows.frameworks ++ f ∷ [] in
    let held : (h : Holding) → IsHeld rows.agents rows.frameworks h → IsHeld rows.agents frameworks h = λ h here. record {
      agent = here.agent;
      client = still_registered rows.frameworks f h.client here.client;
      bundle = here.bundle;
    } in
    let filtered : (g : FilterRow) → IsFilter rows.agents rows.frameworks g → IsFilter rows.agents frameworks g = λ g here. record {
      agent = here.agent;
      client = still_registered rows.frameworks f (record { role = g.role; framework = g.framework }) here.client;
      bundle = here.bundle;
      until = here.until;
    } in
    record {
      agents = consistent.agents;
      frameworks = record {
        names = names_apart rows f consistent new valid;
        roles = each_append (λ f. are_distinct_roles (map (λ c. c.role) f.clients) ≡ true) rows.frameworks (f ∷ []) consistent.frameworks.roles (apart, tt);
        each = each_append IsFramework rows.frameworks (f ∷ []) consistent.frameworks.each (valid, tt);
      };
      holdings = each_from (IsHeld rows.agents rows.frameworks) (IsHeld rows.agents frameworks) (holdings_of rows) held consistent.holdings;
      covered = consistent.covered;
      tasks = consistent.tasks;
      weights = consistent.weights;
      limits = consistent.limits;
      filters = each_from (IsFilter rows.agents rows.frameworks) (IsFilter rows.agents frameworks) rows.filters filtered consistent.filters;
      early = consistent.early;
      counted = counted;
      numbered = consistent.numbered;
    }
