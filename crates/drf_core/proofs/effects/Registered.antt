-- What the sorter holds after an agent or a framework registers, and after a report.
use Rattle.std.proofs.Common.{◌≡◌, false, List, [], ◌∷◌, ◌++◌, map, refl, sym, ap, ◌∙◌}
use Rattle.drf_role.specs.Text.{Text}
use Rattle.drf_role.specs.Path.{Path}
use Rattle.drf_bundle.specs.Quantities.{plus}
use Rattle.drf_bundle.specs.Bundle.{quantities_of}
use Rattle.drf_bundle.specs.declared.quantities.Entry.{Entry}
use Rattle.drf_bundle.specs.declared.resource.Resource.{Resource}
use Rattle.drf_rows.specs.Held.{cluster_total}
use Rattle.drf_rows.specs.Step.{effect}
use Rattle.drf_rows.specs.Members.{has_framework, with_agent, new_client, distinct}
use Rattle.drf_rows.specs.Consistent.{IsConsistent}
use Rattle.drf_rows.specs.declared.event.Event.TheVariants.{AddAgent, AddFramework, Report}
use Rattle.drf_rows.specs.declared.rows.ClientRow.{ClientRow}
use Rattle.drf_rows.specs.declared.rows.Rows.{Rows}
use Rattle.drf_sorter.specs.Content.{Content, IsSame}
use Rattle.drf_sorter.proofs.theorems.SameLaws.{IsSame-between, IsSame-with_total}
use Rattle.drf_content.specs.Content.{content_of}
use Rattle.drf_content.specs.Registering.{client_paths, with_all}
use Rattle.drf_content.proofs.theorems.Members.{content_of-with_agent}
use Rattle.drf_content.proofs.theorems.Registered.{content_of-registered}
use Rattle.drf_content.proofs.theorems.Same.{IsSame-with_all}

-- ---- an agent registers

pub sorted-agent : (rows tables : Rows) (agent : Text) (total : List Resource) (before after : Content)
    → IsSame before (content_of rows)
    → tables ≡ record rows { agents = with_agent rows agent total }
    → after ≡ record before { total = plus (cluster_total rows.agents) (quantities_of total) }
    → IsSame after (content_of tables)
sorted-agent rows tables agent total before after sorted same set =
    let sum : List Entry = plus (cluster_total rows.agents) (quantities_of total) in
    IsSame-between after (record before { total = sum }) (record (content_of rows) { total = sum }) (content_of tables)
    set (IsSame-with_total before (content_of rows) sorted sum)
    (sym (ap content_of same ∙ content_of-with_agent rows agent total))

pub effect-agent : (rows tables : Rows) (agent : Text) (total : List Resource)
    → tables ≡ record rows { agents = with_agent rows agent total } → tables ≡ effect rows (AddAgent agent total)
unfolding effect
effect-agent rows tables agent total same = same

-- ---- a framework registers

pub effect-framework : (rows tables : Rows) (framework : Text) (roles : List Path) (clients : List ClientRow)
    → clients ≡ map new_client (distinct roles)
    → tables ≡ record rows { frameworks = rows.frameworks ++ record { name = framework; clients = clients } ∷ [] }
    → tables ≡ effect rows (AddFramework framework roles)
unfolding effect
effect-framework rows tables framework roles clients made same =
    same ∙ (λ i. record rows { frameworks = rows.frameworks ++ record { name = framework; clients = made i } ∷ [] })

pub sorted-framework : (rows tables : Rows) (framework : Text) (roles : List Path) (before after : Content)
    → IsSame before (content_of rows)
    → IsConsistent rows
    → has_framework rows framework ≡ false
    → tables ≡ effect rows (AddFramework framework roles)
    → after ≡ with_all before (client_paths framework (map new_client (distinct roles)))
    → IsSame after (content_of tables)
unfolding effect
sorted-framework rows tables framework roles before after sorted right new same added =
    let paths : List Path = client_paths framework (map new_client (distinct roles)) in
    IsSame-between after (with_all before paths) (with_all (content_of rows) paths) (content_of tables)
    added (IsSame-with_all before (content_of rows) paths sorted)
    (content_of-registered rows framework right new (distinct roles) ∙ sym (ap content_of same))

-- ---- a report

pub effect-report : (rows : Rows) → rows ≡ effect rows Report
unfolding effect
effect-report rows = refl
