-- What setting the roles of a framework does.
use Rattle.std.specs.Prelude.{◌≡◌, true, false, List}
use Rattle.std.specs.List.{list_any, AllByRecursion}
use Rattle.drf_role.specs.Text.{Text, same_text}
use Rattle.drf_role.specs.Path.{Path}
use Rattle.drf_rows.specs.Client.{Client}
use Rattle.drf_rows.specs.Consistent.{IsConsistent}
use Rattle.drf_rows.specs.Filters.{is_of_client}
use Rattle.drf_rows.specs.Held.{client_of, is_registered}
use Rattle.drf_rows.specs.Members.{has_framework, new_client}
use Rattle.drf_rows.specs.Roles.{is_among}
use Rattle.drf_rows.specs.Step.{effect}
use Rattle.drf_rows.specs.declared.event.Event.TheVariants.{SetFramework}
use Rattle.drf_rows.specs.declared.rows.Rows.{Rows}
use Rattle.drf_row_laws.specs.LifeLaws.{is_same_client}

-- a registered framework is then registered in the listed roles, and in no others
abbrev pub ListedRolesAreSet : Type 0
ListedRolesAreSet =
    (rows : Rows) (framework : Text) (roles : List Path) (role : Path)
    → has_framework rows framework ≡ true
    → is_registered (effect rows (SetFramework framework roles)).frameworks (record { role = role; framework = framework }) ≡ is_among roles role

-- the clients of other frameworks are the same
abbrev pub OtherClientsStayRegistered : Type 0
OtherClientsStayRegistered =
    (rows : Rows) (framework : Text) (roles : List Path) (client : Client)
    → same_text client.framework framework ≡ false
    → is_registered (effect rows (SetFramework framework roles)).frameworks client ≡ is_registered rows.frameworks client

-- a list of exactly the roles of the framework, in any order, changes nothing
abbrev pub SameRolesChangeNothing : Type 0
SameRolesChangeNothing =
    (rows : Rows) (framework : Text) (roles : List Path)
    → IsConsistent rows
    → ((role : Path) → is_registered rows.frameworks (record { role = role; framework = framework }) ≡ is_among roles role)
    → effect rows (SetFramework framework roles) ≡ rows

-- each row of the client is that of a newly registered one
abbrev pub IsAsNew : Rows → Client → Type 0
IsAsNew rows client =
    AllByRecursion (λ f. AllByRecursion (λ c. is_same_client client (client_of f c) ≡ true → c ≡ new_client client.role) f.clients) rows.frameworks

-- a role that is left and then taken again is active, with count 0 and without filters
abbrev pub TakenAgainIsNew : Type 0
TakenAgainIsNew =
    (rows : Rows) (client : Client) (without with : List Path)
    → is_among without client.role ≡ false
    → let left : Rows = effect rows (SetFramework client.framework without) in
    let after : Rows = effect left (SetFramework client.framework with) in
    IsAsNew after client × (list_any (is_of_client client) after.filters ≡ false)
