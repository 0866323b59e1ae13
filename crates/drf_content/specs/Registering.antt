-- How the content of a sorter changes when a framework registers, leaves, or gets other roles: its clients are added or removed one by one.
use Rattle.std.specs.Prelude.{◌≡◌, true, false, not, List, [], ◌∷◌, map, fold, filter}
use Rattle.drf_role.specs.Text.{Text}
use Rattle.drf_role.specs.Path.{Path, client_path}
use Rattle.drf_rows.specs.Roles.{is_among, clients_joined}
use Rattle.drf_rows.specs.declared.rows.ClientRow.{ClientRow}
use Rattle.drf_sorter.specs.Content.{Content, has_client, with_client, without_client}

-- the paths of the clients of a framework
abbrev pub client_paths : Text → List ClientRow → List Path
client_paths framework clients = map (λ c. client_path c.role framework) clients

-- the content with clients added last, in order
abbrev pub with_all : Content → List Path → Content
with_all content paths = fold with_client content paths

-- each client is unknown after those before it are added
abbrev pub AreNew : Content → List Path → Type 0
AreNew content [] = Unit {0}
AreNew content (path ∷ paths) = (has_client content path ≡ false) × AreNew (with_client content path) paths

-- the content without some clients
abbrev pub without_all : Content → List Path → Content
without_all content paths = fold without_client content paths

-- each client is known after those before it are removed
abbrev pub AreKnown : Content → List Path → Type 0
AreKnown content [] = Unit {0}
AreKnown content (path ∷ paths) = (has_client content path ≡ true) × AreKnown (without_client content path) paths

-- the paths of the clients that a framework with these clients gains when it gets these roles
abbrev pub paths_joined : Text → List Path → List ClientRow → List Path
paths_joined framework roles clients = client_paths framework (clients_joined roles clients)

-- the paths of the clients that it loses
abbrev pub paths_left : Text → List Path → List ClientRow → List Path
paths_left framework roles clients = client_paths framework (filter (λ c. not (is_among roles c.role)) clients)
