-- How the content of a sorter changes when a saved row is added.
use Rattle.std.specs.Prelude.{◌≡◌, false, not, List, [], ◌∷◌, ◌++◌, fold}
use Rattle.drf_role.specs.Text.{Text}
use Rattle.drf_role.specs.Path.{client_path}
use Rattle.drf_bundle.specs.Bundle.{quantities_of}
use Rattle.drf_bundle.specs.Quantities.{plus}
use Rattle.drf_rows.specs.Client.{path_of}
use Rattle.drf_rows.specs.Holdings.{Holding, holding_of_offer, holding_of_task}
use Rattle.drf_rows.specs.Members.{has_framework}
use Rattle.drf_rows.specs.Weights.{has_weight}
use Rattle.drf_rows.specs.declared.rows.ClientRow.{ClientRow}
use Rattle.drf_rows.specs.declared.rows.Rows.{Rows}
use Rattle.drf_saved.specs.declared.saved.SavedRow.{SavedRow}
use Rattle.drf_saved.specs.declared.saved.SavedRow.TheVariants.{Agent, Framework, Weight, Limit, Offer, Task, Filter}
use Rattle.drf_sorter.specs.Content.{Content, Ranked, IsSound, charged, has_client, with_change, with_weight}

-- ---- the clients of a framework are added one by one

-- a client of a saved framework: its count is restored, and it holds nothing yet
abbrev pub put_back : Text → ClientRow → Ranked
put_back framework c =
    record { path = client_path c.role framework; active = not c.suppressed; held = λ _. 0; count = c.count }

-- the content with a client added last
abbrev pub with_last : Content → Ranked → Content
with_last content client = record content { clients = content.clients ++ client ∷ [] }

-- the content with the clients of a saved framework added last, in order
abbrev pub with_all_back : Content → Text → List ClientRow → Content
with_all_back content framework clients = fold (λ content c. with_last content (put_back framework c)) content clients

-- the client is unknown, and the content with it is sound
pub record CanBeLast (content : Content) (client : Ranked) : Type 0 where
  pub new : has_client content client.path ≡ false
  pub sound : IsSound (with_last content client)

-- each client can be added after those before it
abbrev pub CanAllBeBack : Content → Text → List ClientRow → Type 0
CanAllBeBack content framework [] = Unit {0}
CanAllBeBack content framework (c ∷ cs) =
    CanBeLast content (put_back framework c) × CanAllBeBack (with_last content (put_back framework c)) framework cs

-- ---- any row is added

-- the content with a holding charged to its client; no offer is counted
abbrev pub with_held : Content → Holding → Content
with_held content h = with_change content (path_of h.client) (charged (quantities_of h.bundle) 0)

-- the content after a saved row is added
abbrev pub with_put : Content → SavedRow → Content
with_put content (Agent a) = record content { total = plus content.total (quantities_of a.total) }
with_put content (Framework f) = with_all_back content f.name f.clients
with_put content (Weight w) = with_weight content w.role w.weight
with_put content (Limit l) = content
with_put content (Offer o) = with_held content (holding_of_offer o)
with_put content (Task t) = with_held content (holding_of_task t)
with_put content (Filter f) = content

-- the framework is not registered, or the role has no weight
abbrev pub IsNew : Rows → SavedRow → Type 0
IsNew rows (Framework f) = has_framework rows f.name ≡ false
IsNew rows (Weight w) = has_weight rows w.role ≡ false
IsNew rows row = Unit {0}
