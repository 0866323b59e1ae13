-- What frameworks are offered or use, as the code stores it by name, and the part of it that a client has.
use Rattle.std.specs.Prelude.{◌≡◌, ℕ, ◌<◌, ◌^◌, true, List, [], map, filter, fold, sum_by, if◌then◌else◌}
use Rattle.std.specs.Borrow.{Bor}
use Rattle.std.specs.List.{Contains}
use Rattle.std.specs.Map.{lookup}
use Rattle.std.specs.Option.{option_map_or}
use Rattle.drf_bundle.specs.Bundle.{quantities_of}
use Rattle.drf_bundle.specs.Quantities.{amount_of, plus, without_zeros}
use Rattle.drf_bundle.specs.declared.quantities.Entry.{Entry}
use Rattle.drf_bundle.specs.declared.resource.Resource.{Resource}
use Rattle.drf_role.specs.Text.{Text, same_text}
use Rattle.drf_role.specs.Path.{Path, same_path}
use Rattle.drf_rows.specs.Client.{path_of}
use Rattle.drf_rows.specs.Held.{client_of}
use Rattle.drf_rows.specs.Holdings.{Holding}
use Rattle.drf_rows.specs.Report.{terms_of}
use Rattle.drf_rows.specs.Share.{weighted_share_of}
use Rattle.drf_rows.specs.declared.rows.ClientRow.{ClientRow}
use Rattle.drf_rows.specs.declared.rows.FrameworkRow.{FrameworkRow}
use Rattle.drf_sorter.specs.Content.{Content, has_node, standing_in}
use Rattle.drf_show.specs.declared.clients.ClientLine.{ClientLine}
use Rattle.drf_show.specs.declared.had.Had.{Had}

-- a bundle of a framework, with its role
abbrev pub Part : Type 0
Part = Path × List Resource

-- borrowed parts as a list
abbrev pub parts_of : List (Bor Path × Bor (List Resource)) → List Part
parts_of parts = map (λ p. (p.0.now, p.1.now)) parts

-- the parts that are stored for a framework
abbrev pub parts_in : Had → Text → List Part
parts_in had framework = option_map_or (λ parts. parts_of parts.items) (lookup (same_text framework) had.by_framework.entries) []

-- the parts of a framework among some holdings
abbrev pub parts_for : Text → List Holding → List Part
parts_for framework holdings = map (λ h. (h.client.role, h.bundle)) (filter (λ h. same_text h.client.framework framework) holdings)

-- exactly the parts of all frameworks among some holdings are stored
abbrev pub AreAllOf : Had → List Holding → Type 0
AreAllOf had holdings = (framework : Text) → parts_in had framework ≡ parts_for framework holdings

-- the sum of the scalars of those parts that are for a role
abbrev pub sum_for : Path → List Part → List Entry
sum_for role parts = without_zeros (fold (λ sum p. plus sum (quantities_of p.1)) [] (filter (λ p. same_path p.0 role) parts))

-- a sum to which a part is added if it is for the role
abbrev pub sum_with : Path → List Entry → Part → List Entry
sum_with role sum p = if same_path p.0 role then plus sum (quantities_of p.1) else sum

-- all parts together have less than 2^64 thousandths of each scalar
abbrev pub AreSmall : List Part → Type 0
AreSmall parts = (label : Text) → sum_by (λ p. amount_of (quantities_of p.1) label) parts < 2 ^ 64

-- the weighted share of a node, as the sorter returns it
abbrev pub weighted_in : Content → Path → ℕ × ℕ
weighted_in content node = terms_of (weighted_share_of (standing_in content) node)

-- a sorter has the clients of a framework
abbrev pub KnowsClients : Content → FrameworkRow → Type 0
KnowsClients content framework =
    (client : ClientRow) → Contains framework.clients client → has_node content (path_of (client_of framework client)) ≡ true

-- a client's line, computed from the weighted shares of nodes and from what frameworks are offered and use
abbrev pub client_line_by : (Path → ℕ × ℕ) → (Text → List Part) → (Text → List Part) → FrameworkRow → ClientRow → ClientLine
client_line_by weighted offered used framework client = record {
  framework = framework.name;
  role = client.role;
  suppressed = client.suppressed;
  count = client.count;
  weighted = weighted (path_of (client_of framework client));
  offered = sum_for client.role (offered framework.name);
  used = sum_for client.role (used framework.name);
}

-- the lines of a framework's clients
abbrev pub lines_by : (Path → ℕ × ℕ) → (Text → List Part) → (Text → List Part) → FrameworkRow → List ClientLine
lines_by weighted offered used framework = map (client_line_by weighted offered used framework) framework.clients
