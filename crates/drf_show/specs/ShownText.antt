-- The text that is shown: aligned tables, or a line of JSON (RFC 8259) for each row, with keys in byte order.
use Rattle.std.specs.Prelude.{ℕ, Bool, true, false, List, [], ◌∷◌, ◌++◌, map, codes, decimal}
use Rattle.std.specs.List.{flat_map}
use Rattle.serde_json.specs.Data.{Data, number, unsigned, boolean, string, object, member, no_members}
use Rattle.serde_json.specs.Written.{compact_text}
use Rattle.drf_role.specs.Text.{Text}
use Rattle.drf_role.specs.Parts.{text_of}
use Rattle.drf_bundle.specs.declared.quantities.Entry.{Entry}
use Rattle.drf_bundle.specs.declared.resource.Resource.{Resource}
use Rattle.drf_text.specs.Written.{amount_text, quantities_text, bundle_text}
use Rattle.drf_rows.specs.LimitNumbers.{LimitNumbers}
use Rattle.drf_rows.specs.Report.{report_of}
use Rattle.drf_rows.specs.Step.{live_rows}
use Rattle.drf_rows.specs.declared.report.NodeLine.{NodeLine}
use Rattle.drf_rows.specs.declared.report.Report.{Report}
use Rattle.drf_rows.specs.declared.rows.OfferRow.{OfferRow}
use Rattle.drf_rows.specs.declared.rows.Rows.{Rows}
use Rattle.drf_rows.specs.declared.rows.TaskRow.{TaskRow}
use Rattle.drf_rows.specs.declared.rows.WeightRow.{WeightRow}
use Rattle.drf_saved.specs.Saved.{head_of}
use Rattle.drf_saved.specs.declared.saved.Head.{Head}
use Rattle.drf_saved.specs.declared.saved.SavedRow.TheVariants.{Offer, Task, Weight}
use Rattle.drf_lines.specs.ReportLine.{fraction_text}
use Rattle.drf_lines.specs.StateLine.{head_line, row_line}
use Rattle.drf_show.specs.Aligned.{Cells, table_text}
use Rattle.drf_show.specs.Shown.{agent_lines, client_lines, limit_lines, filter_lines, table_lines}
use Rattle.drf_show.specs.declared.agents.AgentLine.{AgentLine}
use Rattle.drf_show.specs.declared.clients.ClientLine.{ClientLine}
use Rattle.drf_show.specs.declared.filters.FilterLine.{FilterLine}
use Rattle.drf_show.specs.declared.form.Form.{Form}
use Rattle.drf_show.specs.declared.form.Form.TheVariants.{Aligned, Json}
use Rattle.drf_show.specs.declared.limits.LimitLine.{LimitLine}
use Rattle.drf_show.specs.declared.tables.CountedTable.{CountedTable}
use Rattle.drf_show.specs.declared.tables.CountedTable.TheVariants as counted
use Rattle.drf_show.specs.declared.tables.TableLine.{TableLine}

-- ---- cells

-- an empty text is shown as `-`
abbrev pub text_cell : Text → Text
text_cell [] = 45 ∷ []
text_cell (byte ∷ bytes) = byte ∷ bytes

abbrev pub bundle_cell : List Resource → Text
bundle_cell bundle = text_cell (bundle_text bundle)

abbrev pub quantities_cell : List Entry → Text
quantities_cell quantities = text_cell (quantities_text quantities)

abbrev pub flag_cell : Bool → Text
flag_cell true = codes "yes"
flag_cell false = codes "no"

-- ---- a row in both forms

-- its cells, and its line of JSON without a line feed
pub record ShownRow : Type 0 where
  pub cells : Cells
  pub line : List ℕ

-- the numbers of an allocator, as in a saved state
abbrev pub head_heads : Cells
head_heads = codes "CLOCK" ∷ codes "EVENTS" ∷ codes "NEXT OFFER" ∷ []

abbrev pub head_shown : Head → ShownRow
head_shown head = record {
  cells = decimal head.clock ∷ decimal head.events ∷ decimal head.next_offer ∷ [];
  line = head_line head;
}

abbrev pub agent_heads : Cells
agent_heads = codes "AGENT" ∷ codes "ACTIVE" ∷ codes "OUT" ∷ codes "TOTAL" ∷ codes "HELD" ∷ codes "FREE" ∷ []

abbrev pub agent_value : AgentLine → Data
agent_value a = object (
    member (codes "active") (boolean a.active)
    (member (codes "agent") (string a.agent)
    (member (codes "free") (string (bundle_text a.free))
    (member (codes "held") (string (bundle_text a.held))
    (member (codes "out") (number (unsigned a.out))
    (member (codes "row") (string (codes "agent"))
    (member (codes "total") (string (bundle_text a.total))
    no_members)))))))

abbrev pub agent_shown : AgentLine → ShownRow
agent_shown a = record {
  cells = a.agent ∷ flag_cell a.active ∷ decimal a.out ∷ bundle_cell a.total ∷ bundle_cell a.held ∷ bundle_cell a.free ∷ [];
  line = compact_text (agent_value a);
}

abbrev pub client_heads : Cells
client_heads =
    codes "FRAMEWORK" ∷ codes "ROLE" ∷ codes "SUPPRESSED" ∷ codes "COUNT" ∷ codes "WEIGHTED" ∷ codes "OFFERED" ∷ codes "USED" ∷ []

abbrev pub client_value : ClientLine → Data
client_value c = object (
    member (codes "count") (number (unsigned c.count))
    (member (codes "framework") (string c.framework)
    (member (codes "offered") (string (quantities_text c.offered))
    (member (codes "role") (string (text_of c.role))
    (member (codes "row") (string (codes "client"))
    (member (codes "suppressed") (boolean c.suppressed)
    (member (codes "used") (string (quantities_text c.used))
    (member (codes "weighted") (string (fraction_text c.weighted))
    no_members))))))))

abbrev pub client_shown : ClientLine → ShownRow
client_shown c = record {
  cells = c.framework ∷ text_of c.role ∷ flag_cell c.suppressed ∷ decimal c.count ∷ fraction_text c.weighted ∷ quantities_cell c.offered ∷ quantities_cell c.used ∷ [];
  line = compact_text (client_value c);
}

abbrev pub node_heads : Cells
node_heads = codes "NODE" ∷ codes "COUNT" ∷ codes "SHARE" ∷ codes "WEIGHTED" ∷ codes "HELD" ∷ []

abbrev pub node_value : NodeLine → Data
node_value n = object (
    member (codes "count") (number (unsigned n.count))
    (member (codes "held") (string (quantities_text n.held))
    (member (codes "path") (string (text_of n.path))
    (member (codes "row") (string (codes "node"))
    (member (codes "share") (string (fraction_text n.share))
    (member (codes "weighted") (string (fraction_text n.weighted))
    no_members))))))

-- a node, as in a report
abbrev pub node_shown : NodeLine → ShownRow
node_shown n = record {
  cells = text_of n.path ∷ decimal n.count ∷ fraction_text n.share ∷ fraction_text n.weighted ∷ quantities_cell n.held ∷ [];
  line = compact_text (node_value n);
}

abbrev pub weight_heads : Cells
weight_heads = codes "ROLE" ∷ codes "WEIGHT" ∷ []

-- as in a saved state
abbrev pub weight_shown : WeightRow → ShownRow
weight_shown w = record { cells = text_of w.role ∷ amount_text w.weight ∷ []; line = row_line (Weight w) }

abbrev pub limit_heads : Cells
limit_heads = codes "ROLE" ∷ codes "LIMIT" ∷ codes "CONSUMED" ∷ []

abbrev pub limit_value : LimitLine → Data
limit_value l = object (
    member (codes "consumed") (string (quantities_text l.consumed))
    (member (codes "limit") (string (quantities_text l.limit))
    (member (codes "role") (string (text_of l.role))
    (member (codes "row") (string (codes "limit"))
    no_members))))

abbrev pub limit_shown : LimitLine → ShownRow
limit_shown l = record {
  cells = text_of l.role ∷ quantities_cell l.limit ∷ quantities_cell l.consumed ∷ [];
  line = compact_text (limit_value l);
}

abbrev pub offer_heads : Cells
offer_heads = codes "OFFER" ∷ codes "FRAMEWORK" ∷ codes "ROLE" ∷ codes "AGENT" ∷ codes "RESOURCES" ∷ []

-- as in a saved state
abbrev pub offer_shown : OfferRow → ShownRow
offer_shown o = record {
  cells = decimal o.number ∷ o.framework ∷ text_of o.role ∷ o.agent ∷ bundle_cell o.bundle ∷ [];
  line = row_line (Offer o);
}

abbrev pub task_heads : Cells
task_heads = codes "TASK" ∷ codes "FRAMEWORK" ∷ codes "ROLE" ∷ codes "AGENT" ∷ codes "USE" ∷ []

-- as in a saved state
abbrev pub task_shown : TaskRow → ShownRow
task_shown t = record {
  cells = t.name ∷ t.framework ∷ text_of t.role ∷ t.agent ∷ bundle_cell t.bundle ∷ [];
  line = row_line (Task t);
}

abbrev pub filter_heads : Cells
filter_heads = codes "FRAMEWORK" ∷ codes "ROLE" ∷ codes "AGENT" ∷ codes "LEFT" ∷ codes "UNTIL" ∷ codes "REFUSED" ∷ []

abbrev pub filter_value : FilterLine → Data
filter_value f = object (
    member (codes "agent") (string f.agent)
    (member (codes "framework") (string f.framework)
    (member (codes "left") (number (unsigned f.left))
    (member (codes "resources") (string (bundle_text f.resources))
    (member (codes "role") (string (text_of f.role))
    (member (codes "row") (string (codes "filter"))
    (member (codes "until") (number (unsigned f.until))
    no_members)))))))

abbrev pub filter_shown : FilterLine → ShownRow
filter_shown f = record {
  cells = f.framework ∷ text_of f.role ∷ f.agent ∷ decimal f.left ∷ decimal f.until ∷ bundle_cell f.resources ∷ [];
  line = compact_text (filter_value f);
}

abbrev pub table_name : CountedTable → Text
table_name counted.Agents = codes "agents"
table_name counted.ScalarNames = codes "scalar names"
table_name counted.Frameworks = codes "frameworks"
table_name counted.Clients = codes "clients"
table_name counted.Weights = codes "weights"
table_name counted.Limits = codes "limits"
table_name counted.Filters = codes "filters"
table_name counted.Events = codes "events"

abbrev pub table_heads : Cells
table_heads = codes "TABLE" ∷ codes "ROWS" ∷ codes "LIMIT" ∷ []

abbrev pub table_value : TableLine → Data
table_value t = object (
    member (codes "limit") (number (unsigned t.limit))
    (member (codes "row") (string (codes "table"))
    (member (codes "rows") (number (unsigned t.rows))
    (member (codes "table") (string (table_name t.table))
    no_members))))

abbrev pub table_shown : TableLine → ShownRow
table_shown t = record {
  cells = table_name t.table ∷ decimal t.rows ∷ decimal t.limit ∷ [];
  line = compact_text (table_value t);
}

-- ---- tables

-- the headings of its columns, and its rows
pub record ShownTable : Type 0 where
  pub heads : Cells
  pub rows : List ShownRow

abbrev pub head_table : Rows → ShownTable
head_table rows = record { heads = head_heads; rows = head_shown (head_of rows) ∷ [] }

abbrev pub agent_table : Rows → ShownTable
agent_table rows = record { heads = agent_heads; rows = map agent_shown (agent_lines rows) }

abbrev pub client_table : Rows → ShownTable
client_table rows = record { heads = client_heads; rows = map client_shown (client_lines rows) }

abbrev pub node_table : Report → ShownTable
node_table report = record { heads = node_heads; rows = map node_shown report.nodes }

abbrev pub weight_table : Rows → ShownTable
weight_table rows = record { heads = weight_heads; rows = map weight_shown rows.weights }

abbrev pub limit_table : Rows → ShownTable
limit_table rows = record { heads = limit_heads; rows = map limit_shown (limit_lines rows) }

abbrev pub offer_table : Rows → ShownTable
offer_table rows = record { heads = offer_heads; rows = map offer_shown rows.offers }

abbrev pub task_table : Rows → ShownTable
task_table rows = record { heads = task_heads; rows = map task_shown rows.tasks }

abbrev pub filter_table : Rows → ShownTable
filter_table rows = record { heads = filter_heads; rows = map filter_shown (filter_lines rows) }

abbrev pub count_table : LimitNumbers → Rows → ShownTable
count_table limits rows = record { heads = table_heads; rows = map table_shown (table_lines limits rows) }

-- all tables after that of the numbers
abbrev pub later_tables : LimitNumbers → Rows → List ShownTable
later_tables limits rows =
    agent_table rows ∷ client_table rows ∷ node_table (report_of rows) ∷ weight_table rows ∷ limit_table rows ∷ offer_table rows
    ∷ task_table rows ∷ filter_table rows ∷ count_table limits rows ∷ []

-- a table in a form: its headings and rows in columns, or the lines of its rows
abbrev pub table_in : Form → ShownTable → List ℕ
table_in Aligned t = table_text (t.heads ∷ map (λ r. r.cells) t.rows)
table_in Json t = flat_map (λ r. r.line ++ 10 ∷ []) t.rows

-- a table after another one: an aligned table comes after an empty line
abbrev pub behind : Form → ShownTable → List ℕ
behind Aligned t = 10 ∷ table_in Aligned t
behind Json t = table_in Json t

-- the text that shows rows with these capacities
abbrev pub rows_text : Form → LimitNumbers → Rows → List ℕ
rows_text form limits rows = table_in form (head_table rows) ++ flat_map (behind form) (later_tables limits rows)

-- the text that shows the current state
unfoldable pub shown : Form → LimitNumbers → Rows → List ℕ
shown form limits rows = rows_text form limits (live_rows rows)
