-- Reading a written line of a state gives the value from which it was written.
use Rattle.std.proofs.Common.{◌≡◌, ℕ, ◌<◌, ◌≤◌, ◌^◌, List, [], ◌∷◌, map, All, Some, Ok, refl, codes, arith}
use Rattle.std.proofs.lemmas.List.Elements.{All-head, All-tail}
use Rattle.json.specs.Tree.{ItemsHaveNumbers}
use Rattle.json.specs.Tree as tree
use Rattle.json.proofs.Printed.Decimals.{IsNumber-decimal}
use Rattle.serde_json.specs.Data.{Data}
use Rattle.serde_json.specs.Read.{of_items}
use Rattle.serde_json.specs.View.{items_of}
use Rattle.serde_json.specs.Written.{items_outline, compact_text}
use Rattle.serde_json.proofs.Numbers.{number_of-decimal}
use Rattle.drf_role.specs.Parts.{text_of}
use Rattle.drf_bundle.specs.declared.resource.Resource.{Resource}
use Rattle.drf_rows.specs.declared.rows.AgentRow.{AgentRow}
use Rattle.drf_rows.specs.declared.rows.ClientRow.{ClientRow}
use Rattle.drf_rows.specs.declared.rows.FrameworkRow.{FrameworkRow}
use Rattle.drf_rows.specs.declared.rows.WeightRow.{WeightRow}
use Rattle.drf_rows.specs.declared.rows.LimitRow.{LimitRow}
use Rattle.drf_rows.specs.declared.rows.OfferRow.{OfferRow}
use Rattle.drf_rows.specs.declared.rows.TaskRow.{TaskRow}
use Rattle.drf_rows.specs.declared.rows.FilterRow.{FilterRow}
use Rattle.drf_saved.specs.declared.saved.Head.{Head}
use Rattle.drf_saved.specs.declared.saved.SavedRow.TheVariants.{Agent, Framework, Weight, Limit, Offer, Task, Filter}
use Rattle.drf_saved.specs.declared.saved.StateLine.{StateLine}
use Rattle.drf_saved.specs.declared.saved.StateLine.TheVariants as line
use Rattle.drf_text.specs.Written.{bundle_text, amount_text, quantities_text}
use Rattle.drf_lines.specs.AgentRows.{agent_row}
use Rattle.drf_lines.specs.FrameworkRows.{ClientText, client_text, client_in, client_value, framework_row, IsClientRead}
use Rattle.drf_lines.specs.HeldRows.{owner_text, owner_in, offer_row, task_row, filter_row}
use Rattle.drf_lines.specs.LimitEvents.{its_limit}
use Rattle.drf_lines.specs.Object.{has_members, keys, text_at, number_at, boolean_at}
use Rattle.drf_lines.specs.Resources.{bundle_in, quantities_in, weight_in}
use Rattle.drf_lines.specs.StateLine.{head_value, row_value, end_value, head_line, row_line, end_line}
use Rattle.drf_lines.specs.StateMeaning.{head_in, end_in, state_line_in, state_line_meaning}
use Rattle.drf_lines.specs.TaskTexts.{each_in, values_in, values_at}
use Rattle.drf_lines.specs.WeightEvents.{its_weight}
use Rattle.drf_lines.specs.Words.{name_in}
use Rattle.drf_lines.specs.Written.{IsText}
use Rattle.drf_lines.proofs.RowTexts.{HasTexts, ItemsHaveTexts, written_utf8, small_text, known_text}
use Rattle.drf_lines.proofs.Spellings.{IsPrinted, text_read}
use Rattle.drf_lines.proofs.Texts.{IsRoleRead}
use Rattle.drf_lines.proofs.Values.{value_read}

-- a value that is printed and read back, and that means this line
said : (value : Data) (meant : StateLine) → IsPrinted value → HasTexts value → state_line_in value ≡ Ok meant
    → state_line_meaning (compact_text value) ≡ Ok meant
unfolding state_line_meaning
said value meant printed texts means =
    rw (value_read (compact_text value) value (written_utf8 value texts) (text_read value printed)) means

-- ---- the written form of a name, a role or a bundle is UTF-8 and can be read

abbrev pub IsNameReported : List ℕ → Type 0
IsNameReported name = (name_in name ≡ Ok name) × IsText name

abbrev pub IsRoleReported : List (List ℕ) → Type 0
IsRoleReported role = IsRoleRead role × IsText (text_of role)

abbrev pub IsBundleReported : List Resource → Type 0
IsBundleReported bundle = (bundle_in (bundle_text bundle) ≡ Ok bundle) × IsText (bundle_text bundle)

-- ---- the head and the end

pub head_read : (head : Head) → head.clock < 2 ^ 64 → head.events < 2 ^ 64 → head.next_offer < 2 ^ 64
    → state_line_meaning (head_line head) ≡ Ok (line.Head head)
unfolding head_line state_line_in head_in keys has_members text_at number_at
head_read head clock events next_offer =
    said (head_value head) (line.Head head)
    (record {
      numbers = (IsNumber-decimal head.clock clock, (IsNumber-decimal head.events events, (IsNumber-decimal head.next_offer next_offer, (tt, tt))));
      shallow = omega arith;
      same = rw (number_of-decimal head.clock clock, number_of-decimal head.events events, number_of-decimal head.next_offer next_offer) refl;
    })
    ((refl, small_text head.clock clock), ((refl, small_text head.events events), ((refl, small_text head.next_offer next_offer), ((refl, known_text (codes "state") refl), tt))))
    refl

pub end_read : (rows : ℕ) (digest : List ℕ) → rows < 2 ^ 64 → IsText digest → state_line_meaning (end_line rows digest) ≡ Ok line.End
unfolding end_line state_line_in end_in keys has_members text_at number_at
end_read rows digest small text =
    said (end_value rows digest) line.End
    (record { numbers = (tt, (IsNumber-decimal rows small, (tt, tt))); shallow = omega arith; same = rw (number_of-decimal rows small) refl })
    ((refl, known_text (codes "end") refl), ((refl, small_text rows small), ((refl, text), tt)))
    refl

-- ---- agents

pub agent_read : (a : AgentRow) → IsNameReported a.name → IsBundleReported a.total
    → state_line_meaning (row_line (Agent a)) ≡ Ok (line.Row (Agent a))
unfolding row_line state_line_in agent_row keys has_members text_at boolean_at
agent_read a name total =
    said (row_value (Agent a)) (line.Row (Agent a))
    (record { numbers = (tt, (tt, (tt, (tt, tt)))); shallow = omega arith; same = refl })
    ((refl, tt), ((refl, name.1), ((refl, known_text (codes "agent") refl), ((refl, total.1), tt))))
    (rw (name.0, total.0) refl)

-- ---- frameworks

-- a client as it is in its line
abbrev client_reported : ClientRow → ClientText
client_reported c = (text_of c.role, c.count, c.suppressed)

clients_reported : (clients : List ClientRow) → each_in client_text (values_in (items_of (map client_value clients))) ≡ Ok (map client_reported clients)
unfolding client_text keys has_members text_at number_at boolean_at
clients_reported [] = refl
clients_reported (c ∷ clients) = rw (clients_reported clients) refl

clients_read : (clients : List ClientRow) → All IsClientRead clients → each_in client_in (map client_reported clients) ≡ Ok clients
unfolding client_in
clients_read [] each = refl
clients_read (c ∷ clients) each =
    rw ((All-head IsClientRead c clients each).role, clients_read clients (All-tail IsClientRead c clients each)) refl

clients_have_numbers : (clients : List ClientRow) → All IsClientRead clients → ItemsHaveNumbers (items_outline (items_of (map client_value clients)))
clients_have_numbers [] each = tt
clients_have_numbers (c ∷ clients) each =
    ((IsNumber-decimal c.count (All-head IsClientRead c clients each).small, (tt, (tt, tt))), clients_have_numbers clients (All-tail IsClientRead c clients each))

clients_are_low : (clients : List ClientRow) → tree.items_depth (items_outline (items_of (map client_value clients))) ≤ 1
clients_are_low [] = omega arith
clients_are_low (c ∷ clients) = omega (arith, clients_are_low clients)

clients_are_same : (clients : List ClientRow) → All IsClientRead clients
    → of_items (items_outline (items_of (map client_value clients))) ≡ Some (items_of (map client_value clients))
clients_are_same [] each = refl
clients_are_same (c ∷ clients) each =
    rw (number_of-decimal c.count (All-head IsClientRead c clients each).small, clients_are_same clients (All-tail IsClientRead c clients each)) refl

clients_have_texts : (clients : List ClientRow) → All IsClientRead clients → ItemsHaveTexts (items_of (map client_value clients))
clients_have_texts [] each = tt
clients_have_texts (c ∷ clients) each =
    let is = All-head IsClientRead c clients each in
    (((refl, small_text c.count is.small), ((refl, is.text), ((refl, tt), tt))), clients_have_texts clients (All-tail IsClientRead c clients each))

pub framework_read : (f : FrameworkRow) → All IsClientRead f.clients → IsNameReported f.name
    → state_line_meaning (row_line (Framework f)) ≡ Ok (line.Row (Framework f))
unfolding row_line state_line_in framework_row keys has_members text_at values_at
framework_read f each name =
    said (row_value (Framework f)) (line.Row (Framework f))
    (record {
      numbers = (clients_have_numbers f.clients each, (tt, (tt, tt)));
      shallow = omega (arith, clients_are_low f.clients);
      same = rw (clients_are_same f.clients each) refl;
    })
    ((refl, clients_have_texts f.clients each), ((refl, name.1), ((refl, known_text (codes "framework") refl), tt)))
    (rw (clients_reported f.clients, name.0, clients_read f.clients each) refl)

-- ---- weights and limits

pub weight_read : (w : WeightRow) → IsRoleReported w.role
    → weight_in (amount_text w.weight) ≡ Ok w.weight → IsText (amount_text w.weight)
    → state_line_meaning (row_line (Weight w)) ≡ Ok (line.Row (Weight w))
unfolding row_line state_line_in its_weight keys has_members text_at
weight_read w role weight weight_text =
    said (row_value (Weight w)) (line.Row (Weight w))
    (record { numbers = (tt, (tt, (tt, tt))); shallow = omega arith; same = refl })
    ((refl, role.1), ((refl, known_text (codes "weight") refl), ((refl, weight_text), tt)))
    (rw (role.0, weight) refl)

pub limit_read : (l : LimitRow) → IsRoleReported l.role
    → quantities_in (quantities_text l.limit) ≡ Ok l.limit → IsText (quantities_text l.limit)
    → state_line_meaning (row_line (Limit l)) ≡ Ok (line.Row (Limit l))
unfolding row_line state_line_in its_limit keys has_members text_at
limit_read l role limit limit_text =
    said (row_value (Limit l)) (line.Row (Limit l))
    (record { numbers = (tt, (tt, (tt, tt))); shallow = omega arith; same = refl })
    ((refl, limit_text), ((refl, role.1), ((refl, known_text (codes "limit") refl), tt)))
    (rw (role.0, limit) refl)

-- ---- offers, tasks and filters

pub offer_read : (o : OfferRow) → IsNameReported o.agent → IsNameReported o.framework → IsRoleReported o.role → IsBundleReported o.bundle → o.number < 2 ^ 64
    → state_line_meaning (row_line (Offer o)) ≡ Ok (line.Row (Offer o))
unfolding row_line state_line_in offer_row owner_text owner_in keys has_members text_at number_at
offer_read o agent framework role bundle small =
    said (row_value (Offer o)) (line.Row (Offer o))
    (record {
      numbers = (tt, (tt, (IsNumber-decimal o.number small, (tt, (tt, (tt, tt))))));
      shallow = omega arith;
      same = rw (number_of-decimal o.number small) refl;
    })
    ((refl, agent.1), ((refl, framework.1), ((refl, small_text o.number small), ((refl, bundle.1), ((refl, role.1), ((refl, known_text (codes "offer") refl), tt))))))
    (rw (agent.0, framework.0, role.0, bundle.0) refl)

pub task_read : (t : TaskRow) → IsNameReported t.agent → IsNameReported t.framework → IsRoleReported t.role → IsBundleReported t.bundle → IsNameReported t.name
    → state_line_meaning (row_line (Task t)) ≡ Ok (line.Row (Task t))
unfolding row_line state_line_in task_row owner_text owner_in keys has_members text_at
task_read t agent framework role bundle name =
    said (row_value (Task t)) (line.Row (Task t))
    (record { numbers = (tt, (tt, (tt, (tt, (tt, (tt, tt)))))); shallow = omega arith; same = refl })
    ((refl, agent.1), ((refl, framework.1), ((refl, role.1), ((refl, known_text (codes "task") refl), ((refl, name.1), ((refl, bundle.1), tt))))))
    (rw (agent.0, framework.0, role.0, name.0, bundle.0) refl)

pub filter_read : (f : FilterRow) → IsNameReported f.agent → IsNameReported f.framework → IsRoleReported f.role → IsBundleReported f.bundle → f.until < 2 ^ 64
    → state_line_meaning (row_line (Filter f)) ≡ Ok (line.Row (Filter f))
unfolding row_line state_line_in filter_row owner_text owner_in keys has_members text_at number_at
filter_read f agent framework role bundle small =
    said (row_value (Filter f)) (line.Row (Filter f))
    (record {
      numbers = (tt, (tt, (tt, (tt, (tt, (IsNumber-decimal f.until small, tt))))));
      shallow = omega arith;
      same = rw (number_of-decimal f.until small) refl;
    })
    ((refl, agent.1), ((refl, framework.1), ((refl, bundle.1), ((refl, role.1), ((refl, known_text (codes "filter") refl), ((refl, small_text f.until small), tt))))))
    (rw (agent.0, framework.0, role.0, bundle.0) refl)
