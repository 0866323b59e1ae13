-- Sums of what frameworks have.
use Rattle.std.specs.Prelude.{◌≡◌, ℕ, ◌+◌, ◌^◌, ◌<◌, ◌≤◌, Bool, true, false, ◌&&◌, List, [], ◌∷◌, ◌++◌, drop, filter, fold, get_or, length, map, sum_by, take, if◌then◌else◌, IsTrue}
use Rattle.std.specs.Borrow.{Bor}
use Rattle.std.proofs.Common.{refl, sym, ap, ◌∙◌, arith, inl, inr}
use Rattle.std.proofs.lemmas.Bool.{cases_Bool}
use Rattle.std.proofs.lemmas.List.{at_drop_more, map-append, take_more}
use Rattle.std.proofs.lemmas.List.Elements.{filter-append}
use Rattle.std.proofs.lemmas.List.Sums.{fold-append, sum_by-append, sum_by-cons}
use Rattle.drf_bundle.specs.Bundle.{quantities_of}
use Rattle.drf_bundle.specs.Quantities.{amount_of, is_in_order, plus, without_zeros}
use Rattle.drf_bundle.proofs.theorems.QuantitiesLaws.{amount-plus}
use Rattle.drf_bundle.specs.declared.quantities.Entry.{Entry}
use Rattle.drf_bundle.specs.declared.resource.Resource.{Resource}
use Rattle.drf_role.specs.Path.{Path, same_path}
use Rattle.drf_role.specs.Text.{Text, same_text}
use Rattle.drf_role.proofs.PathLaws.{same_path-client_path}
use Rattle.drf_rows.specs.Client.{Client, path_of}
use Rattle.drf_rows.specs.Held.{client_of, standing_of}
use Rattle.drf_rows.specs.Report.{sum_of, terms_of}
use Rattle.drf_rows.specs.Share.{weighted_share_of}
use Rattle.drf_rows.specs.Holdings.{Holding, amount_in, holding_of_offer, holding_of_task}
use Rattle.drf_rows.specs.declared.rows.ClientRow.{ClientRow}
use Rattle.drf_rows.specs.declared.rows.FrameworkRow.{FrameworkRow}
use Rattle.drf_rows.specs.declared.rows.Rows.{Rows}
use Rattle.drf_row_laws.proofs.ReportedShares.{small_total}
use Rattle.drf_row_laws.proofs.TotalLaws.{held-le-total}
use Rattle.drf_show.specs.Consuming.{IsFit}
use Rattle.drf_show.specs.Had.{AreSmall, Part, client_line_by, parts_for, parts_of, sum_for, sum_with}
use Rattle.drf_show.specs.Shown.{client_line, had_of}

abbrev pub part_amount : Text → Part → ℕ
part_amount label p = amount_of (quantities_of p.1) label

-- a framework has no more than all frameworks together
parts-le : (framework label : Text) (hs : List Holding)
    → sum_by (part_amount label) (parts_for framework hs) ≤ sum_by (amount_in label) hs
parts-le framework label [] = omega arith
parts-le framework label (h ∷ hs) = elim (cases_Bool (same_text h.client.framework framework)) [
  | inl here ↦ rw here
      (omega (arith, parts-le framework label hs, sum_by-cons (part_amount label) (h.client.role, h.bundle) (parts_for framework hs), sum_by-cons (amount_in label) h hs))
  | inr past ↦ rw past (omega (arith, parts-le framework label hs, sum_by-cons (amount_in label) h hs))
]

module _ (rows : Rows) (fit : IsFit rows) (framework : Text) where
  both : (label : Text) → sum_by (amount_in label) (map holding_of_offer rows.offers) + sum_by (amount_in label) (map holding_of_task rows.tasks) < 2 ^ 52
  both label = omega (
    arith,
    sum_by-append (amount_in label) (map holding_of_offer rows.offers) (map holding_of_task rows.tasks),
    held-le-total rows label fit.consistent,
    small_total rows.agents label fit.consistent.agents.each fit.agents,
  )

  pub offers_small : AreSmall (parts_for framework (map holding_of_offer rows.offers))
  offers_small label = omega (arith, parts-le framework label (map holding_of_offer rows.offers), both label)

  pub tasks_small : AreSmall (parts_for framework (map holding_of_task rows.tasks))
  tasks_small label = omega (arith, parts-le framework label (map holding_of_task rows.tasks), both label)

abbrev Borrowed : Type 0
Borrowed = Bor Path × Bor (List Resource)

-- the sum after one more part
module _ (role : Path) (parts : List Borrowed) (i : ℕ) (part : Borrowed) (inside : i < length parts) (is : part ≡ get_or parts i part) where
  abbrev its : Part → Bool
  its p = same_path p.0 role

  abbrev sum_to : ℕ → List Entry
  sum_to n = fold (λ sum (p : Part). plus sum (quantities_of p.1)) [] (filter its (parts_of (take n parts)))

  abbrev now : Part
  now = (part.0.now, part.1.now)

  taken : parts_of (take (i + 1) parts) ≡ parts_of (take i parts) ++ now ∷ []
  taken =
      ap parts_of (take_more parts i part inside)
      ∙ map-append (λ (p : Borrowed). (p.0.now, p.1.now)) (take i parts) (get_or parts i part ∷ [])
      ∙ ap (λ (p : Borrowed). parts_of (take i parts) ++ (p.0.now, p.1.now) ∷ []) (sym is)

  abbrev if_its : Bool → List Part
  if_its true = now ∷ []
  if_its false = []

  step : (b : Bool) → its now ≡ b → sum_to (i + 1) ≡ fold (λ sum (p : Part). plus sum (quantities_of p.1)) (sum_to i) (if_its b)
  step b test =
      ap (λ ps. fold (λ sum (p : Part). plus sum (quantities_of p.1)) [] (filter its ps)) taken
      ∙ ap (fold (λ sum (p : Part). plus sum (quantities_of p.1)) []) (filter-append its (parts_of (take i parts)) (now ∷ []))
      ∙ fold-append (λ sum (p : Part). plus sum (quantities_of p.1)) [] (filter its (parts_of (take i parts))) (filter its (now ∷ []))
      ∙ ap (fold (λ sum (p : Part). plus sum (quantities_of p.1)) (sum_to i)) (one b test)
    where
      one : (b : Bool) → its now ≡ b → filter its (now ∷ []) ≡ if_its b
      one true test = rw test refl
      one false test = rw test refl

  pub next_sum : (new : List Entry) → new ≡ sum_with role (sum_to i) now → new ≡ sum_to (i + 1)
  next_sum new is = is ∙ by (its now) refl
    where
      by : (b : Bool) → its now ≡ b → sum_with role (sum_to i) now ≡ sum_to (i + 1)
      by true test = rw test (sym (step true test))
      by false test = rw test (sym (step false test))

  -- the parts that remain
  pub left_there : (label : Text) → sum_by (part_amount label) (parts_of (drop i parts))
      ≡ part_amount label now + sum_by (part_amount label) (parts_of (drop (i + 1) parts))
  left_there label =
      at_drop_more (λ ps. sum_by (part_amount label) (parts_of ps)) parts i part inside
      ∙ ap (λ (p : Borrowed). sum_by (part_amount label) (parts_of (p ∷ drop (i + 1) parts))) (sym is)
      ∙ sum_by-cons (part_amount label) now (parts_of (drop (i + 1) parts))

-- a part adds no more than it has
pub sum_with-le : (role : Path) (sum : List Entry) (p : Part) (label : Text) → IsTrue (is_in_order (quantities_of p.1))
    → amount_of (sum_with role sum p) label ≤ amount_of sum label + part_amount label p
sum_with-le role sum p label ordered = by (same_path p.0 role)
  where
    by : (b : Bool) → amount_of (if b then plus sum (quantities_of p.1) else sum) label ≤ amount_of sum label + part_amount label p
    by true = omega (arith, amount-plus sum (quantities_of p.1) label ordered)
    by false = omega arith

-- ---- what a client has

abbrev is_its : Client → Holding → Bool
is_its client h = same_text h.client.framework client.framework && same_path h.client.role client.role

had-from : (client : Client) (start : List Entry) (hs : List Holding)
    → fold (λ sum (p : Part). plus sum (quantities_of p.1)) start (filter (λ (p : Part). same_path p.0 client.role) (parts_for client.framework hs))
    ≡ fold (λ sum (h : Holding). plus sum (quantities_of h.bundle)) start (filter (is_its client) hs)
had-from client start [] = refl
had-from client start (h ∷ hs) = elim (cases_Bool (same_text h.client.framework client.framework)) [
  | inr other ↦ rw other (had-from client start hs)
  | inl same ↦ elim (cases_Bool (same_path h.client.role client.role)) [
    | inl its ↦ rw (same, its) (had-from client (plus start (quantities_of h.bundle)) hs)
    | inr past ↦ rw (same, past) (had-from client start hs)
  ]
]

-- what a client has is the sum of its framework's parts that are for its role
pub had_is : (client : Client) (hs : List Holding) → sum_for client.role (parts_for client.framework hs) ≡ had_of client hs
had_is client hs =
    ap without_zeros (had-from client [] hs)
    ∙ (λ i. without_zeros (sum_of (filter (λ h. sym (same_path-client_path h.client.role client.role h.client.framework client.framework) i) hs)))

-- so its line is the one that the definition gives
pub client_line_is : (rows : Rows) (weighted : Path → ℕ × ℕ) (offered used : Text → List Part) (framework : FrameworkRow) (client : ClientRow)
    → ((node : Path) → weighted node ≡ terms_of (weighted_share_of (standing_of rows) node))
    → ((name : Text) → offered name ≡ parts_for name (map holding_of_offer rows.offers))
    → ((name : Text) → used name ≡ parts_for name (map holding_of_task rows.tasks))
    → client_line_by weighted offered used framework client ≡ client_line rows framework client
client_line_is rows weighted offered used framework client shares offers tasks = λ i. record {
  framework = framework.name;
  role = client.role;
  suppressed = client.suppressed;
  count = client.count;
  weighted = shares (path_of (client_of framework client)) i;
  offered = (ap (sum_for client.role) (offers framework.name) ∙ had_is (client_of framework client) (map holding_of_offer rows.offers)) i;
  used = (ap (sum_for client.role) (tasks framework.name) ∙ had_is (client_of framework client) (map holding_of_task rows.tasks)) i;
}
