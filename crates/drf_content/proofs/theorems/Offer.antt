-- How an offer changes the content.
use Rattle.std.specs.Prelude.{◌≡◌, ℕ, ◌+◌, ◌-◌, Bool, true, false, not, List, [], ◌∷◌, map, if◌then◌else◌}
use Rattle.std.specs.List.{AllByRecursion}
use Rattle.std.proofs.Common.{refl, sym, ap, ◌∙◌, inl, inr, cond, arith}
use Rattle.std.proofs.lemmas.Bool.{cases_Bool, false≢true}
use Rattle.drf_role.specs.Text.{Text}
use Rattle.drf_role.specs.Path.{Path, same_path}
use Rattle.drf_role.proofs.PathLaws.{same_path-swap}
use Rattle.drf_bundle.specs.Quantities.{amount_of}
use Rattle.drf_bundle.specs.Bundle.{quantities_of}
use Rattle.drf_bundle.specs.declared.quantities.Entry.{Entry}
use Rattle.drf_rows.specs.Client.{Client, path_of}
use Rattle.drf_rows.specs.Holdings.{Holding, holding_of_offer, holdings_of, held_where, amount_in, is_of}
use Rattle.drf_row_laws.proofs.HoldingsLaws.{held_where-with_offer}
use Rattle.drf_rows.specs.Held.{client_of, cluster_total}
use Rattle.drf_rows.specs.Cycle.{with_offer}
use Rattle.drf_rows.specs.declared.rows.ClientRow.{ClientRow}
use Rattle.drf_rows.specs.declared.rows.FrameworkRow.{FrameworkRow}
use Rattle.drf_rows.specs.declared.rows.OfferRow.{OfferRow}
use Rattle.drf_rows.specs.declared.rows.Rows.{Rows}
use Rattle.drf_sorter.specs.Content.{Content, Ranked, with_change, charged, discharged, HasCharge, HasChargeAt}
use Rattle.drf_content.specs.Content.{ranked, content_of}
use Rattle.drf_content.proofs.theorems.Client.{ranked-changed}

-- charges an offer to the client of a path
abbrev pub charged_at : Path → List Entry → Ranked → Ranked
charged_at path quantities c = if same_path c.path path then charged quantities 1 c else c

-- ---- an offer is added

module _ (rows : Rows) (offer : OfferRow) where
  abbrev client : Client
  client = (holding_of_offer offer).client

  abbrev before : List Holding
  before = holdings_of rows

  abbrev after : List Holding
  after = holdings_of (with_offer rows offer)

  -- clients of other paths do not change
  ranked-other : (f : FrameworkRow) (c : ClientRow) → same_path (path_of (client_of f c)) (path_of client) ≡ false
      → ranked after f c ≡ ranked before f c
  unfolding ranked
  ranked-other f c other =
      let path : Path = path_of (client_of f c) in
      let past : same_path (path_of client) path ≡ false = same_path-swap (path_of client) path ∙ other in
      let holds : (label : Text) → held_where (is_of path) after label ≡ held_where (is_of path) before label
      = λ label. held_where-with_offer (is_of path) rows offer label
      ∙ ap (λ (b : Bool). held_where (is_of path) before label + cond b (amount_in label (holding_of_offer offer)) 0) past
      ∙ omega arith in
      λ i. record { path = path; active = not c.suppressed; held = λ label. holds label i; count = c.count }

  -- the client of its path is charged
  ranked-same : (f : FrameworkRow) (c : ClientRow) → same_path (path_of (client_of f c)) (path_of client) ≡ true
      → ranked after f (record c { count = c.count + 1 }) ≡ charged (quantities_of offer.bundle) 1 (ranked before f c)
  unfolding ranked
  ranked-same f c same =
      let path : Path = path_of (client_of f c) in
      let here : same_path (path_of client) path ≡ true = same_path-swap (path_of client) path ∙ same in
      let more : Text → ℕ = amount_of (quantities_of offer.bundle) in
      let holds : (label : Text)
      → held_where (is_of path) after label ≡ held_where (is_of path) before label + more label
      = λ label. held_where-with_offer (is_of path) rows offer label
      ∙ ap (λ (b : Bool). held_where (is_of path) before label + cond b (amount_in label (holding_of_offer offer)) 0) here in
      λ i. record { path = path; active = not c.suppressed; held = λ label. holds label i; count = c.count + 1 }

-- the content after an offer is added: its client is charged
pub content_of-with_offer : (rows : Rows) (offer : OfferRow)
    → content_of (with_offer rows offer)
    ≡ with_change (content_of rows) (path_of (holding_of_offer offer).client) (charged (quantities_of offer.bundle) 1)
unfolding content_of with_offer
content_of-with_offer rows offer =
    λ i. record {
      clients = ranked-changed (client rows offer) (λ c. record c { count = c.count + 1 }) (charged (quantities_of offer.bundle) 1)
          (before rows offer) (after rows offer) (ranked-other rows offer) (ranked-same rows offer) rows.frameworks i;
      total = cluster_total rows.agents;
      weights = rows.weights;
    }

-- ---- charges

pub charged_at-path : (path : Path) (quantities : List Entry) (c : Ranked)
    → (charged_at path quantities c).path ≡ c.path
charged_at-path path quantities c =
    elim (cases_Bool (same_path c.path path)) [ inl same ↦ rw same | inr other ↦ rw other ]

has_charge : (path : Path) (quantities : List Entry) (c : Ranked)
    → same_path (charged_at path quantities c).path path ≡ true → HasCharge quantities (charged_at path quantities c)
has_charge path quantities c here = elim (cases_Bool (same_path c.path path)) [
  | inl same ↦ rw same (record { held = λ label. omega arith; count = omega arith })
  | inr other ↦
      let same : same_path (charged_at path quantities c).path path ≡ same_path c.path path
      = ap (λ (p : Path). same_path p path) (charged_at-path path quantities c) in
      absurd (false≢true (sym other ∙ sym same ∙ here))
]

has_charges : (path : Path) (quantities : List Entry) (cs : List Ranked)
    → AllByRecursion (λ c. same_path c.path path ≡ true → HasCharge quantities c) (map (charged_at path quantities) cs)
has_charges path quantities [] = tt
has_charges path quantities (c ∷ cs) = (has_charge path quantities c, has_charges path quantities cs)

-- what was charged is held
pub HasChargeAt-charged : (content : Content) (path : Path) (quantities : List Entry)
    → HasChargeAt (with_change content path (charged quantities 1)) path quantities
HasChargeAt-charged content path quantities = has_charges path quantities content.clients

abbrev discharged_at : Path → List Entry → Ranked → Ranked
discharged_at path quantities c = if same_path c.path path then discharged quantities c else c

taken_back : (path : Path) (quantities : List Entry) (c : Ranked)
    → discharged_at path quantities (charged_at path quantities c) ≡ c
taken_back path quantities c = elim (cases_Bool (same_path c.path path)) [
  | inl same ↦ rw same (rw same (λ i. record {
    path = c.path;
    active = c.active;
    held = λ label. back (c.held label) (amount_of quantities label) i;
    count = back c.count 1 i;
  }))
  | inr other ↦ rw other (rw other refl)
]
  where
    back : (n m : ℕ) → n + m - m ≡ n
    back n m = omega arith

all_taken_back : (path : Path) (quantities : List Entry) (cs : List Ranked)
    → map (discharged_at path quantities) (map (charged_at path quantities) cs) ≡ cs
all_taken_back path quantities [] = refl
all_taken_back path quantities (c ∷ cs) = λ i. taken_back path quantities c i ∷ all_taken_back path quantities cs i

-- undoing a charge restores the content
pub discharged-with_change : (content : Content) (path : Path) (quantities : List Entry)
    → with_change (with_change content path (charged quantities 1)) path (discharged quantities) ≡ content
discharged-with_change content path quantities =
    λ i. record {
      clients = all_taken_back path quantities content.clients i;
      total = content.total;
      weights = content.weights;
    }
