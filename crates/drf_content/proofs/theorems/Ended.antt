-- How the content changes when a client releases resources.
use Rattle.std.specs.Prelude.{◌≡◌, ◌+◌, ◌-◌, Bool, true, false, not, List, [], ◌∷◌, ◌++◌, map, flat_map, if◌then◌else◌}
use Rattle.std.specs.List.{AllByRecursion}
use Rattle.std.proofs.Common.{refl, sym, ap, ◌∙◌, cond, arith}
use Rattle.std.proofs.lemmas.List.{map-append}
use Rattle.drf_role.specs.Text.{Text}
use Rattle.drf_role.specs.Path.{Path, same_path}
use Rattle.drf_role.proofs.PathLaws.{same_path-swap}
use Rattle.drf_bundle.specs.Quantities.{amount_of}
use Rattle.drf_bundle.specs.declared.quantities.Entry.{Entry}
use Rattle.drf_rows.specs.Client.{path_of}
use Rattle.drf_rows.specs.Holdings.{Holding, holdings_of, held_where, is_of}
use Rattle.drf_rows.specs.Held.{client_of, cluster_total}
use Rattle.drf_bundle.proofs.ListLaws.{each_append}
use Rattle.drf_rows.specs.declared.rows.ClientRow.{ClientRow}
use Rattle.drf_rows.specs.declared.rows.FrameworkRow.{FrameworkRow}
use Rattle.drf_rows.specs.declared.rows.Rows.{Rows}
use Rattle.drf_sorter.specs.Content.{Ranked, with_change, refunded, Holds, HoldsAt}
use Rattle.drf_content.specs.Content.{ranked, content_of}
use Rattle.drf_content.proofs.theorems.Client.{ranked_all, ranked-path}

-- the client of the path released quantities, and nothing else that a sorter holds changed
pub record GaveBack (old new : Rows) (path : Path) (quantities : List Entry) : Type 0 where
  pub agents : new.agents ≡ old.agents
  pub frameworks : new.frameworks ≡ old.frameworks
  pub weights : new.weights ≡ old.weights
  pub out : (other : Path) (label : Text)
      → held_where (is_of other) (holdings_of old) label
      ≡ held_where (is_of other) (holdings_of new) label + cond (same_path path other) (amount_of quantities label) 0

module _ (old new : Rows) (path : Path) (quantities : List Entry) (gave : GaveBack old new path quantities) where
  abbrev before : List Holding
  before = holdings_of old

  abbrev after : List Holding
  after = holdings_of new

  abbrev change : Ranked → Ranked
  change c = if same_path c.path path then refunded quantities c else c

  -- its client is refunded, and the others do not change
  refunded_one : (f : FrameworkRow) (c : ClientRow) (b : Bool) → same_path (path_of (client_of f c)) path ≡ b
      → cond b (refunded quantities (ranked before f c)) (ranked before f c) ≡ ranked after f c
  unfolding ranked
  refunded_one f c true same =
      let own : Path = path_of (client_of f c) in
      let here : same_path path own ≡ true = same_path-swap path own ∙ same in
      let holds : (label : Text) → held_where (is_of own) before label - amount_of quantities label ≡ held_where (is_of own) after label
      = λ label. omega (
        arith,
        gave.out own label,
        ap (λ (b : Bool). cond b (amount_of quantities label) 0) here,
      ) in
      λ i. record { path = own; active = not c.suppressed; held = λ label. holds label i; count = c.count }
  refunded_one f c false other =
      let own : Path = path_of (client_of f c) in
      let past : same_path path own ≡ false = same_path-swap path own ∙ other in
      let holds : (label : Text) → held_where (is_of own) before label ≡ held_where (is_of own) after label
      = λ label. omega (
        arith,
        gave.out own label,
        ap (λ (b : Bool). cond b (amount_of quantities label) 0) past,
      ) in
      λ i. record { path = own; active = not c.suppressed; held = λ label. holds label i; count = c.count }

  changed_one : (f : FrameworkRow) (c : ClientRow) → change (ranked before f c) ≡ ranked after f c
  changed_one f c =
      ap (λ (p : Path). if same_path p path then refunded quantities (ranked before f c) else ranked before f c) (ranked-path before f c)
      ∙ refunded_one f c (same_path (path_of (client_of f c)) path) refl

  changed_each : (f : FrameworkRow) (cs : List ClientRow) → map change (map (ranked before f) cs) ≡ map (ranked after f) cs
  changed_each f [] = refl
  changed_each f (c ∷ cs) = λ i. changed_one f c i ∷ changed_each f cs i

  changed_all : (fs : List FrameworkRow) → map change (flat_map (ranked_all before) fs) ≡ flat_map (ranked_all after) fs
  changed_all [] = refl
  changed_all (f ∷ fs) =
      map-append change (ranked_all before f) (flat_map (ranked_all before) fs)
      ∙ (λ i. changed_each f f.clients i ++ changed_all fs i)

  -- after the refund, the content is what the new rows say
  pub content_of-gave_back : with_change (content_of old) path (refunded quantities) ≡ content_of new
  unfolding content_of
  content_of-gave_back =
      let clients : map change (flat_map (ranked_all before) old.frameworks) ≡ flat_map (ranked_all after) new.frameworks
      = changed_all old.frameworks ∙ ap (flat_map (ranked_all after)) (sym gave.frameworks) in
      λ i. record {
        clients = clients i;
        total = cluster_total (sym gave.agents i);
        weights = sym gave.weights i;
      }

  -- what is released was held
  holds_one : (f : FrameworkRow) (c : ClientRow) → same_path (ranked before f c).path path ≡ true → Holds quantities (ranked before f c)
  unfolding ranked
  holds_one f c same = λ label.
      let own : Path = path_of (client_of f c) in
      let here : same_path path own ≡ true = same_path-swap path own ∙ same in
      omega (arith, gave.out own label, ap (λ (b : Bool). cond b (amount_of quantities label) 0) here)

  holds_each : (f : FrameworkRow) (cs : List ClientRow)
      → AllByRecursion (λ c. same_path c.path path ≡ true → Holds quantities c) (map (ranked before f) cs)
  holds_each f [] = tt
  holds_each f (c ∷ cs) = (holds_one f c, holds_each f cs)

  holds_all : (fs : List FrameworkRow)
      → AllByRecursion (λ c. same_path c.path path ≡ true → Holds quantities c) (flat_map (ranked_all before) fs)
  holds_all [] = tt
  holds_all (f ∷ fs) =
      each_append (λ (c : Ranked). same_path c.path path ≡ true → Holds quantities c)
      (ranked_all before f) (flat_map (ranked_all before) fs) (holds_each f f.clients) (holds_all fs)

  pub HoldsAt-gave_back : HoldsAt (content_of old) path quantities
  unfolding content_of
  HoldsAt-gave_back = holds_all old.frameworks
