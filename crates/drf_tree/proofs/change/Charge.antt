-- Adding quantities and offers to a client.
use Rattle.std.specs.List.{AllByRecursion}
use Rattle.std.proofs.Common.{refl, ap, ◌∙◌, arith, ◌≡◌, ◌+◌, ℕ, true, List, [], ◌∷◌, Some}
use Rattle.drf_tree.proofs.Names.{amount_of, is_in_order, plus, Entry, Path, same_path, Content, Ranked, charged, has_client, with_change, Sum, Tree, client_at, IsTreeOf}
use Rattle.drf_bundle.proofs.theorems.QuantitiesLaws.{amount-plus}
use Rattle.drf_tree.proofs.change.Changed.{changed_marked}
use Rattle.drf_tree.proofs.change.Climb.{IsClimbing, IsMarking, climb_end, marking_end}
use Rattle.drf_tree.proofs.sums.Move.{Amounts, IsChange, IsMoved, none}

abbrev pub of_charged : List Entry → ℕ → Amounts
of_charged quantities offers = record { held = amount_of quantities; count = offers; clients = 0; active = 0 }

pub is_charged : (quantities : List Entry) (offers : ℕ) (s : Sum) (held : List Entry) → is_in_order quantities ≡ true
    → held ≡ plus s.held quantities
    → IsMoved none (of_charged quantities offers) s (record s { held = held; count = s.count + offers })
is_charged quantities offers s held ordered is = record {
  held = λ label.
      let at : amount_of held label ≡ amount_of s.held label + amount_of quantities label =
      ap (λ es. amount_of es label) is ∙ amount-plus s.held quantities label ordered in
      omega (arith, at);
  count = omega arith;
  clients = refl;
  active = refl;
  weight = refl;
}

pub charged_tree : (content : Content) (path : Path) (quantities : List Entry) (offers : ℕ) (old now : Tree) (leaf node : ℕ)
    → IsTreeOf content old → client_at old.places.items leaf ≡ Some path → has_client content path ≡ true
    → IsClimbing old now leaf node (λ i. IsMoved none (of_charged quantities offers)) → IsMarking old now leaf node → node ≡ 0
    → IsTreeOf (with_change content path (charged quantities offers)) now
charged_tree content path quantities offers old now leaf node tree at has so marking root =
    changed_marked content path (charged quantities offers) (λ c. refl) old now leaf none (of_charged quantities offers) tree at has refl
    (each_any (λ (c : Ranked). same_path c.path path ≡ true → IsChange none (of_charged quantities offers) c (charged quantities offers c))
    (λ c same. record { held = λ label. omega arith; count = omega arith; active = refl }) content.clients)
    so.places so.families
    (climb_end old now tree.shape leaf node (λ i. IsMoved none (of_charged quantities offers)) so root)
    (marking_end old now tree.shape leaf node (λ i. IsMoved none (of_charged quantities offers)) marking root)
  where
    each_any : (P : Ranked → Type 0) → ((c : Ranked) → P c) → (cs : List Ranked) → AllByRecursion P cs
    each_any P so [] = tt
    each_any P so (c ∷ cs) = (so c, each_any P so cs)
