-- Subtracting quantities and offers from a client.
use Rattle.std.proofs.Common.{refl, ap, ◌∙◌, arith, ◌≡◌, ◌≤◌, ◌-◌, ℕ, true, List, Some}
use Rattle.drf_tree.proofs.Names.{amount_of, minus, Entry, Text, Path, same_path, each_from, Content, Ranked, has_client, with_change, Sum, Tree, CanLower, CanLowerAt, lowered, client_at, IsTreeOf}
use Rattle.drf_bundle.proofs.theorems.QuantitiesLaws.{amount-minus}
use Rattle.drf_tree.proofs.change.Changed.{changed_marked}
use Rattle.drf_tree.proofs.change.Climb.{IsClimbing, IsMarking, climb_end, marking_end}
use Rattle.drf_tree.proofs.sums.Move.{Amounts, IsChange, IsMoved, none}

abbrev pub of_lowered : List Entry → ℕ → Amounts
of_lowered quantities offers = record { held = amount_of quantities; count = offers; clients = 0; active = 0 }

pub is_lowered : (quantities : List Entry) (offers : ℕ) (s : Sum) (held : List Entry) → held ≡ minus s.held quantities
    → ((label : Text) → amount_of quantities label ≤ amount_of s.held label) → offers ≤ s.count
    → IsMoved (of_lowered quantities offers) none s (record s { held = held; count = s.count - offers })
is_lowered quantities offers s held is within made = record {
  held = λ label.
      let at : amount_of held label ≡ amount_of s.held label - amount_of quantities label =
      ap (λ es. amount_of es label) is ∙ amount-minus s.held quantities label in
      omega (arith, at, within label);
  count = omega (arith, made);
  clients = refl;
  active = refl;
  weight = refl;
}

pub lowered_tree : (content : Content) (path : Path) (quantities : List Entry) (offers : ℕ) (old now : Tree) (leaf node : ℕ)
    → IsTreeOf content old → client_at old.places.items leaf ≡ Some path → has_client content path ≡ true
    → CanLowerAt content path quantities offers
    → IsClimbing old now leaf node (λ i. IsMoved (of_lowered quantities offers) none) → IsMarking old now leaf node → node ≡ 0
    → IsTreeOf (with_change content path (lowered quantities offers)) now
lowered_tree content path quantities offers old now leaf node tree at has can so marking root =
    changed_marked content path (lowered quantities offers) (λ c. refl) old now leaf (of_lowered quantities offers) none tree at has refl
    (each_from (λ (c : Ranked). same_path c.path path ≡ true → CanLower quantities offers c)
    (λ (c : Ranked). same_path c.path path ≡ true → IsChange (of_lowered quantities offers) none c (lowered quantities offers c))
    content.clients here can)
    so.places so.families
    (climb_end old now tree.shape leaf node (λ i. IsMoved (of_lowered quantities offers) none) so root)
    (marking_end old now tree.shape leaf node (λ i. IsMoved (of_lowered quantities offers) none) marking root)
  where
    here : (c : Ranked) → (same_path c.path path ≡ true → CanLower quantities offers c) → same_path c.path path ≡ true
        → IsChange (of_lowered quantities offers) none c (lowered quantities offers c)
    here c able same =
        let is = able same in
        record {
          held = λ label. omega (arith, is.held label);
          count = omega (arith, is.count);
          active = refl;
        }
