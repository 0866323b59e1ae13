-- Removing a client, with all that it held.
use Rattle.std.specs.List.{AllByRecursion, IsDistinct, list_any}
use Rattle.std.proofs.Common.{refl, sym, ap, subst, ◌∙◌, inl, inr, arith, ◌≡◌, ◌≤◌, ◌+◌, ◌-◌, ℕ, Bool, true, false, not, ◌||◌, cond, List, [], ◌∷◌, Some, filter, map, slice_get, slice_index_or, sum_by}
use Rattle.std.proofs.lemmas.Bool.{cases_Bool}
use Rattle.std.proofs.lemmas.List.Sums.{sum_by-cons}
use Rattle.std.proofs.lemmas.Map.Keys.{IsDistinct-head, IsDistinct-tail}
use Rattle.drf_tree.proofs.Names.{amount_of, minus, Entry, Text, Path, IsClientPath, begins_with, same_path, same_path-true, Sum, Tree, IsLeast, OnWay, client_at, is_live, path_at, IsSumOf, IsTreeOf}
use Rattle.drf_bundle.proofs.theorems.QuantitiesLaws.{amount-minus}
use Rattle.drf_sorter.specs.Content.{Content, Ranked, clients_under, standing_in, without_client}
use Rattle.drf_tree.proofs.change.Changed.{unmarked_after}
use Rattle.drf_tree.proofs.change.Climb.{AreChanged, AreMarked, IsClimbing, IsMarking, climb_end, marking_end}
use Rattle.drf_tree.proofs.sums.Content.{below, sum_below}
use Rattle.drf_tree.proofs.sums.Move.{AreMoved, IsMoved, active_is, amounts_in, is_served, length_is, none, one, total_under}
use Rattle.drf_tree.proofs.shape.Slice.{same_read}
use Rattle.drf_tree.proofs.sums.Others.{stays, sum_parted}
use Rattle.drf_tree.proofs.change.Tree.{right_marked, shape_again, sums_after, tree_from}

-- ---- the sums

pub is_gone : (gone s : Sum) (held : List Entry) → held ≡ minus s.held gone.held
    → ((label : Text) → amount_of gone.held label ≤ amount_of s.held label)
    → gone.count ≤ s.count → gone.clients ≤ s.clients → gone.active ≤ s.active
    → IsMoved (amounts_in gone) none s
    (record s { held = held; count = s.count - gone.count; clients = s.clients - gone.clients; active = s.active - gone.active })
is_gone gone s held is within count clients active = record {
  held = λ label.
      let at : amount_of held label ≡ amount_of s.held label - amount_of gone.held label =
      ap (λ (es : List Entry). amount_of es label) is ∙ amount-minus s.held gone.held label in
      omega (arith, at, within label);
  count = omega (arith, count);
  clients = omega (arith, clients);
  active = omega (arith, active);
  weight = refl;
}

-- the leaf holds nothing then
pub is_emptied : (gone : Sum)
    → IsMoved (amounts_in gone) none gone (record { held = []; count = 0; clients = 0; active = 0; weight = gone.weight })
is_emptied gone =
    record { held = λ label. omega arith; count = omega arith; clients = omega arith; active = omega arith; weight = refl }

-- a leaf's sum is at most that of each node above it
pub record IsLeastSum (tree : Tree) (leaf : ℕ) (gone : Sum) : Type 0 where
  pub there : slice_get tree.sums.items leaf ≡ Some gone
  pub held : OnWay tree leaf (λ s. (label : Text) → amount_of gone.held label ≤ amount_of s.held label)
  pub count : OnWay tree leaf (λ s. gone.count ≤ s.count)
  pub clients : OnWay tree leaf (λ s. gone.clients ≤ s.clients)
  pub active : OnWay tree leaf (λ s. gone.active ≤ s.active)

pub least_read : (tree : Tree) (leaf : ℕ) (least : IsLeast tree leaf) (gone read : Sum)
    → gone ≡ read → read ≡ slice_index_or tree.sums.items leaf read → IsLeastSum tree leaf gone
least_read tree leaf least gone read taken is =
    subst (IsLeastSum tree leaf) (sym (taken ∙ same_read tree.sums.items leaf least.sum read least.there is))
    record { there = least.there; held = least.held; count = least.count; clients = least.clients; active = least.active }

-- ---- the clients

-- removing a client does not change nodes that it is not below
stays_beside : (f : Ranked → ℕ) (path node : Path) → begins_with path node ≡ false → (cs : List Ranked)
    → sum_by (below node f) (filter (stays path) cs) ≡ sum_by (below node f) cs
stays_beside f path node other [] = refl
stays_beside f path node other (c ∷ cs) = elim (cases_Bool (same_path c.path path)) [
  | inl here ↦
      let out : begins_with c.path node ≡ false =
      ap (λ (p : Path). begins_with p node) (same_path-true c.path path here) ∙ other in
      let nothing : below node f c ≡ 0 = ap (λ (b : Bool). cond b (f c) 0) out in
      let left : sum_by (below node f) (filter (stays path) (c ∷ cs)) ≡ sum_by (below node f) (filter (stays path) cs) =
      ap (λ (b : Bool). sum_by (below node f) (cond (not b) (c ∷ filter (stays path) cs) (filter (stays path) cs))) here in
      omega (arith, left, nothing, sum_by-cons (below node f) c cs, stays_beside f path node other cs)
  | inr past ↦
      let left : sum_by (below node f) (filter (stays path) (c ∷ cs)) ≡ sum_by (below node f) (c ∷ filter (stays path) cs) =
      ap (λ (b : Bool). sum_by (below node f) (cond (not b) (c ∷ filter (stays path) cs) (filter (stays path) cs))) past in
      omega (
        arith,
        left,
        sum_by-cons (below node f) c cs,
        sum_by-cons (below node f) c (filter (stays path) cs),
        stays_beside f path node other cs,
      )
]

module _ (content : Content) (path node : Path) where
  total_without : (f : Ranked → ℕ) → IsClientPath path → begins_with path node ≡ true
      → AllByRecursion IsClientPath (map (λ (c : Ranked). c.path) content.clients)
      → total_under f (without_client content path) node + total_under f content path ≡ total_under f content node
  total_without f right begins all =
      omega (
        arith,
        sum_parted f path node right begins content.clients all,
        sum_below node f (filter (stays path) content.clients),
        sum_below path f content.clients,
        sum_below node f content.clients,
      )

  pub gone_below : (gone : Sum) → IsSumOf content path gone → IsClientPath path → begins_with path node ≡ true
      → AllByRecursion IsClientPath (map (λ (c : Ranked). c.path) content.clients)
      → AreMoved (amounts_in gone) none content (without_client content path) node
  unfolding standing_in
  gone_below gone of right begins all = record {
    held = λ label. omega (arith, total_without (λ c. c.held label) right begins all, of.held label);
    count = omega (arith, total_without (λ c. c.count) right begins all, of.count);
    clients = omega (arith, total_without one right begins all, of.clients, length_is (clients_under content path));
    active = omega (arith, total_without is_served right begins all, of.active, active_is (clients_under content path));
    weight = refl;
  }

  total_beside : (f : Ranked → ℕ) → begins_with path node ≡ false
      → total_under f (without_client content path) node ≡ total_under f content node
  total_beside f other =
      sum_below node f (filter (stays path) content.clients)
      ∙ stays_beside f path node other content.clients
      ∙ sym (sum_below node f content.clients)

  pub gone_beside : begins_with path node ≡ false → AreMoved none none content (without_client content path) node
  gone_beside other = record {
    held = λ label. ap (λ (n : ℕ). n + 0) (total_beside (λ c. c.held label) other);
    count = ap (λ (n : ℕ). n + 0) (total_beside (λ c. c.count) other);
    clients = ap (λ (n : ℕ). n + 0) (total_beside one other);
    active = ap (λ (n : ℕ). n + 0) (total_beside is_served other);
    weight = refl;
  }

-- ---- what holds of all clients holds of the remaining ones

module _ (keep : Ranked → Bool) where
  paths_all : (P : Path → Type 0) (cs : List Ranked) → AllByRecursion P (map (λ (c : Ranked). c.path) cs)
      → AllByRecursion P (map (λ (c : Ranked). c.path) (filter keep cs))
  paths_all P [] all = tt
  paths_all P (c ∷ cs) all = by (keep c) (paths_all P cs all.1)
    where
      by : (b : Bool) → AllByRecursion P (map (λ (c : Ranked). c.path) (filter keep cs))
          → AllByRecursion P (map (λ (c : Ranked). c.path) (cond b (c ∷ filter keep cs) (filter keep cs)))
      by true rest = (all.0, rest)
      by false rest = rest

  paths_any : (p : Path → Bool) (cs : List Ranked) → list_any p (map (λ (c : Ranked). c.path) (filter keep cs)) ≡ true
      → list_any p (map (λ (c : Ranked). c.path) cs) ≡ true
  paths_any p [] some = some
  paths_any p (c ∷ cs) some = by (keep c) (paths_any p cs) some
    where
      join : (a b d : Bool) → (b ≡ true → d ≡ true) → (a || b) ≡ true → (a || d) ≡ true
      join true b d so is = refl
      join false b d so is = so is

      second : (a b : Bool) → b ≡ true → (a || b) ≡ true
      second true b is = refl
      second false b is = is

      by : (b : Bool)
          → (list_any p (map (λ (c : Ranked). c.path) (filter keep cs)) ≡ true → list_any p (map (λ (c : Ranked). c.path) cs) ≡ true)
          → list_any p (map (λ (c : Ranked). c.path) (cond b (c ∷ filter keep cs) (filter keep cs))) ≡ true
          → (p c.path || list_any p (map (λ (c : Ranked). c.path) cs)) ≡ true
      by true rest is =
          join (p c.path) (list_any p (map (λ (c : Ranked). c.path) (filter keep cs))) (list_any p (map (λ (c : Ranked). c.path) cs))
          rest is
      by false rest is = second (p c.path) (list_any p (map (λ (c : Ranked). c.path) cs)) (rest is)

  paths_once : (cs : List Ranked) → IsDistinct same_path (map (λ (c : Ranked). c.path) cs)
      → IsDistinct same_path (map (λ (c : Ranked). c.path) (filter keep cs))
  unfolding IsDistinct
  paths_once [] distinct = tt
  paths_once (c ∷ cs) distinct =
      by (keep c) (paths_once cs (IsDistinct-tail same_path c.path (map (λ (c : Ranked). c.path) cs) distinct))
    where
      by : (b : Bool) → IsDistinct same_path (map (λ (c : Ranked). c.path) (filter keep cs))
          → IsDistinct same_path (map (λ (c : Ranked). c.path) (cond b (c ∷ filter keep cs) (filter keep cs)))
      by true rest = (
        paths_all (λ p. same_path c.path p ≡ false) cs
            (IsDistinct-head same_path c.path (map (λ (c : Ranked). c.path) cs) distinct),
        rest,
      )
      by false rest = rest

pub dismissed_tree : (content : Content) (path : Path) (old now : Tree) (leaf node : ℕ) (gone : Sum) → IsTreeOf content old
    → is_live old.places.items leaf ≡ true → client_at old.places.items leaf ≡ Some path
    → slice_get old.sums.items leaf ≡ Some gone
    → IsClimbing old now leaf node (λ i. IsMoved (amounts_in gone) none) → IsMarking old now leaf node → node ≡ 0
    → IsTreeOf (without_client content path) now
dismissed_tree content path old now leaf node gone tree live at there so marking root =
    tree_from (without_client content path) old now so.places so.families
    (paths_all (stays path) IsClientPath content.clients tree.paths)
    (paths_once (stays path) content.clients tree.distinct)
    (shape_again old.places.items old.families.items old.marks.stale now.marks.stale old.sums.items now.sums.items tree.shape
    marks.long done.long (unmarked_after old leaf now.marks.stale tree.shape marks))
    (sums_after content (without_client content path) old.places.items old.families.items old.marks.stale old.sums.items tree.shape
    leaf (amounts_in gone) none on off now.sums.items done tree.sums)
    (λ i is_node part below some. tree.complete i is_node part below (paths_any (stays path) (same_path _) content.clients some))
    (right_marked content (without_client content path) old.places.items old.families.items old.marks.stale old.sums.items tree.shape
    leaf (amounts_in gone) none on off now.marks.stale marks refl tree.right)
  where
    is : (path_at old.places.items leaf ≡ path) × IsClientPath path
    is = tree.shape.others leaf path at

    of : IsSumOf content path gone
    of = subst (λ (p : Path). IsSumOf content p gone) is.0 (tree.sums leaf gone live there)

    done : AreChanged old.places.items leaf 0 (λ i. IsMoved (amounts_in gone) none) old.sums.items now.sums.items
    done = climb_end old now tree.shape leaf node (λ i. IsMoved (amounts_in gone) none) so root

    marks : AreMarked old.places.items leaf 0 old.marks.stale now.marks.stale
    marks = marking_end old now tree.shape leaf node (λ i. IsMoved (amounts_in gone) none) marking root

    on : (p : Path) → begins_with (path_at old.places.items leaf) p ≡ true
        → AreMoved (amounts_in gone) none content (without_client content path) p
    on p begins = gone_below content path p gone of is.1 (ap (λ q. begins_with q p) (sym is.0) ∙ begins) tree.paths

    off : (p : Path) → begins_with (path_at old.places.items leaf) p ≡ false
        → AreMoved none none content (without_client content path) p
    off p other = gone_beside content path p (ap (λ q. begins_with q p) (sym is.0) ∙ other)
