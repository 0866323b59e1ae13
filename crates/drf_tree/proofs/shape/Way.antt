-- A node and its parent.
use Rattle.std.specs.List.{AllByRecursion}
use Rattle.std.specs.Option.{option_map_or}
use Rattle.std.proofs.Common.{sym, ap, ◌∙◌, inl, inr, arith, length-append, ◌≡◌, ◌≢◌, ◌<◌, ◌+◌, ◌==◌, ℕ, Bool, true, false, List, [], ◌∷◌, Option, length}
use Rattle.std.proofs.lemmas.Bool.{false≢true, cases_Bool, or_cases}
use Rattle.std.proofs.lemmas.Bool.Decides.{nat_tests}
use Rattle.drf_tree.proofs.Names.{Child, Family, Place, Sum, IsOneLonger, child_name, has_child, children_at, is_live, is_node, parent_at, path_at, IsChildOf, IsShape}

pub equal : (m i : ℕ) → (m == i) ≡ true → m ≡ i
equal m i same = grind (arith, nat_tests)

-- a child with this number, for which P holds
pub record IsThere (P : Child → Type 0) (node : ℕ) : Type 0 where
  pub child : Child
  pub number : child.node ≡ node
  pub holds : P child

pub child_there : (P : Child → Type 0) (node : ℕ) (cs : List Child) → AllByRecursion P cs → has_child node cs ≡ true
    → IsThere P node
child_there P node [] all some = absurd (false≢true some)
child_there P node (c ∷ cs) all some = elim (or_cases (c.node == node) (has_child node cs) some) [
  | inl here ↦ record { child = c; number = equal c.node node here; holds = all.0 }
  | inr past ↦ child_there P node cs all.1 past
]

module _ (places : List (Option Place)) (families : List Family) (stale : List Bool) (sums : List Sum)
    (shape : IsShape places families stale sums) where
  pub above_of : (i : ℕ) → is_live places i ≡ true
      → IsOneLonger (path_at places (parent_at places i)) (path_at places i)
  above_of i live =
      let parent : ℕ = parent_at places i in
      let there =
      child_there (IsChildOf places parent) i (children_at families parent) (shape.children parent) (shape.kept i live).1 in
      record {
        part = child_name there.child;
        joined = ap (path_at places) (sym there.number) ∙ there.holds.path;
      }

  -- a node has more parts than its parent
  pub shorter_above : (i : ℕ) → is_live places i ≡ true
      → length (path_at places i) ≡ length (path_at places (parent_at places i)) + 1
  shorter_above i live =
      let longer = above_of i live in
      omega (arith, ap length longer.joined, length-append (path_at places (parent_at places i)) (longer.part ∷ []))

  pub top_is : path_at places 0 ≡ []
  top_is = ap (λ (o : Option Place). option_map_or (λ p. p.path) o []) shape.root

  -- a number that is a node and not the root is live
  pub live_from : (i : ℕ) → is_node places i ≡ true → 0 < length (path_at places i) → is_live places i ≡ true
  live_from i node some = elim (or_cases (i == 0) (is_live places i) node) [
    | inl root ↦
        let at : path_at places i ≡ [] = ap (path_at places) (equal i 0 root) ∙ top_is in
        absurd (omega (arith, some, ap length at))
    | inr live ↦ live
  ]

pub not_equal : (m i : ℕ) → m ≢ i → (m == i) ≡ false
not_equal m i other = elim (cases_Bool (m == i)) [
  | inl same ↦ absurd (other (equal m i same))
  | inr past ↦ past
]

pub equal_self : (n : ℕ) → (n == n) ≡ true
equal_self n = grind (arith, nat_tests)
