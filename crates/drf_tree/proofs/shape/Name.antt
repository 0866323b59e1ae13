-- Finding a child by its name.
use Rattle.std.specs.List.{AllByRecursion, list_any, position}
use Rattle.std.specs.Option.{option_map_or}
use Rattle.std.specs.Cmp.Lexicographic.{bytes_decides}
use Rattle.std.proofs.Common.{sym, ap, ◌∙◌, ◌≡◌, ◌≢◌, ◌==◌, ℕ, Bool, true, false, ◌&&◌, List, [], ◌∷◌, ◌++◌, Option, None, Some, length, map, slice_get, slice_index_or}
use Rattle.std.proofs.lemmas.Bool.Decides.{same_from_decides, Decides-like}
use Rattle.std.proofs.lemmas.List.Quantifiers.{position-Some}
use Rattle.std.proofs.lemmas.Option.{slice_get-get_or}
use Rattle.drf_tree.proofs.Names.{Text, same_text, each_at, list_any-map, Child, Family, Place, Sum, Tree, is_bare_at, child_name, children_at, is_live, path_at, IsChildOf}
use Rattle.drf_bundle.proofs.theorems.ListLaws.{position-none}
use Rattle.drf_tree.proofs.shape.Way.{not_equal}

pub same_text-swap : (a b : Text) → same_text a b ≡ same_text b a
same_text-swap a b =
    same_from_decides (same_text a b) (same_text b a) (bytes_decides a b)
    (Decides-like (same_text b a) sym sym (bytes_decides b a))

module _ (name : Text) where
  pub none_named : (cs : List Child) → position (λ c. same_text name (child_name c)) cs ≡ None
      → list_any (same_text name) (map child_name cs) ≡ false
  none_named cs none =
      list_any-map (same_text name) child_name cs ∙ position-none (λ c. same_text name (child_name c)) cs (sym none)

  pub one_named : (places : List (Option Place)) (node : ℕ) (cs : List Child) → AllByRecursion (IsChildOf places node) cs → (k : ℕ) (c : Child)
      → position (λ c. same_text name (child_name c)) cs ≡ Some k → c ≡ slice_index_or cs k c
      → (is_live places c.node ≡ true) × (path_at places c.node ≡ path_at places node ++ name ∷ [])
  one_named places node cs all k c at is =
      let found = position-Some (λ (c : Child). same_text name (child_name c)) cs k c at in
      let there : slice_get cs k ≡ Some c = slice_get-get_or cs k c found.0 ∙ ap (λ (x : Child). Some x) (sym is) in
      let child = each_at (IsChildOf places node) cs k c all there in
      let named : same_text name (child_name c) ≡ true = ap (λ (x : Child). same_text name (child_name x)) is ∙ found.1 in
      let same : name ≡ child_name c = (bytes_decides name (child_name c)).0 named in
      (child.live, child.path ∙ ap (λ (t : Text). path_at places node ++ t ∷ []) (sym same))

-- ---- whether a node has neither clients nor children

pub bare_is : (tree : Tree) (node : ℕ) (s : Sum) (f : Family) → slice_get tree.sums.items node ≡ Some s
    → slice_get tree.families.items node ≡ Some f
    → is_bare_at tree node ≡ ((s.clients == 0) && (length f.children.items == 0))
bare_is tree node s f at of =
    λ i. (option_map_or (λ s. s.clients) (at i) 0 == 0) && (length (option_map_or (λ f. f.children.items) (of i) []) == 0)

pub bare_then : (a b : Bool) → a ≡ true → (a && b) ≡ b
bare_then a b is = ap (λ (x : Bool). x && b) is

pub bare_else : (a b : Bool) → a ≡ false → (a && b) ≡ false
bare_else a b is = ap (λ (x : Bool). x && b) is

pub bare_out : (tree : Tree) (node : ℕ) (s : Sum) → slice_get tree.sums.items node ≡ Some s → s.clients ≢ 0
    → (s.clients == 0) ≡ is_bare_at tree node
bare_out tree node s at some =
    let out : (s.clients == 0) ≡ false = not_equal s.clients 0 some in
    let rest : Bool = length (children_at tree.families.items node) == 0 in
    out ∙ sym (bare_else (s.clients == 0) rest out)
    ∙ sym (ap (λ (o : Option Sum). (option_map_or (λ s. s.clients) o 0 == 0) && rest) at)
