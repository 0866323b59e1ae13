-- Going down the tree along the parts of a path.
use Rattle.std.specs.List.{list_any}
use Rattle.std.proofs.Common.{refl, sym, ap, subst, ◌∙◌, inl, inr, arith, append_assoc, ◌≡◌, ◌≢◌, ◌≤◌, ◌+◌, ℕ, zero, suc, Bool, true, false, ◌||◌, List, [], ◌∷◌, ◌++◌, Some, drop, length, map, slice_get, take}
use Rattle.std.proofs.lemmas.Bool.{false≢true, or_cases, or_left, or_right}
use Rattle.drf_tree.proofs.Names.{Text, same_text, Path, begins_with, same_path, path_decides, Content, Ranked, has_node, Tree, IsShapeOf, child_name, children_at, is_live, is_node, path_at, IsTreeOf}
use Rattle.drf_tree.proofs.shape.Complete.{way_named}
use Rattle.drf_tree.proofs.shape.Path.{begins_by, begins_itself, begins_to}

-- a list as the parts before and after one of its elements
pub around : {X : Type 0} (xs : List X) (i : ℕ) (x : X) → slice_get xs i ≡ Some x → xs ≡ take i xs ++ x ∷ drop (i + 1) xs
around [] i x at = absurd cc
around {X} (y ∷ xs) zero x at =
    let same : y ≡ x = cc in
    ap (λ (z : X). z ∷ xs) same
around {X} (y ∷ xs) (suc i) x at =
    let e : suc i + 1 ≡ suc (i + 1) = omega arith in
    ap (λ (zs : List X). y ∷ zs) (around xs i x at) ∙ sym (ap (λ (n : ℕ). y ∷ take i xs ++ x ∷ drop n (y ∷ xs)) e)

pub take_one_more : {X : Type 0} (xs : List X) (i : ℕ) (x : X) → slice_get xs i ≡ Some x → take (i + 1) xs ≡ take i xs ++ x ∷ []
take_one_more [] i x at = absurd cc
take_one_more {X} (y ∷ xs) zero x at =
    let same : y ≡ x = cc in
    ap (λ (z : X). z ∷ []) same
take_one_more {X} (y ∷ xs) (suc i) x at =
    let e : suc i + 1 ≡ suc (i + 1) = omega arith in
    ap (λ (n : ℕ). take n (y ∷ xs)) e ∙ ap (λ (zs : List X). y ∷ zs) (take_one_more xs i x at)

-- a client below a node has a path that continues the node's
any_below : (node : Path) (cs : List Ranked) → list_any (λ c. begins_with c.path node) cs ≡ true
    → (rest : Path) × (list_any (same_path (node ++ rest)) (map (λ (c : Ranked). c.path) cs) ≡ true)
any_below node [] some = absurd (false≢true some)
any_below node (c ∷ cs) some = elim (or_cases (begins_with c.path node) (list_any (λ c. begins_with c.path node) cs) some) [
  | inl here ↦
      let rest : Path = drop (length node) c.path in
      let same : same_path (node ++ rest) c.path ≡ true = (path_decides (node ++ rest) c.path).1 (sym (begins_to c.path node here)) in
      (rest, ap (λ (b : Bool). b || list_any (same_path (node ++ rest)) (map (λ (c : Ranked). c.path) cs)) same)
  | inr past ↦
      let later = any_below node cs past in
      (later.0, second (same_path (node ++ later.0) c.path) (list_any (same_path (node ++ later.0)) (map (λ (c : Ranked). c.path) cs)) later.1)
]
  where
    second : (a b : Bool) → b ≡ true → (a || b) ≡ true
    second true b is = refl
    second false b is = is

-- a client is below its own path
pub client_below : (path : Path) (cs : List Ranked) → list_any (λ c. same_path c.path path) cs ≡ true
    → list_any (λ c. begins_with c.path path) cs ≡ true
client_below path [] some = absurd (false≢true some)
client_below path (c ∷ cs) some = elim (or_cases (same_path c.path path) (list_any (λ c. same_path c.path path) cs) some) [
  | inl here ↦
      or_left (begins_with c.path path) (list_any (λ c. begins_with c.path path) cs)
      (ap (λ (p : Path). begins_with p path) ((path_decides c.path path).0 here) ∙ begins_itself path)
  | inr past ↦ or_right (begins_with c.path path) (list_any (λ c. begins_with c.path path) cs) (client_below path cs past)
]

module _ (tree : Tree) (shape : IsShapeOf tree) (node i : ℕ) (parts : Path) (name : Text)
    (there : is_node tree.places.items node ≡ true) (at : path_at tree.places.items node ≡ take i parts)
    (next : slice_get parts i ≡ Some name)
    (none : list_any (same_text name) (map child_name (children_at tree.families.items node)) ≡ false) where
  on : parts ≡ path_at tree.places.items node ++ name ∷ drop (i + 1) parts
  on = around parts i name next ∙ ap (λ (p : Path). p ++ name ∷ drop (i + 1) parts) (sym at)

  -- no client is below
  pub not_below : (content : Content) → IsTreeOf content tree → has_node content parts ≡ true → ⊥
  not_below content of some =
      let client = any_below parts content.clients some in
      let whole : parts ++ client.0 ≡ path_at tree.places.items node ++ name ∷ (drop (i + 1) parts ++ client.0) =
      ap (λ (p : Path). p ++ client.0) on
      ∙ append_assoc (path_at tree.places.items node) (name ∷ drop (i + 1) parts) client.0 in
      false≢true (sym none ∙ of.complete node there name (drop (i + 1) parts ++ client.0)
      (subst (λ (p : Path). list_any (same_path p) (map (λ (c : Ranked). c.path) content.clients) ≡ true) whole client.1))

  -- no node has this path
  pub no_such : (j : ℕ) → is_live tree.places.items j ≡ true → path_at tree.places.items j ≢ parts
  no_such j live same =
      false≢true (sym none ∙ way_named tree.places.items tree.families.items tree.marks.stale tree.sums.items shape
      (length (path_at tree.places.items j)) j node name (omega arith) live there
      (begins_by (path_at tree.places.items j) (path_at tree.places.items node ++ name ∷ []) (drop (i + 1) parts)
      (same ∙ on ∙ sym (append_assoc (path_at tree.places.items node) (name ∷ []) (drop (i + 1) parts)))))

pub take_whole : {X : Type 0} (xs : List X) (n : ℕ) → length xs ≤ n → take n xs ≡ xs
take_whole [] zero long = refl
take_whole [] (suc n) long = refl
take_whole (x ∷ xs) zero long = absurd (omega arith)
take_whole {X} (x ∷ xs) (suc n) long = ap (λ (ys : List X). x ∷ ys) (take_whole xs n (omega arith))
