-- What is stored at the number of a node.
use Rattle.std.specs.List.{AllByRecursion}
use Rattle.std.specs.Option.{is_some, option_map_or}
use Rattle.std.proofs.Common.{refl, sym, ap, subst, ◌∙◌, inl, inr, arith, length-append, ◌≡◌, ◌<◌, ◌+◌, ◌==◌, ◌-◌, ◌^◌, ℕ, zero, suc, Bool, true, List, [], ◌∷◌, ◌++◌, Option, None, Some, length, map, slice_get, slice_index_or}
use Rattle.std.proofs.lemmas.Bool.{true≢false, cases_lt, eqb-true, or_cases, or_right}
use Rattle.std.proofs.lemmas.List.{get_or-append-add, get_or_past, length-map}
use Rattle.std.proofs.lemmas.Option.{same_Some, slice_get_read, slice_get_past}
use Rattle.drf_tree.proofs.Names.{Text, Path, IsClientPath, Child, Family, Place, Sum, Tree, IsShapeOf, child_name, numbers_of, children_at, family_at, is_live, is_node, last_part, parent_at, path_at, active_at, IsChildOf, IsShape, IsChild}
use Rattle.drf_tree.proofs.walk.Clients.{none_below}

-- ---- lists by number

pub live_within : (places : List (Option Place)) (i : ℕ) → is_live places i ≡ true → i < length places
live_within places i live = elim (cases_lt i (length places)) [
  | inl below ↦ below
  | inr past ↦ absurd (true≢false (sym live ∙ ap is_some (get_or_past places i None past)))
]

pub family_read : (families : List Family) (i : ℕ) (f : Family) → i < length families → f ≡ slice_index_or families i f
    → children_at families i ≡ f.children.items
family_read families i f below at =
    ap (λ (o : Option Family). option_map_or (λ g. g.children.items) o []) (slice_get_read families (length families) i f refl below at)

pub active_read : (sums : List Sum) (i : ℕ) (s : Sum) → i < length sums → s ≡ slice_index_or sums i s
    → active_at sums i ≡ s.active
active_read sums i s below at =
    ap (λ (o : Option Sum). option_map_or (λ g. g.active) o 0) (slice_get_read sums (length sums) i s refl below at)

-- a family is shorter than 2^63, because it is in memory
pub family_short : (families : List Family) (i : ℕ) → length (children_at families i) < 2 ^ 63
family_short families i = by (slice_get families i)
  where
    by : (o : Option Family) → length (option_map_or (λ f. f.children.items) o []) < 2 ^ 63
    by None = omega arith
    by (Some f) = omega (arith, f.children.ok.0, f.children.ok.1, f.children.small)

pub place_short : (families : List Family) (i k n : ℕ) → slice_get (family_at families i) k ≡ Some n → k < 2 ^ 63
place_short families i k n some = elim (cases_lt k (length (children_at families i))) [
  | inl below ↦ omega (arith, family_short families i)
  | inr past ↦
      absurd (let none = slice_get_past (family_at families i) k (omega (arith, length-map (children_at families i) (λ (c : Child). c.node))) in cc)
]

-- ---- members of a family

-- the number is in the family of a node
pub record IsMember (places : List (Option Place)) (node i : ℕ) : Type 0 where
  pub live : is_live places i ≡ true
  pub above : parent_at places i ≡ node
  pub part : Text
  pub path : path_at places i ≡ path_at places node ++ part ∷ []

pub member_at : (places : List (Option Place)) (node : ℕ) (cs : List Child) → AllByRecursion (IsChildOf places node) cs
    → (k i : ℕ) → slice_get (numbers_of cs) k ≡ Some i → IsMember places node i
member_at places node [] all k i some = absurd cc
member_at places node (c ∷ cs) all zero i some =
    let same : c.node ≡ i = same_Some c.node i some in
    subst (IsMember places node) same
    (record { live = all.0.live; above = all.0.above; part = child_name c; path = all.0.path })
member_at places node (c ∷ cs) all (suc k) i some = member_at places node cs all.1 k i some

pub last_is : (p : Path) (name : Text) → last_part (p ++ name ∷ []) ≡ name
last_is p name =
    let place : length (p ++ name ∷ []) - 1 ≡ length p + 0 = omega (arith, length-append p (name ∷ [])) in
    rw place (get_or-append-add p (name ∷ []) 0 [])

module _ (places : List (Option Place)) (node : ℕ) where
  abbrev pub name_at : ℕ → Text
  name_at i = last_part (path_at places i)

  named : (c : Child) → IsChildOf places node c → name_at c.node ≡ child_name c
  named c child = ap last_part child.path ∙ last_is (path_at places node) (child_name c)

  pub names_of : (cs : List Child) → AllByRecursion (IsChildOf places node) cs
      → map name_at (numbers_of cs) ≡ map child_name cs
  names_of [] all = refl
  names_of (c ∷ cs) all = λ i. named c all.0 i ∷ names_of cs all.1 i

  pub children_are : (cs : List Child) → AllByRecursion (IsChildOf places node) cs
      → AllByRecursion (IsChild (λ i. is_node places i ≡ true) (path_at places) name_at node) (numbers_of cs)
  children_are [] all = tt
  children_are (c ∷ cs) all =
      let live : is_node places c.node ≡ true = or_right (c.node == 0) (is_live places c.node) all.0.live in
      let path : path_at places c.node ≡ path_at places node ++ name_at c.node ∷ [] =
      all.0.path ∙ ap (λ (n : Text). path_at places node ++ n ∷ []) (sym (named c all.0)) in
      ((live, path), children_are cs all.1)

module _ (places : List (Option Place)) (families : List Family) (stale : List Bool) (sums : List Sum)
    (shape : IsShape places families stale sums) where
  pub member : (node k i : ℕ) → slice_get (family_at families node) k ≡ Some i → IsMember places node i
  member node = member_at places node (children_at families node) (shape.children node)

  leaf_at : (i : ℕ) (cs : List Child) → AllByRecursion (IsChildOf places i) cs → IsClientPath (path_at places i)
      → numbers_of cs ≡ []
  leaf_at i [] all client = refl
  leaf_at i (c ∷ cs) all client =
      absurd (true≢false (none_below (path_at places i) (path_at places c.node) (child_name c) client
      (shape.right c.node all.0.live) all.0.path))

  -- a client has no children
  pub leaf : (i : ℕ) → IsClientPath (path_at places i) → family_at families i ≡ []
  leaf i client = leaf_at i (children_at families i) (shape.children i) client

-- a node's number is within the lists
pub node_within : (tree : Tree) → IsShapeOf tree → (i : ℕ) → is_node tree.places.items i ≡ true → i < length tree.places.items
node_within tree shape i node = elim (or_cases (i == 0) (is_live tree.places.items i) node) [
  | inl root ↦ omega (arith, eqb-true i 0 root, shape.some)
  | inr live ↦ live_within tree.places.items i live
]

-- the child at a position of a family that was read
pub read_at : (tree : Tree) → IsShapeOf tree → (node place : ℕ) (family : Family) → is_node tree.places.items node ≡ true
    → family ≡ slice_index_or tree.families.items node family → (o : Option ℕ)
    → o ≡ slice_get (numbers_of family.children.items) place → slice_get (family_at tree.families.items node) place ≡ o
read_at tree shape node place family live at o is =
    let below = node_within tree shape node live in
    ap (λ cs. slice_get (numbers_of cs) place) (family_read tree.families.items node family (omega (arith, shape.families_long)) at)
    ∙ sym is

-- a child's number has a sum
pub sum_within : (tree : Tree) → IsShapeOf tree → (node place i : ℕ) → slice_get (family_at tree.families.items node) place ≡ Some i
    → i < length tree.sums.items
sum_within tree shape node place i some =
    let child : IsMember tree.places.items node i =
    member tree.places.items tree.families.items tree.marks.stale tree.sums.items shape node place i some in
    omega (arith, live_within tree.places.items i child.live, shape.sums_long)
