-- Adding the nodes of a client's path, from the root down.
use Rattle.std.specs.List.{list_any}
use Rattle.std.proofs.Common.{refl, sym, ap, subst, ◌∙◌, arith, length-append, ◌≡◌, ◌≢◌, ◌≤◌, ◌<◌, ◌+◌, ℕ, true, false, codes, List, [], ◌∷◌, ◌++◌, Some, drop, length, map, slice_get, take, length-take-le, take-append-drop, take-take, take_at}
use Rattle.std.proofs.lemmas.Bool.{true≢false, false_from_ne_true}
use Rattle.std.proofs.lemmas.Option.{slice_get_within}
use Rattle.drf_tree.proofs.Names.{Text, same_text, Path, IsClientPath, IsNodePath, begins_with, client_paths-apart, Content, has_node, Tree, IsOneLonger, child_name, Spends, children_at, client_at, is_live, is_node, path_at, IsOneMore, IsTidy, IsTidyBut, IsTotalFree, IsTreeOf}
use Rattle.drf_tree.proofs.change.Climb.{node_from_live}
use Rattle.drf_tree.proofs.marks.Flags.{spends-both}
use Rattle.drf_tree.proofs.shape.Find.{no_such, not_below, take_one_more, take_whole}
use Rattle.drf_tree.proofs.shape.Path.{begins_by}
use Rattle.drf_tree.proofs.growth.Tidy.{grown_but, tidy_but}
use Rattle.drf_tree.proofs.shape.Way.{live_from, top_is}

-- ---- prefixes of a path

-- a prefix is the path of a node
pub prefix_right : (path : Path) (len : ℕ) → IsClientPath path → 1 ≤ len → len ≤ length path → IsNodePath (take len path)
prefix_right path len right some within = record {
  path = path;
  right_path = right;
  not_empty = λ none. omega (arith, ap length none, length-take-le len path within, some);
  begins = (drop len path, take-append-drop len path);
}

-- a prefix that is shorter is not a client's path
pub prefix_no_client : (path : Path) (len : ℕ) → IsClientPath path → len < length path → IsClientPath (take len path) → ⊥
prefix_no_client path len right less client =
    let short : length (take len path) ≡ len = length-take-le len path (omega (arith, less)) in
    let apart : path ≢ take len path = λ same. omega (arith, ap length same, short, less) in
    true≢false (sym (begins_by path (take len path) (drop len path) (sym (take-append-drop len path)))
    ∙ client_paths-apart path (take len path) right client apart)

-- an element of a prefix is the same as in the whole list
pub read_prefix : {X : Type 0} (xs : List X) (i : ℕ) (x : X) → slice_get xs i ≡ Some x → slice_get (take (i + 1) xs) i ≡ Some x
read_prefix {X} xs i x at =
    ap (λ (ys : List X). slice_get ys i) (take_one_more xs i x at)
    ∙ last_there (take i xs) i x (length-take-le i xs (within_too (slice_get_within xs i x at)))
  where
    within_too : i < length xs → i ≤ length xs
    within_too less = omega (arith, less)

    last_there : (ys : List X) (i : ℕ) (x : X) → length ys ≡ i → slice_get (ys ++ x ∷ []) i ≡ Some x
    last_there [] i x long = ap (λ (k : ℕ). slice_get (x ∷ []) k) (sym long)
    last_there (y ∷ ys) i x long =
        ap (λ (k : ℕ). slice_get (y ∷ ys ++ x ∷ []) k) (sym long) ∙ last_there ys (length ys) x refl

-- ---- one more node

-- a longer prefix begins with a shorter one
prefix_begins : (path : Path) (i : ℕ) → begins_with (take (i + 1) path) (take i path) ≡ true
prefix_begins path i =
    begins_by (take (i + 1) path) (take i path) (drop i (take (i + 1) path))
    (sym (take-append-drop i (take (i + 1) path)) ∙ ap (λ (p : Path). p ++ drop i (take (i + 1) path)) fewer)
  where
    fewer : take i (take (i + 1) path) ≡ take i path
    fewer = take-take i (i + 1) path (omega arith)

-- the loop is at the node of the first `i` parts
pub record IsGrowing (content : Content) (old now : Tree) (path : Path) (node i : ℕ) : Type 0 where
  pub tree : IsTreeOf content now
  pub free : IsTotalFree content old → IsTotalFree content now
  pub there : is_node now.places.items node ≡ true
  pub at : path_at now.places.items node ≡ take i path
  pub spends : Spends old.marks now.marks i
  pub but : IsTidy content old.places.items → IsTidyBut (take i path) content now.places.items

pub grow_start : (content : Content) (tree : Tree) (path : Path) → IsTreeOf content tree → IsGrowing content tree tree path 0 0
grow_start content tree path of = record {
  tree = of;
  free = λ free. free;
  there = refl;
  at = top_is tree.places.items tree.families.items tree.marks.stale tree.sums.items of.shape;
  spends = record { made = omega arith; work = omega arith };
  but = tidy_but content (take 0 path) tree.places.items;
}

pub grow_step : (content : Content) (old now new : Tree) (path : Path) (node i child : ℕ) → IsGrowing content old now path node i
    → IsTreeOf content new → (IsTotalFree content now → IsTotalFree content new) → is_live new.places.items child ≡ true → path_at new.places.items child ≡ take (i + 1) path
    → Spends now.marks new.marks 1
    → IsOneMore (take (i + 1) path) now.places.items new.places.items
    → IsGrowing content old new path child (i + 1)
grow_step content old now new path node i child so of free live at spends one = record {
  tree = of;
  free = λ was. free (so.free was);
  there = node_from_live new.places.items child live;
  at = at;
  spends = spends-both so.spends spends;
  but = λ tidy. grown_but content now.places.items new.places.items (take i path) (take (i + 1) path) (prefix_begins path i) one (so.but tidy);
}

module _ (content : Content) (old now : Tree) (path : Path) (node i : ℕ) (so : IsGrowing content old now path node i)
    (right : IsClientPath path) (all : length path ≤ i) where
  at_all : path_at now.places.items node ≡ path
  at_all = so.at ∙ take_whole path i all

  some : 0 < length path
  some = omega (arith, ap length right.joined, length-append right.role (codes "." ∷ right.framework ∷ []))

  pub grown_live : is_live now.places.items node ≡ true
  grown_live =
      live_from now.places.items now.families.items now.marks.stale now.sums.items so.tree.shape node so.there
      (omega (arith, ap length at_all, some))

  pub grown_client : client_at now.places.items node ≡ Some path
  grown_client =
      so.tree.shape.clients node grown_live (subst IsClientPath (sym at_all) right) ∙ ap (λ (p : Path). Some p) at_all

-- ---- a missing child can be added

module _ (content : Content) (tree : Tree) (of : IsTreeOf content tree) (path : Path) (node i : ℕ) (name : Text)
    (there : is_node tree.places.items node ≡ true) (at : path_at tree.places.items node ≡ take i path)
    (next : slice_get path i ≡ Some name)
    (none : list_any (same_text name) (map child_name (children_at tree.families.items node)) ≡ false) where
  prefix_at : path_at tree.places.items node ≡ take i (take (i + 1) path)
  prefix_at =
      at
      ∙ sym (ap (take i) (take_one_more path i name next)
      ∙ take_at (take i path) (name ∷ []) i (length-take-le i path (le_of (slice_get_within path i name next))))
    where
      le_of : i < length path → i ≤ length path
      le_of less = omega (arith, less)

  pub step_longer : IsOneLonger (path_at tree.places.items node) (take (i + 1) path)
  step_longer = record {
    part = name;
    joined = take_one_more path i name next ∙ ap (λ (p : Path). p ++ name ∷ []) (sym at);
  }

  pub step_missing : (j : ℕ) → is_live tree.places.items j ≡ true → path_at tree.places.items j ≢ take (i + 1) path
  step_missing = no_such tree of.shape node i (take (i + 1) path) name there prefix_at (read_prefix path i name next) none

  pub step_nobody : has_node content (take (i + 1) path) ≡ false
  step_nobody =
      false_from_ne_true (has_node content (take (i + 1) path))
      (not_below tree of.shape node i (take (i + 1) path) name there prefix_at (read_prefix path i name next) none content of)
