-- The shape of a tree, number by number, when a node is added or removed.
use Rattle.std.specs.List.{AllByRecursion, IsDistinct, list_any}
use Rattle.std.specs.Option.{is_some, option_map_or}
use Rattle.std.proofs.Common.{refl, sym, ap, subst, ◌∙◌, inl, inr, ◌≡◌, ◌≢◌, ◌<◌, ◌==◌, ℕ, Bool, true, false, ◌||◌, List, [], ◌∷◌, ◌++◌, Option, None, Some, length, map, slice_index_or}
use Rattle.std.proofs.lemmas.Bool.{true≢false, false≢true, cases_Bool, cases_eq, or_cases}
use Rattle.std.specs.Cmp.Lexicographic.{bytes_decides}
use Rattle.drf_tree.proofs.Names.{Text, same_text, Path, IsClientPath, IsNodePath, each_from, Child, Family, Place, Sum, IsWith, child_name, has_child, children_at, place_at, IsChildOf, IsShape}
use Rattle.drf_tree.proofs.shape.Name.{same_text-swap}
use Rattle.drf_tree.proofs.shape.Way.{equal_self}

-- ---- the shape, number by number

abbrev pub live_in : (ℕ → Option Place) → ℕ → Bool
live_in at i = is_some (at i)

abbrev pub node_in : (ℕ → Option Place) → ℕ → Bool
node_in at i = (i == 0) || live_in at i

abbrev pub path_in : (ℕ → Option Place) → ℕ → Path
path_in at i = option_map_or (λ p. p.path) (at i) []

abbrev pub parent_in : (ℕ → Option Place) → ℕ → ℕ
parent_in at i = option_map_or (λ p. p.parent) (at i) 0

abbrev pub client_in : (ℕ → Option Place) → ℕ → Option Path
client_in at i = option_map_or (λ p. p.client) (at i) None

pub record IsChildIn (at : ℕ → Option Place) (node : ℕ) (child : Child) : Type 0 where
  pub live : live_in at child.node ≡ true
  pub above : parent_in at child.node ≡ node
  pub path : path_in at child.node ≡ path_in at node ++ child_name child ∷ []

pub record IsShapeIn (at : ℕ → Option Place) (kids : ℕ → List Child) (flag : ℕ → Bool) : Type 0 where
  pub root : at 0 ≡ None
  pub children : (i : ℕ) → AllByRecursion (IsChildIn at i) (kids i)
  pub kept : (i : ℕ) → live_in at i ≡ true → (node_in at (parent_in at i) ≡ true) × (has_child i (kids (parent_in at i)) ≡ true)
  pub once : (i : ℕ) → IsDistinct same_text (map child_name (kids i))
  pub distinct : (i j : ℕ) → live_in at i ≡ true → live_in at j ≡ true → path_in at i ≡ path_in at j → i ≡ j
  pub right : (i : ℕ) → live_in at i ≡ true → IsNodePath (path_in at i)
  pub clients : (i : ℕ) → live_in at i ≡ true → IsClientPath (path_in at i) → client_in at i ≡ Some (path_in at i)
  pub others : (i : ℕ) (path : Path) → client_in at i ≡ Some path → (path_in at i ≡ path) × IsClientPath path
  pub free : (i : ℕ) → node_in at i ≡ false → kids i ≡ []
  pub unmarked : (i : ℕ) → flag i ≡ true → live_in at i ≡ true

module _ (places : List (Option Place)) (families : List Family) (stale : List Bool) (sums : List Sum) where
  pub shape_in : IsShape places families stale sums
      → IsShapeIn (λ i. place_at places i) (λ i. children_at families i) (λ i. slice_index_or stale i false)
  shape_in shape = record {
    root = shape.root;
    children = λ i.
        each_from (IsChildOf places i) (IsChildIn (λ i. place_at places i) i) (children_at families i)
        (λ c child. record { live = child.live; above = child.above; path = child.path }) (shape.children i);
    kept = shape.kept;
    once = shape.once;
    distinct = shape.distinct;
    right = shape.right;
    clients = shape.clients;
    others = shape.others;
    free = shape.free;
    unmarked = shape.unmarked;
  }

  pub shape_from : 0 < length places → length sums ≡ length places → length families ≡ length places
      → length stale ≡ length places
      → IsShapeIn (λ i. place_at places i) (λ i. children_at families i) (λ i. slice_index_or stale i false)
      → IsShape places families stale sums
  shape_from some sums_long families_long stale_long shape = record {
    some = some;
    sums_long = sums_long;
    families_long = families_long;
    stale_long = stale_long;
    root = shape.root;
    children = λ i.
        each_from (IsChildIn (λ i. place_at places i) i) (IsChildOf places i) (children_at families i)
        (λ c child. record { live = child.live; above = child.above; path = child.path }) (shape.children i);
    kept = shape.kept;
    once = shape.once;
    distinct = shape.distinct;
    right = shape.right;
    clients = shape.clients;
    others = shape.others;
    free = shape.free;
    unmarked = shape.unmarked;
  }

-- the shape holds if the same is read at each number
pub shape_seen : (at was : ℕ → Option Place) (kids were : ℕ → List Child) (flag flags : ℕ → Bool)
    → ((i : ℕ) → at i ≡ was i) → ((i : ℕ) → kids i ≡ were i) → ((i : ℕ) → flag i ≡ flags i)
    → IsShapeIn was were flags → IsShapeIn at kids flag
shape_seen at was kids were flag flags same_at same_kids same_flag shape =
    subst (λ (f : ℕ → Option Place). IsShapeIn f kids flag) (λ j i. sym (same_at i) j)
    (subst (λ (f : ℕ → List Child). IsShapeIn was f flag) (λ j i. sym (same_kids i) j)
    (subst (λ (f : ℕ → Bool). IsShapeIn was were f) (λ j i. sym (same_flag i) j) shape))

-- ---- one more or one fewer element of a list

module _ {X : Type 0} (p : X → Bool) (x : X) where
  pub any_more : (before after : List X) → list_any p (before ++ after) ≡ true → list_any p (before ++ x ∷ after) ≡ true
  any_more [] after some = second (p x) (list_any p after) some
    where
      second : (a b : Bool) → b ≡ true → (a || b) ≡ true
      second true b is = refl
      second false b is = is
  any_more (b ∷ before) after some = later (p b) (list_any p (before ++ after)) (list_any p (before ++ x ∷ after)) (any_more before after) some
    where
      later : (a c d : Bool) → (c ≡ true → d ≡ true) → (a || c) ≡ true → (a || d) ≡ true
      later true c d so is = refl
      later false c d so is = so is

  pub any_there : (before after : List X) → p x ≡ true → list_any p (before ++ x ∷ after) ≡ true
  any_there [] after is = ap (λ (b : Bool). b || list_any p after) is
  any_there (b ∷ before) after is = second (p b) (list_any p (before ++ x ∷ after)) (any_there before after is)
    where
      second : (a c : Bool) → c ≡ true → (a || c) ≡ true
      second true c yet = refl
      second false c yet = yet

  pub any_less : (before after : List X) → p x ≡ false → list_any p (before ++ x ∷ after) ≡ true → list_any p (before ++ after) ≡ true
  any_less [] after out some = ap (λ (b : Bool). b || list_any p after) (sym out) ∙ some
  any_less (b ∷ before) after out some = later (p b) (list_any p (before ++ x ∷ after)) (list_any p (before ++ after)) (any_less before after out) some
    where
      later : (a c d : Bool) → (c ≡ true → d ≡ true) → (a || c) ≡ true → (a || d) ≡ true
      later true c d so is = refl
      later false c d so is = so is

module _ (P : Child → Type 0) (x : Child) where
  pub each_more : (before after : List Child) → AllByRecursion P (before ++ after) → P x → AllByRecursion P (before ++ x ∷ after)
  each_more [] after all is = (is, all)
  each_more (b ∷ before) after all is = (all.0, each_more before after all.1 is)

  pub each_less : (before after : List Child) → AllByRecursion P (before ++ x ∷ after) → AllByRecursion P (before ++ after)
  each_less [] after all = all.1
  each_less (b ∷ before) after all = (all.0, each_less before after all.1)

  pub each_of : (before after : List Child) → AllByRecursion P (before ++ x ∷ after) → P x
  each_of [] after all = all.0
  each_of (b ∷ before) after all = each_of before after all.1

-- no child has this name
abbrev pub differs : Text → Child → Type 0
differs name c = same_text name (child_name c) ≡ false

names_differ : (name : Text) (cs : List Child) → AllByRecursion (differs name) cs
    → AllByRecursion (λ n. same_text name n ≡ false) (map child_name cs)
names_differ name [] all = tt
names_differ name (c ∷ cs) all = (all.0, names_differ name cs all.1)

differ_names : (name : Text) (cs : List Child) → AllByRecursion (λ n. same_text name n ≡ false) (map child_name cs)
    → AllByRecursion (differs name) cs
differ_names name [] all = tt
differ_names name (c ∷ cs) all = (all.0, differ_names name cs all.1)

pub once_more : (x : Child) (before after : List Child) → IsDistinct same_text (map child_name (before ++ after))
    → AllByRecursion (differs (child_name x)) (before ++ after) → IsDistinct same_text (map child_name (before ++ x ∷ after))
unfolding IsDistinct
once_more x [] after once all = (names_differ (child_name x) after all, once)
once_more x (b ∷ before) after once all = (
  names_differ (child_name b) (before ++ x ∷ after)
      (each_more (differs (child_name b)) x before after (differ_names (child_name b) (before ++ after) once.0)
      (same_text-swap (child_name b) (child_name x) ∙ all.0)),
  once_more x before after once.1 all.1,
)

pub once_less : (x : Child) (before after : List Child) → IsDistinct same_text (map child_name (before ++ x ∷ after))
    → IsDistinct same_text (map child_name (before ++ after)) × AllByRecursion (differs (child_name x)) (before ++ after)
unfolding IsDistinct
once_less x [] after once = (once.1, differ_names (child_name x) after once.0)
once_less x (b ∷ before) after once =
    let rest = once_less x before after once.1 in
    let heads = differ_names (child_name b) (before ++ x ∷ after) once.0 in (
      (names_differ (child_name b) (before ++ after) (each_less (differs (child_name b)) x before after heads), rest.0),
      (same_text-swap (child_name x) (child_name b) ∙ each_of (differs (child_name b)) x before after heads, rest.1),
    )

-- ---- a node is added

module _ (at now : ℕ → Option Place) (kids new : ℕ → List Child) (flag : ℕ → Bool) (shape : IsShapeIn at kids flag)
    (node parent : ℕ) (place : Place) (child : Child)
    (vacant : node_in at node ≡ false) (there : node_in at parent ≡ true)
    (put : now node ≡ Some place) (rest : (i : ℕ) → i ≢ node → now i ≡ at i)
    (with : IsWith child (kids parent) (new parent)) (others : (i : ℕ) → i ≢ parent → new i ≡ kids i)
    (number : child.node ≡ node) (above : place.parent ≡ parent)
    (joined : place.path ≡ path_in at parent ++ child_name child ∷ [])
    (right : IsNodePath place.path)
    (missing : (i : ℕ) → live_in at i ≡ true → path_in at i ≢ place.path)
    (client : IsClientPath place.path → place.client ≡ Some place.path)
    (other_client : (path : Path) → place.client ≡ Some path → (place.path ≡ path) × IsClientPath path) where
  not_live : live_in at node ≡ false
  not_live = second (node == 0) (live_in at node) vacant
    where
      second : (a b : Bool) → (a || b) ≡ false → b ≡ false
      second true b bad = absurd (true≢false bad)
      second false b is = is

  not_root : node ≢ 0
  not_root root = first (node == 0) (live_in at node) (ap (λ (n : ℕ). n == 0) root) vacant
    where
      first : (a b : Bool) → a ≡ true → (a || b) ≡ false → ⊥
      first true b is bad = true≢false bad
      first false b is bad = false≢true is

  apart : parent ≢ node
  apart same = true≢false (sym there ∙ ap (node_in at) same ∙ vacant)

  -- a node that was live is not the new one
  pub was_other : (i : ℕ) → live_in at i ≡ true → i ≢ node
  was_other i live same = true≢false (sym live ∙ ap (live_in at) same ∙ not_live)

  still : (i : ℕ) → live_in at i ≡ true → now i ≡ at i
  still i live = rest i (was_other i live)

  still_node : (i : ℕ) → node_in at i ≡ true → node_in now i ≡ true
  still_node i is = elim (or_cases (i == 0) (live_in at i) is) [
    | inl root ↦ ap (λ (b : Bool). b || live_in now i) root
    | inr live ↦ second (i == 0) (live_in now i) (ap (λ (o : Option Place). is_some o) (still i live) ∙ live)
  ]
    where
      second : (a b : Bool) → b ≡ true → (a || b) ≡ true
      second true b yet = refl
      second false b yet = yet

  -- the other live nodes were live before
  was_live : (i : ℕ) → i ≢ node → live_in now i ≡ true → live_in at i ≡ true
  was_live i other live = ap (λ (o : Option Place). is_some o) (sym (rest i other)) ∙ live

  new_path : path_in now node ≡ place.path
  new_path = ap (λ (o : Option Place). option_map_or (λ p. p.path) o []) put

  old_path : (i : ℕ) → i ≢ node → path_in now i ≡ path_in at i
  old_path i other = ap (λ (o : Option Place). option_map_or (λ p. p.path) o []) (rest i other)

  child_still : (i : ℕ) → i ≢ node → (c : Child) → IsChildIn at i c → IsChildIn now i c
  child_still i other c is =
      let same : now c.node ≡ at c.node = still c.node is.live in
      record {
        live = ap (λ (o : Option Place). is_some o) same ∙ is.live;
        above = ap (λ (o : Option Place). option_map_or (λ p. p.parent) o 0) same ∙ is.above;
        path =
            ap (λ (o : Option Place). option_map_or (λ p. p.path) o []) same ∙ is.path
            ∙ ap (λ (p : Path). p ++ child_name c ∷ []) (sym (old_path i other));
      }

  child_new : IsChildIn now parent child
  child_new =
      let same : now child.node ≡ Some place = ap now number ∙ put in
      record {
        live = ap (λ (o : Option Place). is_some o) same;
        above = ap (λ (o : Option Place). option_map_or (λ p. p.parent) o 0) same ∙ above;
        path =
            ap (λ (o : Option Place). option_map_or (λ p. p.path) o []) same ∙ joined
            ∙ ap (λ (p : Path). p ++ child_name child ∷ []) (sym (old_path parent apart));
      }

  children_now : (i : ℕ) → AllByRecursion (IsChildIn now i) (new i)
  children_now i = elim (cases_eq i parent) [
    | inl same ↦
        subst (λ (k : ℕ). AllByRecursion (IsChildIn now k) (new k)) (sym same)
        (subst (AllByRecursion (IsChildIn now parent)) (sym with.more_is)
        (each_more (IsChildIn now parent) child with.before with.after
        (subst (AllByRecursion (IsChildIn now parent)) with.less_is
        (each_from (IsChildIn at parent) (IsChildIn now parent) (kids parent) (child_still parent apart) (shape.children parent)))
        child_new))
    | inr other ↦
        subst (AllByRecursion (IsChildIn now i)) (sym (others i other))
        (elim (cases_eq i node) [
          | inl here ↦
              let none : kids i ≡ [] = ap kids here ∙ shape.free node vacant in
              subst (AllByRecursion (IsChildIn now i)) (sym none) tt
          | inr past ↦ each_from (IsChildIn at i) (IsChildIn now i) (kids i) (child_still i past) (shape.children i)
        ])
  ]

  -- a family has at least the children that it had
  pub has_still : (p : Child → Bool) (i : ℕ) → list_any p (kids i) ≡ true → list_any p (new i) ≡ true
  has_still p i some = elim (cases_eq i parent) [
    | inl same ↦
        ap (λ (k : ℕ). list_any p (new k)) same ∙ ap (list_any p) with.more_is
        ∙ any_more p child with.before with.after
        (ap (list_any p) (sym with.less_is) ∙ ap (λ (k : ℕ). list_any p (kids k)) (sym same) ∙ some)
    | inr other ↦ ap (list_any p) (others i other) ∙ some
  ]

  has_new : has_child node (new parent) ≡ true
  has_new =
      ap (has_child node) with.more_is
      ∙ any_there (λ c. c.node == node) child with.before with.after (ap (λ (n : ℕ). n == node) number ∙ equal_self node)

  kept_now : (i : ℕ) → live_in now i ≡ true
      → (node_in now (parent_in now i) ≡ true) × (has_child i (new (parent_in now i)) ≡ true)
  kept_now i live = elim (cases_eq i node) [
    | inl here ↦
        let is : parent_in now i ≡ parent =
        ap (parent_in now) here ∙ ap (λ (o : Option Place). option_map_or (λ p. p.parent) o 0) put ∙ above in (
          ap (node_in now) is ∙ still_node parent there,
          ap (λ (k : ℕ). has_child i (new k)) is ∙ ap (λ (k : ℕ). has_child k (new parent)) here ∙ has_new,
        )
    | inr other ↦
        let is : parent_in now i ≡ parent_in at i =
        ap (λ (o : Option Place). option_map_or (λ p. p.parent) o 0) (rest i other) in
        let was = shape.kept i (was_live i other live) in (
          ap (node_in now) is ∙ still_node (parent_in at i) was.0,
          ap (λ (k : ℕ). has_child i (new k)) is ∙ has_still (λ c. c.node == i) (parent_in at i) was.1,
        )
  ]

  -- no sibling has the name
  name_new : (c : Child) → IsChildIn at parent c → differs (child_name child) c
  name_new c is = elim (cases_Bool (same_text (child_name child) (child_name c))) [
    | inl same ↦
        absurd (missing c.node is.live (is.path ∙ ap (λ (t : Text). path_in at parent ++ t ∷ [])
        (sym ((bytes_decides (child_name child) (child_name c)).0 same)) ∙ sym joined))
    | inr other ↦ other
  ]

  once_now : (i : ℕ) → IsDistinct same_text (map child_name (new i))
  once_now i = elim (cases_eq i parent) [
    | inl same ↦
        subst (λ (k : ℕ). IsDistinct same_text (map child_name (new k))) (sym same)
        (subst (λ (cs : List Child). IsDistinct same_text (map child_name cs)) (sym with.more_is)
        (once_more child with.before with.after
        (subst (λ (cs : List Child). IsDistinct same_text (map child_name cs)) with.less_is (shape.once parent))
        (subst (AllByRecursion (differs (child_name child))) with.less_is
        (each_from (IsChildIn at parent) (differs (child_name child)) (kids parent) name_new (shape.children parent)))))
    | inr other ↦ subst (λ (cs : List Child). IsDistinct same_text (map child_name cs)) (sym (others i other)) (shape.once i)
  ]

  distinct_now : (i j : ℕ) → live_in now i ≡ true → live_in now j ≡ true → path_in now i ≡ path_in now j → i ≡ j
  distinct_now i j live_i live_j same = elim (cases_eq i node) [
    | inl here_i ↦
        elim (cases_eq j node) [
          | inl here_j ↦ here_i ∙ sym here_j
          | inr other_j ↦
              absurd (missing j (was_live j other_j live_j)
              (sym (old_path j other_j) ∙ sym same ∙ ap (path_in now) here_i ∙ new_path))
        ]
    | inr other_i ↦
        elim (cases_eq j node) [
          | inl here_j ↦
              absurd (missing i (was_live i other_i live_i)
              (sym (old_path i other_i) ∙ same ∙ ap (path_in now) here_j ∙ new_path))
          | inr other_j ↦
              shape.distinct i j (was_live i other_i live_i) (was_live j other_j live_j)
              (sym (old_path i other_i) ∙ same ∙ old_path j other_j)
        ]
  ]

  free_now : (i : ℕ) → node_in now i ≡ false → new i ≡ []
  free_now i free = elim (cases_Bool (node_in at i)) [
    | inl is ↦ absurd (true≢false (sym (still_node i is) ∙ free))
    | inr none ↦
        others i (λ same. true≢false (sym there ∙ ap (node_in at) (sym same) ∙ none)) ∙ shape.free i none
  ]

  pub sprouted : IsShapeIn now new flag
  sprouted = record {
    root = rest 0 (λ same. not_root (sym same)) ∙ shape.root;
    children = children_now;
    kept = kept_now;
    once = once_now;
    distinct = distinct_now;
    right = λ i live. elim (cases_eq i node) [
      | inl here ↦ subst IsNodePath (sym (ap (path_in now) here ∙ new_path)) right
      | inr other ↦ subst IsNodePath (sym (old_path i other)) (shape.right i (was_live i other live))
    ];
    clients = λ i live is. elim (cases_eq i node) [
      | inl here ↦
          let path : path_in now i ≡ place.path = ap (path_in now) here ∙ new_path in
          ap (client_in now) here ∙ ap (λ (o : Option Place). option_map_or (λ p. p.client) o None) put
          ∙ client (subst IsClientPath path is) ∙ ap (λ (p : Path). Some p) (sym path)
      | inr other ↦
          ap (λ (o : Option Place). option_map_or (λ p. p.client) o None) (rest i other)
          ∙ shape.clients i (was_live i other live) (subst IsClientPath (old_path i other) is)
          ∙ ap (λ (p : Path). Some p) (sym (old_path i other))
    ];
    others = λ i path is. elim (cases_eq i node) [
      | inl here ↦
          let of = other_client path
          (sym (ap (client_in now) here ∙ ap (λ (o : Option Place). option_map_or (λ p. p.client) o None) put) ∙ is) in
          (ap (path_in now) here ∙ new_path ∙ of.0, of.1)
      | inr other ↦
          let of = shape.others i path
          (sym (ap (λ (o : Option Place). option_map_or (λ p. p.client) o None) (rest i other)) ∙ is) in
          (old_path i other ∙ of.0, of.1)
    ];
    free = free_now;
    unmarked = λ i marked.
        ap (λ (o : Option Place). is_some o) (still i (shape.unmarked i marked)) ∙ shape.unmarked i marked;
  }
