-- Only the nodes on the path of a client that was just added or removed can be without clients, and these are removed.
use Rattle.std.specs.List.{AllByRecursion, list_any}
use Rattle.std.specs.Option.{is_some, option_map_or}
use Rattle.std.proofs.Common.{refl, sym, ap, subst, ◌∙◌, inl, inr, arith, length-append, get_or-set_other, get_or-set_same, ◌≡◌, ◌≢◌, ◌<◌, ◌==◌, ℕ, Bool, true, false, not, ◌||◌, ◌&&◌, cond, List, [], ◌∷◌, ◌++◌, Option, None, Some, ◌⊎◌, drop, filter, length, map, slice_get, slice_set, append-nil}
use Rattle.std.proofs.lemmas.Bool.{true≢false, false≢true, cases_Bool, cases_eq, or_cases, or_right}
use Rattle.std.proofs.lemmas.List.Folds.{list_any-append}
use Rattle.drf_tree.proofs.Names.{Path, begins_with, same_path, same_path-true, Content, Ranked, has_node, with_change, with_client, without_client, Child, Place, Sum, Tree, IsShapeOf, is_bare_at, child_name, children_at, is_live, parent_at, path_at, place_at, IsOneMore, IsTidy, IsTidyBut, IsChildOf, IsTreeOf}
use Rattle.drf_tree.proofs.sums.Content.{paths_stay, step}
use Rattle.drf_tree.proofs.shape.Path.{begins_by, begins_prefix, begins_itself, begins_long, begins_to, begins_trans}
use Rattle.drf_tree.proofs.shape.Way.{above_of, equal_self, shorter_above, top_is}

-- ---- clients below a node

first_or : (a b : Bool) → a ≡ true → (a || b) ≡ true
first_or a b is = ap (λ (x : Bool). x || b) is

-- whether a node has a client depends only on the clients' paths
has_by_paths : (node : Path) (cs : List Ranked) → list_any (λ c. begins_with c.path node) cs ≡ list_any (λ p. begins_with p node) (map (λ (c : Ranked). c.path) cs)
has_by_paths node [] = refl
has_by_paths node (c ∷ cs) = ap (λ (b : Bool). begins_with c.path node || b) (has_by_paths node cs)

-- a node above one with clients has clients too
pub has_above : (content : Content) (node above : Path) → begins_with node above ≡ true → has_node content node ≡ true → has_node content above ≡ true
has_above content node above begins = by content.clients
  where
    by : (cs : List Ranked) → list_any (λ c. begins_with c.path node) cs ≡ true → list_any (λ c. begins_with c.path above) cs ≡ true
    by [] has = has
    by (c ∷ cs) has = elim (or_cases (begins_with c.path node) (list_any (λ c. begins_with c.path node) cs) has) [
      | inl here ↦ first_or (begins_with c.path above) (list_any (λ c. begins_with c.path above) cs) (begins_trans c.path node above here begins)
      | inr later ↦ or_right (begins_with c.path above) (list_any (λ c. begins_with c.path above) cs) (by cs later)
    ]

-- a change of a client that keeps its path changes nothing about this
pub has_changed : (content : Content) (path : Path) (change : Ranked → Ranked) → ((c : Ranked) → (change c).path ≡ c.path)
    → (node : Path) → has_node content node ≡ true → has_node (with_change content path change) node ≡ true
has_changed content path change keeps node has =
    has_by_paths node (map (step path change) content.clients)
    ∙ ap (list_any (λ p. begins_with p node)) (paths_stay path change keeps content.clients)
    ∙ sym (has_by_paths node content.clients) ∙ has

-- one more client
pub has_more : (content : Content) (path node : Path)
    → (has_node content node ≡ true) ⊎ (begins_with path node ≡ true) → has_node (with_client content path) node ≡ true
has_more content path node either =
    list_any-append (λ (c : Ranked). begins_with c.path node) content.clients (record { path = path; active = true; held = λ _. 0; count = 0 } ∷ [])
    ∙ (elim either [
      | inl has ↦ first_or (has_node content node) (begins_with path node || false) has
      | inr begins ↦ or_right (has_node content node) (begins_with path node || false) (first_or (begins_with path node) false begins)
    ])

-- one client fewer
abbrev others : Path → List Ranked → List Ranked
others path cs = filter (λ c. not (same_path c.path path)) cs

pub has_less : (content : Content) (path node : Path) → has_node content node ≡ true
    → (has_node (without_client content path) node ≡ true) ⊎ (begins_with path node ≡ true)
has_less content path node = by content.clients
  where
    by : (cs : List Ranked) → list_any (λ c. begins_with c.path node) cs ≡ true
        → (list_any (λ c. begins_with c.path node) (others path cs) ≡ true) ⊎ (begins_with path node ≡ true)
    by [] has = absurd (false≢true has)
    by (c ∷ cs) has = elim (cases_Bool (same_path c.path path)) [
      | inl here ↦
          elim (or_cases (begins_with c.path node) (list_any (λ c. begins_with c.path node) cs) has) [
            | inl first ↦ inr (ap (λ (p : Path). begins_with p node) (sym (same_path-true c.path path here)) ∙ first)
            | inr later ↦
                elim (by cs later) [
                  | inl still ↦
                      inl (subst (λ (b : Bool). list_any (λ c. begins_with c.path node) (cond (not b) (c ∷ others path cs) (others path cs)) ≡ true) (sym here) still)
                  | inr gone ↦ inr gone
                ]
          ]
      | inr past ↦
          elim (or_cases (begins_with c.path node) (list_any (λ c. begins_with c.path node) cs) has) [
            | inl first ↦
                inl (subst (λ (b : Bool). list_any (λ c. begins_with c.path node) (cond (not b) (c ∷ others path cs) (others path cs)) ≡ true) (sym past)
                (first_or (begins_with c.path node) (list_any (λ c. begins_with c.path node) (others path cs)) first))
            | inr later ↦
                elim (by cs later) [
                  | inl still ↦
                      inl (subst (λ (b : Bool). list_any (λ c. begins_with c.path node) (cond (not b) (c ∷ others path cs) (others path cs)) ≡ true) (sym past)
                      (or_right (begins_with c.path node) (list_any (λ c. begins_with c.path node) (others path cs)) still))
                  | inr gone ↦ inr gone
                ]
          ]
    ]

-- a node with a client below it has a client
has_some : (node : Path) (cs : List Ranked) → filter (λ c. begins_with c.path node) cs ≢ [] → list_any (λ c. begins_with c.path node) cs ≡ true
has_some node [] some = absurd (some refl)
has_some node (c ∷ cs) some = elim (cases_Bool (begins_with c.path node)) [
  | inl here ↦ first_or (begins_with c.path node) (list_any (λ c. begins_with c.path node) cs) here
  | inr past ↦
      or_right (begins_with c.path node) (list_any (λ c. begins_with c.path node) cs)
      (has_some node cs (λ none. some (subst (λ (b : Bool). cond b (c ∷ filter (λ c. begins_with c.path node) cs) (filter (λ c. begins_with c.path node) cs) ≡ []) (sym past) none)))
]

-- ---- places that stay the same

pub tidy_along : (old new : Content) (before after : List (Option Place)) → after ≡ before
    → ((node : Path) → has_node old node ≡ true → has_node new node ≡ true) → IsTidy old before → IsTidy new after
tidy_along old new before after same more tidy =
    subst (IsTidy new) (sym same) (λ i live. more (path_at before i) (tidy i live))

pub tidy_but : (content : Content) (path : Path) (places : List (Option Place)) → IsTidy content places → IsTidyBut path content places
tidy_but content path places tidy i live = inl (tidy i live)

-- ---- a node is removed

-- a prefix of a path that is not the path itself is a prefix of it without its last part
shorter_begins : (prefix node : Path) (name : _) (path : Path) → path ≡ prefix ++ name ∷ [] → begins_with path node ≡ true → node ≢ path
    → begins_with prefix node ≡ true
shorter_begins prefix node name path is begins other = by (drop (length node) path) (begins_to path node begins)
  where
    by : (rest : Path) → path ≡ node ++ rest → begins_with prefix node ≡ true
    by [] whole = absurd (other (sym (whole ∙ append-nil node)))
    by (part ∷ rest) whole = begins_prefix node rest prefix part name (sym whole ∙ is)

module _ (now new : Tree) (shape : IsShapeOf now) (node parent : ℕ) (live : is_live now.places.items node ≡ true)
    (parent_is : parent ≡ parent_at now.places.items node)
    (places : new.places.items ≡ slice_set now.places.items node None) where
  at_rest : (i : ℕ) → i ≢ node → place_at new.places.items i ≡ place_at now.places.items i
  at_rest i other = ap (λ ps. place_at ps i) places ∙ get_or-set_other now.places.items node i None None other

  abbrev path_now : ℕ → Path
  path_now i = path_at now.places.items i

  -- nodes without clients are on the path of the removed node's parent
  pub gone_tidy : (content : Content) → (node < length now.places.items) → parent ≢ node
      → IsTidyBut (path_now node) content now.places.items
      → IsTidyBut (path_at new.places.items parent) content new.places.items
  gone_tidy content within past but i is =
      let other : i ≢ node =
      λ same. true≢false (sym is ∙ ap (is_live new.places.items) same ∙ ap (λ (o : Option Place). is_some o)
      (ap (λ ps. place_at ps node) places ∙ get_or-set_same now.places.items node None None within)) in
      let was = at_rest i other in
      let path_is : path_at new.places.items i ≡ path_now i = ap (λ (o : Option Place). option_map_or (λ p. p.path) o []) was in
      let above_is : path_at new.places.items parent ≡ path_now parent =
      ap (λ (o : Option Place). option_map_or (λ p. p.path) o []) (at_rest parent past) in
      let lived : is_live now.places.items i ≡ true = ap (λ (o : Option Place). is_some o) (sym was) ∙ is in
      let longer = above_of now.places.items now.families.items now.marks.stale now.sums.items shape node live in
      elim (but i lived) [
        | inl has ↦ inl (ap (has_node content) path_is ∙ has)
        | inr begins ↦
            inr ((λ j. begins_with (above_is j) (path_is j))
            ∙ shorter_begins (path_now parent) (path_now i) longer.part (path_now node)
            (longer.joined ∙ ap (λ (k : ℕ). path_now k ++ longer.part ∷ []) (sym parent_is)) begins
            (λ same. other (shape.distinct i node lived live same)))
      ]

-- if the loop ends at the root or at a node with clients or children, all nodes have clients
pub tidy_at_root : (content : Content) (tree : Tree) → IsShapeOf tree → (node : ℕ) → node ≡ 0
    → IsTidyBut (path_at tree.places.items node) content tree.places.items → IsTidy content tree.places.items
tidy_at_root content tree shape node root but i live = elim (but i live) [
  | inl has ↦ has
  | inr begins ↦
      let at : path_at tree.places.items node ≡ [] =
      ap (path_at tree.places.items) root ∙ top_is tree.places.items tree.families.items tree.marks.stale tree.sums.items shape in
      let none : [] ≡ path_at tree.places.items i ++ drop (length (path_at tree.places.items i)) [] =
      begins_to [] (path_at tree.places.items i) (ap (λ (p : Path). begins_with p (path_at tree.places.items i)) (sym at) ∙ begins) in
      absurd (omega (
        arith,
        ap length none,
        shorter_above tree.places.items tree.families.items tree.marks.stale tree.sums.items shape i live,
        length-append (path_at tree.places.items i) (drop (length (path_at tree.places.items i)) []),
      ))
]

module _ (content : Content) (tree : Tree) (of : IsTreeOf content tree) (node : ℕ) (live : is_live tree.places.items node ≡ true)
    (but : IsTidyBut (path_at tree.places.items node) content tree.places.items) where
  abbrev path_of : ℕ → Path
  path_of i = path_at tree.places.items i

  with_clients : (option_map_or (λ s. s.clients) (slice_get tree.sums.items node) 0 == 0) ≡ false → has_node content (path_of node) ≡ true
  with_clients some = by (slice_get tree.sums.items node) refl some
    where
      by : (o : Option Sum) → slice_get tree.sums.items node ≡ o → (option_map_or (λ s. s.clients) o 0 == 0) ≡ false
          → has_node content (path_of node) ≡ true
      by None at is = absurd (true≢false (sym (equal_self 0) ∙ is))
      by (Some s) at is =
          has_some (path_of node) content.clients
          (λ none. true≢false (sym (equal_self 0) ∙ ap (λ (k : ℕ). k == 0) (sym ((of.sums node s live at).clients ∙ ap length none)) ∙ is))

  with_children : (cs : List Child) → children_at tree.families.items node ≡ cs → (length cs == 0) ≡ false → has_node content (path_of node) ≡ true
  with_children [] at is = absurd (true≢false (sym (equal_self 0) ∙ is))
  with_children (c ∷ cs) at is =
      let all = subst (AllByRecursion (IsChildOf tree.places.items node)) at (of.shape.children node) in
      let child : IsChildOf tree.places.items node c = all.0 in
      let under : begins_with (path_of c.node) (path_of node) ≡ true =
      begins_by (path_of c.node) (path_of node) (child_name c ∷ []) child.path in
      elim (but c.node child.live) [
        | inl has ↦ has_above content (path_of c.node) (path_of node) under has
        | inr begins ↦
            absurd (omega (
              arith,
              begins_long (path_of node) (path_of c.node) begins,
              ap length child.path,
              length-append (path_of node) (child_name c ∷ []),
            ))
      ]

  used : is_bare_at tree node ≡ false → has_node content (path_of node) ≡ true
  used bare = elim (cases_Bool (option_map_or (λ s. s.clients) (slice_get tree.sums.items node) 0 == 0)) [
    | inl none ↦
        with_children (children_at tree.families.items node) refl
        (subst (λ (b : Bool). (b && (length (children_at tree.families.items node) == 0)) ≡ false) none bare)
    | inr some ↦ with_clients some
  ]

  pub tidy_at_used : is_bare_at tree node ≡ false → IsTidy content tree.places.items
  tidy_at_used bare i is = elim (but i is) [
    | inl has ↦ has
    | inr begins ↦ has_above content (path_of node) (path_of i) begins (used bare)
  ]

-- ---- a node is added

-- the place that is set has this path
pub one_more : (old mid new : List (Option Place)) (node : ℕ) (place : Place) → ((i : ℕ) → place_at mid i ≡ place_at old i)
    → node < length mid → new ≡ slice_set mid node (Some place) → IsOneMore place.path old new
one_more old mid new node place same within set i live = elim (cases_eq i node) [
  | inl here ↦
      inr (ap (path_at new) here ∙ ap (λ (o : Option Place). option_map_or (λ p. p.path) o [])
      (ap (λ ps. place_at ps node) set ∙ get_or-set_same mid node (Some place) None within))
  | inr other ↦ inl (ap (λ ps. place_at ps i) set ∙ get_or-set_other mid node i (Some place) None other ∙ same i)
]

-- a node is added on a path
pub grown_but : (content : Content) (old new : List (Option Place)) (prefix path : Path) → begins_with path prefix ≡ true
    → IsOneMore path old new → IsTidyBut prefix content old → IsTidyBut path content new
grown_but content old new prefix path begins one but i live = elim (one i live) [
  | inl was ↦
      let same : path_at new i ≡ path_at old i = ap (λ (o : Option Place). option_map_or (λ p. p.path) o []) was in
      elim (but i (ap (λ (o : Option Place). is_some o) (sym was) ∙ live)) [
        | inl has ↦ inl (ap (has_node content) same ∙ has)
        | inr on ↦ inr (ap (begins_with path) same ∙ begins_trans path prefix (path_at old i) begins on)
      ]
  | inr is ↦ inr (ap (begins_with path) is ∙ begins_itself path)
]

-- the places are the same
pub but_along : (content : Content) (path : Path) (old new : List (Option Place)) → ((i : ℕ) → place_at new i ≡ place_at old i)
    → IsTidyBut path content old → IsTidyBut path content new
but_along content path old new same but i live =
    let at : path_at new i ≡ path_at old i = ap (λ (o : Option Place). option_map_or (λ p. p.path) o []) (same i) in
    elim (but i (ap (λ (o : Option Place). is_some o) (sym (same i)) ∙ live)) [
      | inl has ↦ inl (ap (has_node content) at ∙ has)
      | inr on ↦ inr (ap (begins_with path) at ∙ on)
    ]
