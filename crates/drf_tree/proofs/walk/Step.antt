-- A step of a walk along a tree keeps the clients that are left.
use Rattle.std.specs.List.{AllByRecursion, list_any}
use Rattle.std.specs.Option.{is_some, option_map_or}
use Rattle.std.proofs.Common.{refl, sym, ap, subst, ◌∙◌, inl, inr, append_assoc, arith, length-append, ◌≡◌, ◌≤◌, ◌<◌, ◌+◌, ◌-◌, ◌==◌, ℕ, zero, suc, Bool, true, false, nat_lt, List, [], ◌∷◌, ◌++◌, Option, None, Some, ◌⊎◌, codes, drop, flat_map, length, slice_get, sum_by, append-nil}
use Rattle.std.proofs.lemmas.Bool.{false≢true, lt-ltb, or_right}
use Rattle.std.proofs.lemmas.List.Sums.{sum_by-cons}
use Rattle.std.proofs.lemmas.Option.{same_Some, slice_get_cases}
use Rattle.drf_tree.proofs.Names.{Path, IsClientPath, begins_with, each_append, each_from, each_parts, Content, active_paths, clients_under, Family, Place, Sum, Tree, Frame, IsShapeOf, children_at, client_at, family_at, is_live, is_node, last_part, path_at, IsTreeOf, own, walk}
use Rattle.drf_tree.specs.declared.walk.Next.TheVariants.{Client, End, Nobody, Node}
use Rattle.drf_tree.specs.Queue.{AreFrames, IsAtClient, IsNext, IsSettled, active_at, frames_queue, most_parts, onward, order_in, pending, queue_in}
use Rattle.drf_tree.proofs.walk.Clients.{active_in, any_below, kept_active, node_short}
use Rattle.drf_tree.proofs.walk.Frames.{drop_next, drop_past, left, left_last, pending_last, size}
use Rattle.drf_tree.proofs.walk.Nested.{IsBelow, nested_last, nested_more, nested_parts}
use Rattle.drf_tree.proofs.shape.Node.{IsMember, children_are, leaf, live_within, member, place_short}
use Rattle.drf_tree.proofs.shape.Path.{begins_by, begins_trans}
use Rattle.drf_tree.proofs.walk.Below.{own_client, own_no_client, walk_client, walk_none}

-- ---- lists by place

get_prefix : {X : Type 0} (xs ys : List X) (k : ℕ) (x : X) → slice_get xs k ≡ Some x → slice_get (xs ++ ys) k ≡ Some x
get_prefix [] ys k x some = absurd cc
get_prefix (y ∷ xs) ys zero x some = some
get_prefix (y ∷ xs) ys (suc k) x some = get_prefix xs ys k x some

pub get_past : {X : Type 0} (xs ys : List X) (x : X) → slice_get (xs ++ x ∷ ys) (length xs) ≡ Some x
get_past [] ys x = refl
get_past (y ∷ xs) ys x = get_past xs ys x

get_cases : {X : Type 0} (xs : List X) (x y : X) (k : ℕ) → slice_get (xs ++ x ∷ []) k ≡ Some y
    → (slice_get xs k ≡ Some y) ⊎ ((k ≡ length xs) × (x ≡ y))
get_cases [] x y zero some = inr (refl, same_Some x y some)
get_cases [] x y (suc k) some = absurd cc
get_cases (z ∷ xs) x y zero some = inl some
get_cases (z ∷ xs) x y (suc k) some = elim (get_cases xs x y k some) [
  | inl prefix ↦ inl prefix
  | inr last ↦ inr (omega (arith, last.0), last.1)
]

-- ---- frames

module _ (places : List (Option Place)) where
  abbrev IsAt : Frame → Type 0
  IsAt f = is_node places f.node ≡ true

  pub frames_prefix : (prefix rest : List Frame) → AreFrames places (prefix ++ rest) → AreFrames places prefix
  frames_prefix prefix rest are = record {
    few = omega (arith, are.few, length-append prefix rest);
    nodes = (each_parts IsAt prefix rest are.nodes).0;
    deep = λ k g some. are.deep k g (get_prefix prefix rest k g some);
    nested = (nested_parts places prefix rest are.nested).0;
  }

  -- the last frame is at a node below those of the others, one part deeper for each of them
  pub record IsLast (prefix : List Frame) (f : Frame) : Type 0 where
    pub node : is_node places f.node ≡ true
    pub deep : length (path_at places f.node) ≡ length prefix
    pub few : length prefix < most_parts
    pub below : AllByRecursion (λ g. IsBelow places g f) prefix

  pub frames_last : (prefix : List Frame) (f : Frame) → AreFrames places (prefix ++ f ∷ []) → IsLast prefix f
  frames_last prefix f are = record {
    node = (each_parts IsAt prefix (f ∷ []) are.nodes).1.0;
    deep = are.deep (length prefix) f (get_past prefix [] f);
    few = omega (arith, are.few, length-append prefix (f ∷ []));
    below = nested_last places prefix f are.nested;
  }

  pub frames_more : (prefix : List Frame) (f : Frame) → AreFrames places prefix → IsLast prefix f → AreFrames places (prefix ++ f ∷ [])
  frames_more prefix f are last = record {
    few = omega (arith, last.few, length-append prefix (f ∷ []));
    nodes = each_append IsAt prefix (f ∷ []) are.nodes (last.node, tt);
    deep = λ k g some. elim (get_cases prefix f g k some) [
      | inl before ↦ are.deep k g before
      | inr at ↦ ap (λ (h : Frame). length (path_at places h.node)) (sym at.1) ∙ last.deep ∙ sym at.0
    ];
    nested = nested_more places prefix f are.nested last.below;
  }

  pub frames_onward : (prefix : List Frame) (f : Frame) → AreFrames places (prefix ++ f ∷ []) → AreFrames places (prefix ++ onward f ∷ [])
  frames_onward prefix f are =
      let last = frames_last prefix f are in
      frames_more prefix (onward f) (frames_prefix prefix (f ∷ []) are)
      (record { node = last.node; deep = last.deep; few = last.few; below = last.below })

module _ (tree : Tree) (shape : IsShapeOf tree) where
  abbrev places : List (Option Place)
  places = tree.places.items

  abbrev families : List Family
  families = tree.families.items

  abbrev kin : ℕ → List ℕ
  kin i = family_at families i

  child_at : (node k i : ℕ) → slice_get (kin node) k ≡ Some i → IsMember places node i
  child_at node k i some = member places families tree.marks.stale tree.sums.items shape node k i some

  no_client : (i : ℕ) → is_live places i ≡ true → is_some (client_at places i) ≡ false → IsClientPath (path_at places i) → ◌≡◌ {A = Bool} true false
  no_client i live none client = sym (ap is_some (shape.clients i live client)) ∙ none

  pub frames_down : (prefix : List Frame) (f : Frame) (i : ℕ) → AreFrames places (prefix ++ f ∷ [])
      → slice_get (kin f.node) f.next ≡ Some i → is_some (client_at places i) ≡ false
      → AreFrames places ((prefix ++ onward f ∷ []) ++ record { node = i; next = 0 } ∷ [])
  frames_down prefix f i are some none =
      let last = frames_last places prefix f are in
      let child = child_at f.node f.next i some in
      let long : length (prefix ++ onward f ∷ []) ≡ length prefix + 1 = length-append prefix (onward f ∷ []) in
      let deep : length (path_at places i) ≡ length prefix + 1 =
      omega (arith, ap length child.path, length-append (path_at places f.node) (child.part ∷ []), last.deep) in
      let below : length (path_at places i) < most_parts =
      node_short (path_at places i) (shape.right i child.live) (no_client i child.live none) in
      let under : begins_with (path_at places i) (path_at places f.node) ≡ true =
      begins_by (path_at places i) (path_at places f.node) (child.part ∷ []) child.path in
      frames_more places (prefix ++ onward f ∷ []) (record { node = i; next = 0 }) (frames_onward places prefix f are)
      (record {
        node = or_right (i == 0) (is_live places i) child.live;
        deep = omega (arith, deep, long);
        few = omega (arith, deep, below, long);
        below = each_append (λ g. IsBelow places g (record { node = i; next = 0 })) prefix (onward f ∷ [])
            (each_from (λ g. IsBelow places g f) (λ g. IsBelow places g (record { node = i; next = 0 })) prefix
            (λ g above. begins_trans (path_at places i) (path_at places f.node) (path_at places g.node) under above) last.below)
            (under, tt);
      })

  moved_on : (f : Frame) (i : ℕ) → slice_get (kin f.node) f.next ≡ Some i → (onward f).next ≡ f.next + 1
  moved_on f i some = omega (arith, place_short families f.node f.next i some)

  -- the rest of a family
  rest_of : (f : Frame) (i : ℕ) → slice_get (kin f.node) f.next ≡ Some i
      → drop f.next (kin f.node) ≡ i ∷ drop (onward f).next (kin f.node)
  rest_of f i some =
      drop_next (kin f.node) f.next i some
      ∙ ap (λ (k : ℕ). i ∷ drop k (kin f.node)) (sym (moved_on f i some))

  -- ---- the steps that are left

  abbrev Left : List Frame → ℕ
  Left frames = left kin most_parts frames

  left_at : (prefix : List Frame) (f : Frame) (m : ℕ) → most_parts ≡ length prefix + suc m
      → Left (prefix ++ f ∷ []) ≡ 1 + sum_by (size kin m) (drop f.next (kin f.node)) + Left prefix
  left_at prefix f m deep = left_last kin prefix f m most_parts deep

  pub left_end : (prefix : List Frame) (f : Frame) → length prefix < most_parts → Left prefix < Left (prefix ++ f ∷ [])
  left_end prefix f few =
      omega (arith, left_at prefix f (most_parts - 1 - length prefix) (omega (arith, few)))

  some_size : (m i : ℕ) → 2 ≤ size kin m i
  some_size zero i = omega arith
  some_size (suc m) i = omega arith

  pub left_onward : (prefix : List Frame) (f : Frame) (i : ℕ) → length prefix < most_parts
      → slice_get (kin f.node) f.next ≡ Some i → Left (prefix ++ onward f ∷ []) < Left (prefix ++ f ∷ [])
  left_onward prefix f i few some =
      let m : ℕ = most_parts - 1 - length prefix in
      let deep : most_parts ≡ length prefix + suc m = omega (arith, few) in
      let rest : List ℕ = drop (onward f).next (kin f.node) in
      let all : sum_by (size kin m) (drop f.next (kin f.node)) ≡ size kin m i + sum_by (size kin m) rest =
      ap (sum_by (size kin m)) (rest_of f i some) ∙ sum_by-cons (size kin m) i rest in
      omega (arith, left_at prefix f m deep, left_at prefix (onward f) m deep, all, some_size m i)

  pub left_down : (prefix : List Frame) (f : Frame) (i : ℕ) → length prefix + 1 < most_parts
      → slice_get (kin f.node) f.next ≡ Some i
      → Left ((prefix ++ onward f ∷ []) ++ record { node = i; next = 0 } ∷ []) < Left (prefix ++ f ∷ [])
  left_down prefix f i few some =
      let k : ℕ = most_parts - 2 - length prefix in
      let deep : most_parts ≡ length prefix + suc (suc k) = omega (arith, few) in
      let down : most_parts ≡ length (prefix ++ onward f ∷ []) + suc k =
      omega (arith, few, length-append prefix (onward f ∷ [])) in
      let rest : List ℕ = drop (onward f).next (kin f.node) in
      let all : sum_by (size kin (suc k)) (drop f.next (kin f.node)) ≡ size kin (suc k) i + sum_by (size kin (suc k)) rest =
      ap (sum_by (size kin (suc k))) (rest_of f i some) ∙ sum_by-cons (size kin (suc k)) i rest in
      omega (
        arith,
        left_at prefix f (suc k) deep,
        left_at prefix (onward f) (suc k) deep,
        left_at (prefix ++ onward f ∷ []) (record { node = i; next = 0 }) k down,
        all,
      )

  -- ---- the clients that are left

  module _ (content : Content) (of : IsTreeOf content tree) where
    abbrev clients : List Path
    clients = active_paths content

    abbrev Walked : ℕ → ℕ → List Path
    Walked m i = walk clients (path_at places) kin m i

    abbrev Pending : List Frame → List Path
    Pending frames = pending clients (path_at places) kin most_parts frames

    right_paths : AllByRecursion IsClientPath clients
    right_paths = kept_active IsClientPath content.clients of.paths

    pending_at : (prefix : List Frame) (f : Frame) (m : ℕ) → most_parts ≡ length prefix + suc m
        → Pending (prefix ++ f ∷ []) ≡ flat_map (Walked m) (drop f.next (kin f.node)) ++ Pending prefix
    pending_at prefix f m deep = pending_last clients (path_at places) kin prefix f m most_parts deep

    -- the sum of a node says whether it has active clients
    active_is : (i : ℕ) → is_live places i ≡ true
        → active_at tree.sums.items i ≡ length (active_in (clients_under content (path_at places i)))
    active_is i live = elim (slice_get_cases tree.sums.items i).1 [
      | inl at ↦
          ap (λ (o : Option Sum). option_map_or (λ s. s.active) o 0) at.2
          ∙ (of.sums i at.0 live at.2).active
      | inr past ↦ absurd (omega (arith, past.0, live_within places i live, shape.sums_long))
    ]

    any_served : (i : ℕ) → is_live places i ≡ true
        → list_any (λ p. begins_with p (path_at places i)) clients ≡ nat_lt 0 (active_at tree.sums.items i)
    any_served i live = any_below (path_at places i) content.clients ∙ ap (nat_lt 0) (sym (active_is i live))

    nobody_below : (m i : ℕ) → is_live places i ≡ true → active_at tree.sums.items i ≡ 0 → Walked m i ≡ []
    nobody_below m i live none =
        walk_none (λ j. is_node places j ≡ true) (path_at places) (λ j. last_part (path_at places j)) kin clients
        (λ j node. children_are places j (children_at families j) (shape.children j)) m i
        (or_right (i == 0) (is_live places i) live) (any_served i live ∙ ap (nat_lt 0) none)

    pub queue_end : (prefix : List Frame) (f : Frame) → length prefix < most_parts → slice_get (kin f.node) f.next ≡ None
        → Pending prefix ≡ Pending (prefix ++ f ∷ [])
    queue_end prefix f few none =
        let m : ℕ = most_parts - 1 - length prefix in
        sym (pending_at prefix f m (omega (arith, few))
        ∙ ap (λ (is : List ℕ). flat_map (Walked m) is ++ Pending prefix) (drop_past (kin f.node) f.next none))

    pub queue_nobody : (prefix : List Frame) (f : Frame) (i : ℕ) → length prefix < most_parts
        → slice_get (kin f.node) f.next ≡ Some i → active_at tree.sums.items i ≡ 0
        → Pending (prefix ++ onward f ∷ []) ≡ Pending (prefix ++ f ∷ [])
    queue_nobody prefix f i few some none =
        let m : ℕ = most_parts - 1 - length prefix in
        let deep : most_parts ≡ length prefix + suc m = omega (arith, few) in
        let rest : List ℕ = drop (onward f).next (kin f.node) in
        let child = child_at f.node f.next i some in
        pending_at prefix (onward f) m deep
        ∙ sym (pending_at prefix f m deep
        ∙ ap (λ (is : List ℕ). flat_map (Walked m) is ++ Pending prefix) (rest_of f i some)
        ∙ ap (λ (ps : List Path). (ps ++ flat_map (Walked m) rest) ++ Pending prefix) (nobody_below m i child.live none))

    pub queue_down : (prefix : List Frame) (f : Frame) (i : ℕ) → length prefix + 1 < most_parts
        → slice_get (kin f.node) f.next ≡ Some i → is_some (client_at places i) ≡ false
        → Pending ((prefix ++ onward f ∷ []) ++ record { node = i; next = 0 } ∷ []) ≡ Pending (prefix ++ f ∷ [])
    queue_down prefix f i few some none =
        let k : ℕ = most_parts - 2 - length prefix in
        let deep : most_parts ≡ length prefix + suc (suc k) = omega (arith, few) in
        let down : most_parts ≡ length (prefix ++ onward f ∷ []) + suc k =
        omega (arith, few, length-append prefix (onward f ∷ [])) in
        let rest : List ℕ = drop (onward f).next (kin f.node) in
        let child = child_at f.node f.next i some in
        let below : List Path = flat_map (Walked k) (kin i) in
        let after : List Path = flat_map (Walked (suc k)) rest in
        let own_is : own clients (path_at places i) ≡ [] =
        own_no_client clients (path_at places i) right_paths (no_client i child.live none) in
        pending_at (prefix ++ onward f ∷ []) (record { node = i; next = 0 }) k down
        ∙ ap (λ (ps : List Path). below ++ ps) (pending_at prefix (onward f) (suc k) deep)
        ∙ sym (append_assoc below after (Pending prefix))
        ∙ sym (pending_at prefix f (suc k) deep
        ∙ ap (λ (is : List ℕ). flat_map (Walked (suc k)) is ++ Pending prefix) (rest_of f i some)
        ∙ ap (λ (ps : List Path). ((ps ++ below) ++ after) ++ Pending prefix) own_is)

    -- ---- a frame at an active client

    some_client : (o : Option Path) → is_some o ≡ true → (p : Path) × (o ≡ Some p)
    some_client (Some p) some = (p, refl)
    some_client None some = absurd (false≢true some)

    pub at_client : (f : Frame) (i : ℕ) → slice_get (kin f.node) f.next ≡ Some i → 0 < active_at tree.sums.items i
        → is_some (client_at places i) ≡ true → IsAtClient content places families f
    at_client f i some active named =
        let child = child_at f.node f.next i some in
        let found = some_client (client_at places i) named in
        let client = shape.others i found.0 found.1 in
        record {
          node = i;
          next = some;
          client = found.1 ∙ ap Some (sym client.0);
          active = own_client clients (path_at places i) (subst IsClientPath (sym client.0) client.1) right_paths
              (any_served i child.live ∙ lt-ltb 0 (active_at tree.sums.items i) active);
        }

    -- this client is the first that is left of its family
    pub family_client : (f : Frame) (m : ℕ) (at : IsAtClient content places families f)
        → flat_map (Walked m) (drop f.next (kin f.node))
        ≡ path_at places at.node ∷ flat_map (Walked m) (drop (onward f).next (kin f.node))
    family_client f m at =
        let rest : List ℕ = drop (onward f).next (kin f.node) in
        let client : IsClientPath (path_at places at.node) = (shape.others at.node (path_at places at.node) at.client).1 in
        let alone : Walked m at.node ≡ path_at places at.node ∷ [] =
        walk_client clients (path_at places) kin m at.node at.active
        (leaf places families tree.marks.stale tree.sums.items shape at.node client) in
        ap (flat_map (Walked m)) (rest_of f at.node at.next)
        ∙ ap (λ (ps : List Path). ps ++ flat_map (Walked m) rest) alone

    pub queue_client : (prefix : List Frame) (f : Frame) → length prefix < most_parts
        → (at : IsAtClient content places families f)
        → Pending (prefix ++ f ∷ []) ≡ path_at places at.node ∷ Pending (prefix ++ onward f ∷ [])
    queue_client prefix f few at =
        let m : ℕ = most_parts - 1 - length prefix in
        let deep : most_parts ≡ length prefix + suc m = omega (arith, few) in
        pending_at prefix f m deep
        ∙ ap (λ (ps : List Path). ps ++ Pending prefix) (family_client f m at)
        ∙ ap (λ (ps : List Path). path_at places at.node ∷ ps) (sym (pending_at prefix (onward f) m deep))

-- ---- the last frame

module _ (content : Content) (places : List (Option Place)) (families : List Family) where
  pub settled_past : (prefix : List Frame) (f : Frame) (rest : List Frame) → IsSettled content places families (prefix ++ f ∷ rest)
      → IsSettled content places families (f ∷ rest)
  settled_past [] f rest settled = settled
  settled_past (g ∷ []) f rest settled = settled
  settled_past (g ∷ h ∷ prefix) f rest settled = settled_past (h ∷ prefix) f rest settled

  pub settled_last : (prefix : List Frame) (f : Frame) → IsSettled content places families (prefix ++ f ∷ [])
      → IsAtClient content places families f
  settled_last prefix f settled = settled_past prefix f [] settled

  pub settled_by : (prefix : List Frame) (f : Frame) → IsAtClient content places families f
      → IsSettled content places families (prefix ++ f ∷ [])
  settled_by [] f at = at
  settled_by (g ∷ []) f at = at
  settled_by (g ∷ h ∷ prefix) f at = settled_by (h ∷ prefix) f at

  pub queue_is : (frames : List Frame)
      → queue_in content places families frames ≡ pending (active_paths content) (path_at places) (family_at families) most_parts frames
  unfolding queue_in
  queue_is frames = refl

pub nobody_left : (content : Content) (tree : Tree) → frames_queue content tree [] ≡ []
nobody_left content tree = queue_is content tree.places.items tree.families.items []

-- ---- one step

pub record IsStep (tree : Tree) (old new : List Frame) : Type 0 where
  pub frames : AreFrames tree.places.items new
  pub queue : (content : Content) → IsTreeOf content tree → frames_queue content tree new ≡ frames_queue content tree old
  pub smaller : left (family_at tree.families.items) most_parts new < left (family_at tree.families.items) most_parts old

module _ (tree : Tree) (shape : IsShapeOf tree) (prefix : List Frame) (f : Frame)
    (are : AreFrames tree.places.items (prefix ++ f ∷ [])) where
  same_queue : (content : Content) (old new : List Frame)
      → pending (active_paths content) (path_at tree.places.items) (family_at tree.families.items) most_parts new
      ≡ pending (active_paths content) (path_at tree.places.items) (family_at tree.families.items) most_parts old
      → frames_queue content tree new ≡ frames_queue content tree old
  same_queue content old new same =
      queue_is content tree.places.items tree.families.items new ∙ same
      ∙ sym (queue_is content tree.places.items tree.families.items old)

  few : length prefix < most_parts
  few = (frames_last tree.places.items prefix f are).few

  pub step_end : IsNext tree f End → IsStep tree (prefix ++ f ∷ []) prefix
  step_end none = record {
    frames = frames_prefix tree.places.items prefix (f ∷ []) are;
    queue = λ content of. same_queue content (prefix ++ f ∷ []) prefix (queue_end tree shape content of prefix f few none);
    smaller = left_end tree shape prefix f few;
  }

  pub step_nobody : IsNext tree f Nobody → IsStep tree (prefix ++ f ∷ []) (prefix ++ onward f ∷ [])
  step_nobody next = record {
    frames = frames_onward tree.places.items prefix f are;
    queue = λ content of.
        same_queue content (prefix ++ f ∷ []) (prefix ++ onward f ∷ []) (queue_nobody tree shape content of prefix f next.0 few next.1 next.2);
    smaller = left_onward tree shape prefix f next.0 few next.1;
  }

  pub step_down : (i : ℕ) → IsNext tree f (Node i)
      → IsStep tree (prefix ++ f ∷ []) ((prefix ++ onward f ∷ []) ++ record { node = i; next = 0 } ∷ [])
  step_down i next =
      let down = frames_down tree shape prefix f i are next.0 next.2 in
      let both : length (prefix ++ onward f ∷ []) < most_parts =
      (frames_last tree.places.items (prefix ++ onward f ∷ []) (record { node = i; next = 0 }) down).few in
      let deep : length prefix + 1 < most_parts = omega (arith, both, length-append prefix (onward f ∷ [])) in
      record {
        frames = down;
        queue = λ content of.
            same_queue content (prefix ++ f ∷ []) ((prefix ++ onward f ∷ []) ++ record { node = i; next = 0 } ∷ [])
            (queue_down tree shape content of prefix f i deep next.0 next.2);
        smaller = left_down tree shape prefix f i deep next.0;
      }

  -- the current client is passed
  pub passed_on : (content : Content) → IsTreeOf content tree
      → IsSettled content tree.places.items tree.families.items (prefix ++ f ∷ [])
      → frames_queue content tree (prefix ++ onward f ∷ []) ≡ drop 1 (frames_queue content tree (prefix ++ f ∷ []))
  passed_on content of settled =
      let at = settled_last content tree.places.items tree.families.items prefix f settled in
      queue_is content tree.places.items tree.families.items (prefix ++ onward f ∷ [])
      ∙ ap (drop 1)
      (sym (queue_is content tree.places.items tree.families.items (prefix ++ f ∷ []) ∙ queue_client tree shape content of prefix f few at))

  -- it is the first client that is left
  pub first_is : (content : Content) → IsTreeOf content tree
      → (settled : IsSettled content tree.places.items tree.families.items (prefix ++ f ∷ []))
      → slice_get (frames_queue content tree (prefix ++ f ∷ [])) 0
      ≡ Some (path_at tree.places.items (settled_last content tree.places.items tree.families.items prefix f settled).node)
  first_is content of settled =
      let at = settled_last content tree.places.items tree.families.items prefix f settled in
      ap (λ (ps : List Path). slice_get ps 0)
      (queue_is content tree.places.items tree.families.items (prefix ++ f ∷ []) ∙ queue_client tree shape content of prefix f few at)

  pub settled_at : IsNext tree f Client → (content : Content) → IsTreeOf content tree
      → IsSettled content tree.places.items tree.families.items (prefix ++ f ∷ [])
  settled_at next content of =
      settled_by content tree.places.items tree.families.items prefix f (at_client tree shape content of f next.0 next.1 next.2 next.3)

-- ---- the start of a walk

abbrev pub top : Frame
top = record { node = 0; next = 0 }

-- the root is not a client
pub top_queue : (tree : Tree) → IsShapeOf tree → (content : Content) → IsTreeOf content tree
    → frames_queue content tree (top ∷ []) ≡ order_in content tree.places.items tree.families.items
unfolding order_in
top_queue tree shape content of =
    let places = tree.places.items in
    let clients = active_paths content in
    let below = flat_map (walk clients (path_at places) (family_at tree.families.items) 9) (family_at tree.families.items 0) in
    let path_is : path_at places 0 ≡ [] = ap (λ (o : Option Place). option_map_or (λ p. p.path) o []) shape.root in
    let nobody : own clients (path_at places 0) ≡ [] =
    own_no_client clients (path_at places 0) (kept_active IsClientPath content.clients of.paths)
    (λ client. absurd (omega (
      arith,
      ap length path_is,
      ap length client.joined,
      length-append client.role (codes "." ∷ client.framework ∷ []),
    ))) in
    queue_is content places tree.families.items (top ∷ [])
    ∙ pending_last clients (path_at places) (family_at tree.families.items) [] top 9 most_parts refl
    ∙ append-nil below
    ∙ ap (λ (ps : List Path). ps ++ below) (sym nobody)
