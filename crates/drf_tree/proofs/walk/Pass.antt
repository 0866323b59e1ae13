-- Clients that a walk passes together: those that its later frames have left.
use Rattle.std.specs.List.{AllByRecursion, list_all}
use Rattle.std.proofs.Common.{refl, sym, ap, subst, ◌∙◌, arith, length-append, take-append-drop, ◌≡◌, ◌<◌, ◌+◌, ◌-◌, ℕ, zero, suc, Bool, true, List, [], ◌∷◌, ◌++◌, Option, Some, drop, flat_map, length, slice_get, take, length-take-le}
use Rattle.std.proofs.Math.Seq.{take-append_seam}
use Rattle.std.proofs.lemmas.Bool.{and_parts}
use Rattle.std.proofs.lemmas.Option.{same_Some}
use Rattle.drf_tree.proofs.Names.{Text, Path, begins_with, each_from, each_parts, Content, active_paths, Family, Place, Tree, Frame, IsShapeOf, children_at, family_at, is_node, last_part, path_at, AreFrames, IsSettled, frames_queue, most_parts, pending, IsTreeOf, IsChild, walk}
use Rattle.drf_sorter.specs.Passed.{IsPassedPrefix}
use Rattle.drf_tree.proofs.walk.Frames.{pending_apart}
use Rattle.drf_tree.proofs.walk.Nested.{nested_parts}
use Rattle.drf_tree.proofs.shape.Node.{children_are}
use Rattle.drf_tree.proofs.shape.Path.{begins_by, begins_itself, begins_to, begins_trans}
use Rattle.drf_tree.proofs.walk.Step.{family_client, get_past, queue_is, settled_past}
use Rattle.drf_tree.proofs.walk.Below.{all_join, beneath, beneath_children}

-- ---- lists

each_drop : {X : Type 0} (P : X → Type 0) (k : ℕ) (xs : List X) → AllByRecursion P xs → AllByRecursion P (drop k xs)
each_drop P k xs all = (each_parts P (take k xs) (drop k xs) (subst (AllByRecursion P) (sym (take-append-drop k xs)) all)).1

each_passes : {X : Type 0} (p : X → Bool) (xs : List X) → list_all p xs ≡ true → AllByRecursion (λ x. p x ≡ true) xs
each_passes p [] all = tt
each_passes p (x ∷ xs) all =
    let parts = and_parts (p x) (list_all p xs) all in
    (parts.0, each_passes p xs parts.1)

first_of : {X : Type 0} (P : X → Type 0) (xs ys : List X) (x : X) → 0 < length xs → AllByRecursion P xs
    → slice_get (xs ++ ys) 0 ≡ Some x → P x
first_of P [] ys x some all at = absurd (omega (arith, some))
first_of P (y ∷ xs) ys x some all at = subst P (same_Some y x at) all.0

-- a path that begins with a node begins with its parts
takes_node : (path node : Path) → begins_with path node ≡ true → take (length node) path ≡ node
takes_node path node begins =
    ap (take (length node)) (begins_to path node begins) ∙ take-append_seam node (drop (length node) path)

-- ---- the clients that frames have left

module _ (tree : Tree) (shape : IsShapeOf tree) where
  abbrev places : List (Option Place)
  places = tree.places.items

  abbrev families : List Family
  families = tree.families.items

  abbrev kin : ℕ → List ℕ
  kin i = family_at families i

  abbrev IsNode : ℕ → Type 0
  IsNode i = is_node places i ≡ true

  abbrev name : ℕ → Text
  name i = last_part (path_at places i)

  children : (x : ℕ) → IsNode x → AllByRecursion (IsChild IsNode (path_at places) name x) (kin x)
  children x node = children_are places x (children_at families x) (shape.children x)

  -- all of them begin with a path that the frames' nodes begin with
  module _ (clients : List Path) (above : Path) where
    abbrev begins : Path → Bool
    begins p = begins_with p above

    longer : (x : ℕ) → begins (path_at places x) ≡ true → (below : Path) → begins (path_at places x ++ below) ≡ true
    longer x h below =
        begins_trans (path_at places x ++ below) (path_at places x) above
        (begins_by (path_at places x ++ below) (path_at places x) below refl) h

    family_begins : (m : ℕ) (f : Frame) → IsNode f.node → begins (path_at places f.node) ≡ true
        → list_all begins (flat_map (walk clients (path_at places) kin m) (drop f.next (kin f.node))) ≡ true
    family_begins m f node h =
        beneath_children IsNode (path_at places) name kin clients children begins m f.node (drop f.next (kin f.node))
        (each_drop (IsChild IsNode (path_at places) name f.node) f.next (kin f.node) (children f.node node))
        (longer f.node h)
        (beneath IsNode (path_at places) name kin clients children begins m)

    pending_begins : (m : ℕ) (frames : List Frame) → AllByRecursion (λ f. is_node places f.node ≡ true) frames
        → AllByRecursion (λ f. begins (path_at places f.node) ≡ true) frames
        → list_all begins (pending clients (path_at places) kin m frames) ≡ true
    pending_begins m [] nodes each = refl
    pending_begins zero (f ∷ frames) nodes each = refl
    pending_begins (suc m) (f ∷ frames) nodes each =
        all_join begins (pending clients (path_at places) kin m frames)
        (flat_map (walk clients (path_at places) kin m) (drop f.next (kin f.node)))
        (pending_begins m frames nodes.1 each.1) (family_begins m f nodes.0 each.0)

  module _ (content : Content) (of : IsTreeOf content tree) where
    abbrev Pending : ℕ → List Frame → List Path
    Pending m frames = pending (active_paths content) (path_at places) kin m frames

    -- the client at which the frames are is among them
    pending_some : (m : ℕ) (f : Frame) (frames : List Frame) → length frames < m
        → IsSettled content places families (f ∷ frames) → 0 < length (Pending m (f ∷ frames))
    pending_some zero f frames few settled = absurd (omega (arith, few))
    pending_some (suc m) f [] few at = omega (arith, ap length (family_client tree shape content of f m at))
    pending_some (suc m) f (g ∷ frames) few settled =
        omega (
          arith,
          pending_some m g frames (omega (arith, few)) settled,
          length-append (Pending m (g ∷ frames)) (flat_map (walk (active_paths content) (path_at places) kin m) (drop f.next (kin f.node))),
        )

    -- ---- the first frames stay

    module _ (kept : List Frame) (f : Frame) (later : List Frame) (are : AreFrames places (kept ++ f ∷ later))
        (settled : IsSettled content places families (kept ++ f ∷ later)) where
      abbrev node : Path
      node = path_at places f.node

      abbrev left : ℕ
      left = most_parts - length kept

      abbrev gone : List Path
      gone = Pending left (f ∷ later)

      few : length kept + length later < most_parts
      few = omega (arith, are.few, length-append kept (f ∷ later))

      deep : length node ≡ length kept
      deep = are.deep (length kept) f (get_past kept later f)

      apart : frames_queue content tree (kept ++ f ∷ later) ≡ gone ++ frames_queue content tree kept
      apart =
          queue_is content places families (kept ++ f ∷ later)
          ∙ pending_apart (active_paths content) (path_at places) kin kept (f ∷ later) left most_parts (omega (arith, few))
          ∙ ap (λ (ps : List Path). gone ++ ps) (sym (queue_is content places families kept))

      all_gone : AllByRecursion (λ p. take (length kept) p ≡ node) gone
      all_gone =
          each_from (λ p. begins_with p node ≡ true) (λ p. take (length kept) p ≡ node) gone
          (λ p begins. ap (λ (n : ℕ). take n p) (sym deep) ∙ takes_node p node begins)
          (each_passes (λ p. begins_with p node) gone
          (pending_begins (active_paths content) node left (f ∷ later)
          (each_parts (λ g. is_node places g.node ≡ true) kept (f ∷ later) are.nodes).1
          (begins_itself node, (nested_parts places kept (f ∷ later) are.nested).1.0)))

      some_gone : 0 < length gone
      some_gone =
          pending_some left f later (omega (arith, few)) (settled_past content places families kept f later settled)

      frames_left : IsPassedPrefix (length kept) (frames_queue content tree (kept ++ f ∷ later)) (frames_queue content tree kept)
      frames_left = record {
        passed = gone;
        split = apart;
        alike = λ first next.
            let same : take (length kept) first ≡ node =
            first_of (λ p. take (length kept) p ≡ node) gone (frames_queue content tree kept) first some_gone all_gone
            (ap (λ (ps : List Path). slice_get ps 0) (sym apart) ∙ next) in
            each_from (λ p. take (length kept) p ≡ node) (λ p. take (length kept) p ≡ take (length kept) first) gone
            (λ p here. here ∙ sym same) all_gone;
        some = λ first next. some_gone;
      }

    -- the number of frames that stay
    passed_at : (frames rest : List Frame) (len : ℕ) → drop len frames ≡ rest → len < length frames → AreFrames places frames
        → IsSettled content places families frames
        → IsPassedPrefix len (frames_queue content tree frames) (frames_queue content tree (take len frames))
    passed_at frames [] len is below are settled =
        absurd (omega (
          arith,
          ap length is,
          ap length (take-append-drop len frames),
          length-append (take len frames) (drop len frames),
          length-take-le len frames (omega (arith, below)),
        ))
    passed_at frames (f ∷ later) len is below are settled =
        let whole : take len frames ++ f ∷ later ≡ frames =
        ap (λ (fs : List Frame). take len frames ++ fs) (sym is) ∙ take-append-drop len frames in
        let long : length (take len frames) ≡ len = length-take-le len frames (omega (arith, below)) in
        subst (λ (n : ℕ). IsPassedPrefix n (frames_queue content tree frames) (frames_queue content tree (take len frames))) long
        (subst (λ (fs : List Frame). IsPassedPrefix (length (take len frames)) (frames_queue content tree fs) (frames_queue content tree (take len frames))) whole
        (frames_left (take len frames) f later (subst (AreFrames places) (sym whole) are)
        (subst (IsSettled content places families) (sym whole) settled)))

    pub passed_prefix : (frames : List Frame) (len : ℕ) → len < length frames → AreFrames places frames
        → IsSettled content places families frames
        → IsPassedPrefix len (frames_queue content tree frames) (frames_queue content tree (take len frames))
    passed_prefix frames len = passed_at frames (drop len frames) len refl
