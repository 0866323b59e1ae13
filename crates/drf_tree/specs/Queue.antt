-- The clients that a walk has not passed yet.
use Rattle.std.specs.Prelude.{◌≡◌, ◌≤◌, ◌<◌, ◌+◌, ◌-◌, ◌^◌, ℕ, min, zero, suc, true, false, List, [], ◌∷◌, ◌++◌, Option, None, Some, drop, flat_map, length, slice_get}
use Rattle.std.specs.List.{AllByRecursion}
use Rattle.std.specs.Option.{is_some, option_map_or}
use Rattle.drf_role.specs.Path.{Path, begins_with}
use Rattle.drf_sorter.specs.Content.{Content, active_paths}
use Rattle.drf_tree.specs.declared.node.Place.{Place}
use Rattle.drf_tree.specs.declared.node.Sum.{Sum}
use Rattle.drf_tree.specs.declared.family.Family.{Family}
use Rattle.drf_tree.specs.declared.walk.Frame.{Frame}
use Rattle.drf_tree.specs.declared.walk.Next.{Next}
use Rattle.drf_tree.specs.declared.walk.Next.TheVariants.{Client, End, Nobody, Node}
use Rattle.drf_tree.specs.declared.tree.Tree.{Tree}
use Rattle.drf_tree.specs.Nodes.{path_at, family_at, client_at, is_node}
use Rattle.drf_tree.specs.Walk.{walk, own}

-- the frame with the next position; no family is so long that the addition saturates
abbrev pub onward : Frame → Frame
onward frame = record frame { next = min (frame.next + 1) (2 ^ 64 - 1) }

-- the clients that are left: first those of the last frame's family, then those of the frames before; the first frame is the root's
abbrev pub pending : List Path → (ℕ → Path) → (ℕ → List ℕ) → ℕ → List Frame → List Path
pending clients path family depth [] = []
pending clients path family zero (frame ∷ frames) = []
pending clients path family (suc n) (frame ∷ frames) =
    pending clients path family n frames
    ++ flat_map (walk clients path family n) (drop frame.next (family frame.node))

-- the greatest number of parts of a client's path
abbrev pub most_parts : ℕ
most_parts = 10

-- the clients that these frames have not passed yet
unfoldable pub queue_in : Content → List (Option Place) → List Family → List Frame → List Path
queue_in content places families frames =
    pending (active_paths content) (path_at places) (family_at families) most_parts frames

-- all active clients, in the order of the families
unfoldable pub order_in : Content → List (Option Place) → List Family → List Path
order_in content places families = walk (active_paths content) (path_at places) (family_at families) most_parts 0

-- the clients that these frames have not passed yet, of a tree
abbrev pub frames_queue : Content → Tree → List Frame → List Path
frames_queue content tree frames = queue_in content tree.places.items tree.families.items frames

-- the node of each frame is below those of the frames before it
abbrev pub AreNested : List (Option Place) → List Frame → Type 0
AreNested places [] = Unit {0}
AreNested places (frame ∷ frames) =
    AllByRecursion (λ f. begins_with (path_at places f.node) (path_at places frame.node) ≡ true) frames × AreNested places frames

-- the frames are at nodes, each of one part more than the one before
pub record AreFrames (places : List (Option Place)) (frames : List Frame) : Type 0 where
  pub few : length frames ≤ most_parts
  pub nodes : AllByRecursion (λ f. is_node places f.node ≡ true) frames
  pub deep : (k : ℕ) (frame : Frame) → slice_get frames k ≡ Some frame → length (path_at places frame.node) ≡ k
  pub nested : AreNested places frames

-- a frame is at an active client
pub record IsAtClient (content : Content) (places : List (Option Place)) (families : List Family) (frame : Frame) : Type 0 where
  pub node : ℕ
  pub next : slice_get (family_at families frame.node) frame.next ≡ Some node
  pub client : client_at places node ≡ Some (path_at places node)
  pub active : own (active_paths content) (path_at places node) ≡ path_at places node ∷ []

-- the last frame is at an active client, if there is any frame
abbrev pub IsSettled : Content → List (Option Place) → List Family → List Frame → Type 0
IsSettled content places families [] = Unit {0}
IsSettled content places families (frame ∷ []) = IsAtClient content places families frame
IsSettled content places families (frame ∷ other ∷ frames) = IsSettled content places families (other ∷ frames)

-- the number of active clients at and below a number
abbrev pub active_at : List Sum → ℕ → ℕ
active_at sums i = option_map_or (λ s. s.active) (slice_get sums i) 0

-- what is at the position of a frame
abbrev pub IsNext : Tree → Frame → Next → Type 0
IsNext tree frame End = slice_get (family_at tree.families.items frame.node) frame.next ≡ None
IsNext tree frame Nobody =
    (i : ℕ) × (slice_get (family_at tree.families.items frame.node) frame.next ≡ Some i) × (active_at tree.sums.items i ≡ 0)
IsNext tree frame Client =
    (i : ℕ) × (slice_get (family_at tree.families.items frame.node) frame.next ≡ Some i) × (0 < active_at tree.sums.items i)
    × (is_some (client_at tree.places.items i) ≡ true)
IsNext tree frame (Node i) =
    (slice_get (family_at tree.families.items frame.node) frame.next ≡ Some i) × (0 < active_at tree.sums.items i)
    × (is_some (client_at tree.places.items i) ≡ false)
