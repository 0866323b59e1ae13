-- The invariant of a sorter holds after a change that keeps its places and families.
use Rattle.std.proofs.Common.{ap, arith, refl, subst, sym, ◌∙◌, ◌≡◌, Bool, true, false, cond, List, [], ◌∷◌, Option, filter, map}
use Rattle.std.proofs.lemmas.Bool.{false≢true}
use Rattle.drf_tree.proofs.Names.{Path, same_path, Content, Ranked, active_paths, with_change, ledger_content, Family, Place, Tree, Frame, family_at, path_at, IsTidy, IsTotalFree, IsTreeOf, own}
use Rattle.drf_tree.specs.declared.ledger.Ledger.{Ledger}
use Rattle.drf_tree.specs.declared.walk.Walk.{Walk}
use Rattle.drf_tree.specs.Queue.{AreFrames, IsSettled, frames_queue, most_parts, pending, queue_in}
use Rattle.drf_tree.specs.Sorter.{AreInStep}
use Rattle.drf_tree.proofs.sums.Content.{step}

-- if `is_total_free` is not set, nothing is claimed
pub total_counts : (content : Content) (tree : Tree) → false ≡ true → IsTotalFree content tree
total_counts content tree on = absurd (false≢true on)

pub kept_by : (ledger : Ledger) (content : Content) → ledger_content ledger ≡ content → (old new : Tree) (walk : Walk) (is_free : Bool)
    → IsTreeOf content new → (is_free ≡ true → IsTotalFree content new) → IsTidy content old.places.items
    → new.places ≡ old.places → new.families ≡ old.families
    → AreFrames old.places.items walk.frames.items → IsSettled content old.places.items old.families.items walk.frames.items
    → AreInStep ledger new walk is_free
kept_by ledger content is old new walk is_free of free tidy places families are settled = record {
  of_ledger = subst (λ (k : Content). IsTreeOf k new) (sym is) of;
  free = λ on. subst (λ (k : Content). IsTotalFree k new) (sym is) (free on);
  tidy = subst (λ (k : Content). IsTidy k new.places.items) (sym is) (subst (λ (v : _). IsTidy content v.items) (sym places) tidy);
  frames = subst (λ (v : _). AreFrames v.items walk.frames.items) (sym places) are;
  settled = subst (λ (k : Content). IsSettled k new.places.items new.families.items walk.frames.items) (sym is)
      (subst (λ (v : _). IsSettled content v.items new.families.items walk.frames.items) (sym places)
      (subst (λ (v : _). IsSettled content old.places.items v.items walk.frames.items) (sym families) settled));
}

-- where a walk is depends only on which clients are active
pub settled_along : (old new : Content) (places : List (Option Place)) (families : List Family) → active_paths old ≡ active_paths new
    → (frames : List Frame) → IsSettled old places families frames → IsSettled new places families frames
settled_along old new places families same [] settled = tt
settled_along old new places families same (f ∷ []) at = record {
  node = at.node;
  next = at.next;
  client = at.client;
  active = ap (λ (ps : List Path). own ps (path_at places at.node)) (sym same) ∙ at.active;
}
settled_along old new places families same (f ∷ g ∷ frames) settled =
    settled_along old new places families same (g ∷ frames) settled

-- ---- a change that keeps the paths, and which clients are active

first_active : (c : Ranked) (cs : List Ranked)
    → map (λ (d : Ranked). d.path) (filter (λ (d : Ranked). d.active) (c ∷ cs))
    ≡ cond c.active (c.path ∷ map (λ (d : Ranked). d.path) (filter (λ (d : Ranked). d.active) cs))
    (map (λ (d : Ranked). d.path) (filter (λ (d : Ranked). d.active) cs))
first_active c cs = by c.active
  where
    by : (b : Bool) → map (λ (d : Ranked). d.path) (cond b (c ∷ filter (λ (d : Ranked). d.active) cs) (filter (λ (d : Ranked). d.active) cs))
        ≡ cond b (c.path ∷ map (λ (d : Ranked). d.path) (filter (λ (d : Ranked). d.active) cs))
        (map (λ (d : Ranked). d.path) (filter (λ (d : Ranked). d.active) cs))
    by true = refl
    by false = refl

module _ (path : Path) (change : Ranked → Ranked) (paths : (c : Ranked) → (change c).path ≡ c.path)
    (actives : (c : Ranked) → (change c).active ≡ c.active) where
  step_path : (c : Ranked) → (step path change c).path ≡ c.path
  step_path c = by (same_path c.path path)
    where
      by : (b : Bool) → (cond b (change c) c).path ≡ c.path
      by true = paths c
      by false = refl

  step_active : (c : Ranked) → (step path change c).active ≡ c.active
  step_active c = by (same_path c.path path)
    where
      by : (b : Bool) → (cond b (change c) c).active ≡ c.active
      by true = actives c
      by false = refl

  active_steps : (cs : List Ranked)
      → map (λ (d : Ranked). d.path) (filter (λ (d : Ranked). d.active) (map (step path change) cs))
      ≡ map (λ (d : Ranked). d.path) (filter (λ (d : Ranked). d.active) cs)
  active_steps [] = refl
  active_steps (c ∷ cs) =
      first_active (step path change c) (map (step path change) cs)
      ∙ (λ i. cond (step_active c i) (step_path c i ∷ active_steps cs i) (active_steps cs i))
      ∙ sym (first_active c cs)

  pub active_stays : (content : Content) → active_paths (with_change content path change) ≡ active_paths content
  active_stays content = active_steps content.clients

-- a walk over the same places and families has the same clients left
pub queue_stays : (old new : Content) → active_paths new ≡ active_paths old → (tree now : Tree)
    → now.places ≡ tree.places → now.families ≡ tree.families → (frames : List Frame)
    → frames_queue new now frames ≡ frames_queue old tree frames
unfolding queue_in
queue_stays old new same tree now places families frames =
    λ i. pending (same i) (path_at (places i).items) (family_at (families i).items) most_parts frames

pub kept_along : (ledger : Ledger) (old content : Content) → ledger_content ledger ≡ content
    → active_paths content ≡ active_paths old → (tree new : Tree) (walk : Walk) (is_free : Bool)
    → IsTreeOf content new → (is_free ≡ true → IsTotalFree content new) → IsTidy content tree.places.items
    → new.places ≡ tree.places → new.families ≡ tree.families
    → AreFrames tree.places.items walk.frames.items → IsSettled old tree.places.items tree.families.items walk.frames.items
    → AreInStep ledger new walk is_free
kept_along ledger old content is same tree new walk is_free of free tidy places families are settled =
    kept_by ledger content is tree new walk is_free of free tidy places families are
    (settled_along old content tree.places.items tree.families.items (sym same) walk.frames.items settled)

-- a walk that has ended satisfies the invariant
pub stopped : (ledger : Ledger) (content : Content) → ledger_content ledger ≡ content → (tree : Tree) (walk : Walk) (is_free : Bool)
    → walk.frames.items ≡ [] → IsTreeOf content tree → (is_free ≡ true → IsTotalFree content tree) → IsTidy content tree.places.items
    → AreInStep ledger tree walk is_free
stopped ledger content is tree walk is_free none of free tidy =
    kept_by ledger content is tree tree walk is_free of free tidy refl refl
    (subst (AreFrames tree.places.items) (sym none) record { few = omega arith; nodes = tt; deep = λ k frame at. absurd cc; nested = tt })
    (subst (IsSettled content tree.places.items tree.families.items) (sym none) tt)
