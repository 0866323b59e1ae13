use Rattle.std.proofs.Common.{ap, arith, subst, sym, ◌∙◌, ◌≡◌, ◌∷◌, ◌++◌, [], List, drop, length}
use Rattle.std.proofs.lemmas.List.{append-nil, nil_from_length}
use Rattle.drf_tree.proofs.Names.{Content, Tree, Frame, IsShapeOf, AreFrames, IsSettled, frames_queue, onward, IsTreeOf}
use Rattle.drf_tree.specs.declared.walk.Walk.{Walk}
use Rattle.drf_tree.proofs.walk.Step.{frames_onward, nobody_left, passed_on}
use Rattle.drf_tree.proofs.walk.Walk.pass.Goals.{in-Some, in_default}
use Rattle.drf_tree.proofs.walk.Walk.pass.Goals as goal

-- the rest of the walk after its last frame was moved on, for the lists in the code
pub record IsPassed (tree : Tree) (old new : List Frame) : Type 0 where
  pub frames : AreFrames tree.places.items new
  pub queue : (content : Content) → IsTreeOf content tree
      → IsSettled content tree.places.items tree.families.items old
      → frames_queue content tree new ≡ drop 1 (frames_queue content tree old)

module _ (tree : Tree) (shape : IsShapeOf tree) (old new : List Frame) (are : AreFrames tree.places.items old) where
  moved : (prefix : List Frame) (f g : Frame) → old ≡ prefix ++ f ∷ [] → g ≡ onward f → new ≡ prefix ++ g ∷ []
      → IsPassed tree old new
  moved prefix f g old_is g_is new_is =
      let all : AreFrames tree.places.items (prefix ++ f ∷ []) = subst (AreFrames tree.places.items) old_is are in
      let made : new ≡ prefix ++ onward f ∷ [] = new_is ∙ ap (λ (h : Frame). prefix ++ h ∷ []) g_is in
      record {
        frames = subst (AreFrames tree.places.items) (sym made) (frames_onward tree.places.items prefix f all);
        queue = λ content of settled.
            ap (frames_queue content tree) made
            ∙ passed_on tree shape prefix f all content of
            (subst (IsSettled content tree.places.items tree.families.items) old_is settled)
            ∙ ap (λ (fs : List Frame). drop 1 (frames_queue content tree fs)) (sym old_is);
      }

  stayed : old ≡ new ++ [] → length new ≡ 0 → IsPassed tree old new
  stayed old_is none =
      let gone : new ≡ [] = nil_from_length new none in
      let same : old ≡ new = old_is ∙ append-nil new in
      record {
        frames = subst (AreFrames tree.places.items) same are;
        queue = λ content of settled.
            ap (frames_queue content tree) gone ∙ nobody_left content tree
            ∙ ap (drop 1) (sym (ap (frames_queue content tree) (same ∙ gone) ∙ nobody_left content tree));
      }

moved_on : (tree : Tree) (old : List Frame) (new walk : Walk) → walk ≡ new → IsPassed tree old new.frames.items
    → IsPassed tree old walk.frames.items
moved_on tree old new walk same passed = subst (λ (w : Walk). IsPassed tree old w.frames.items) (sym same) passed

pub settle-requires-clause-frames : goal.settle-requires-clause-frames
settle-requires-clause-frames c =
    let tree = c.args.tree.now in
    let old = c.args.self.now.frames.items in
    elim c.match-pop.branch [
      | in-Some w ↦
          (moved_on tree old w.push.new.self c.match-pop.self w.self-is
          (moved tree c.requires.shape old w.push.new.self.frames.items c.requires.frames c.pop.new.self.items
          w.in-Some.frame w.onward.result w.in-Some.ensures.items w.onward.ensures w.push.ensures)).frames
      | in_default w ↦
          (subst (λ (x : Walk). IsPassed tree old x.frames.items) (sym w.self-is)
          (stayed tree c.requires.shape old c.pop.new.self.items c.requires.frames w.in_default.ensures.items
          (omega (arith, w.in_default.ensures.cases, c.pop.new.self.ok.0)))).frames
    ]

pub returns-clause-queue : goal.returns-clause-queue
returns-clause-queue c content of settled =
    let tree = c.args.tree.now in
    let old = c.args.self.now.frames.items in
    elim c.match-pop.branch [
      | in-Some w ↦
          c.settle.ensures.queue content of
          ∙ (moved_on tree old w.push.new.self c.match-pop.self w.self-is
          (moved tree c.requires.shape old w.push.new.self.frames.items c.requires.frames c.pop.new.self.items
          w.in-Some.frame w.onward.result w.in-Some.ensures.items w.onward.ensures w.push.ensures)).queue content of settled
      | in_default w ↦
          c.settle.ensures.queue content of
          ∙ (subst (λ (x : Walk). IsPassed tree old x.frames.items) (sym w.self-is)
          (stayed tree c.requires.shape old c.pop.new.self.items c.requires.frames w.in_default.ensures.items
          (omega (arith, w.in_default.ensures.cases, c.pop.new.self.ok.0)))).queue content of settled
    ]
