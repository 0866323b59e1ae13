use Rattle.std.proofs.Common.{ap, subst, sym, ◌∙◌, ◌≡◌, ◌∷◌, ◌++◌, [], ℕ, List}
use Rattle.drf_tree.proofs.Names.{Content, Tree, Frame, IsShapeOf, AreFrames, IsNext, IsSettled, onward, IsTreeOf}
use Rattle.drf_tree.specs.declared.walk.Next.TheVariants.{Client, End, Nobody, Node}
use Rattle.drf_tree.proofs.walk.Step.{IsStep, settled_at, step_down, step_end, step_nobody}
use Rattle.drf_tree.proofs.walk.Walk.settle.Goals as goal

-- one step of the walk, for the lists in the code
module _ (tree : Tree) (shape : IsShapeOf tree) (old prefix : List Frame) (f : Frame) (old_is : old ≡ prefix ++ f ∷ [])
    (are : AreFrames tree.places.items old) where
  all : AreFrames tree.places.items (prefix ++ f ∷ [])
  all = subst (AreFrames tree.places.items) old_is are

  between : (new new' : List Frame) → new ≡ new' → IsStep tree (prefix ++ f ∷ []) new' → IsStep tree old new
  between new new' new_is step =
      subst (λ (fs : List Frame). IsStep tree fs new) (sym old_is) (subst (IsStep tree (prefix ++ f ∷ [])) (sym new_is) step)

  ended : IsNext tree f End → IsStep tree old prefix
  ended next = subst (λ (fs : List Frame). IsStep tree fs prefix) (sym old_is) (step_end tree shape prefix f all next)

  passed : (new : List Frame) (g : Frame) → g ≡ onward f → new ≡ prefix ++ g ∷ [] → IsNext tree f Nobody → IsStep tree old new
  passed new g moved new_is next =
      between new (prefix ++ onward f ∷ []) (new_is ∙ ap (λ (h : Frame). prefix ++ h ∷ []) moved)
      (step_nobody tree shape prefix f all next)

  entered : (new mid : List Frame) (g : Frame) (i : ℕ) → g ≡ onward f → mid ≡ prefix ++ g ∷ []
      → new ≡ mid ++ record { node = i; next = 0 } ∷ [] → IsNext tree f (Node i) → IsStep tree old new
  entered new mid g i moved mid_is new_is next =
      between new ((prefix ++ onward f ∷ []) ++ record { node = i; next = 0 } ∷ [])
      (new_is ∙ ap (λ (fs : List Frame). fs ++ record { node = i; next = 0 } ∷ [])
      (mid_is ∙ ap (λ (h : Frame). prefix ++ h ∷ []) moved))
      (step_down tree shape prefix f all i next)

  stood : (new : List Frame) → new ≡ prefix ++ f ∷ [] → IsNext tree f Client → (content : Content) → IsTreeOf content tree
      → IsSettled content tree.places.items tree.families.items new
  stood new new_is next content of =
      subst (IsSettled content tree.places.items tree.families.items) (sym new_is) (settled_at tree shape prefix f all next content of)

pub loop-frame-smaller-in-End : goal.loop-frame-smaller-in-End
loop-frame-smaller-in-End c =
    (ended c.args.tree.now c.requires.shape c.loop-frame.self.frames.items c.pop.new.self.items c.in-Some.frame
    c.in-Some.ensures.items c.loop-frame.invariant.frames c.in-End.ensures).smaller

pub loop-frame-preserved-in-End : goal.loop-frame-preserved-in-End
loop-frame-preserved-in-End c =
    let step =
    ended c.args.tree.now c.requires.shape c.loop-frame.self.frames.items c.pop.new.self.items c.in-Some.frame
    c.in-Some.ensures.items c.loop-frame.invariant.frames c.in-End.ensures in
    record {
      frames = step.frames;
      queue = λ content of. step.queue content of ∙ c.loop-frame.invariant.queue content of;
    }

pub loop-frame-smaller-in-Nobody : goal.loop-frame-smaller-in-Nobody
loop-frame-smaller-in-Nobody c =
    (passed c.args.tree.now c.requires.shape c.loop-frame.self.frames.items c.pop.new.self.items c.in-Some.frame
    c.in-Some.ensures.items c.loop-frame.invariant.frames c.push.new.self.frames.items c.onward.result c.onward.ensures
    c.push.ensures c.in-Nobody.ensures).smaller

pub loop-frame-preserved-in-Nobody : goal.loop-frame-preserved-in-Nobody
loop-frame-preserved-in-Nobody c =
    let step =
    passed c.args.tree.now c.requires.shape c.loop-frame.self.frames.items c.pop.new.self.items c.in-Some.frame
    c.in-Some.ensures.items c.loop-frame.invariant.frames c.push.new.self.frames.items c.onward.result c.onward.ensures
    c.push.ensures c.in-Nobody.ensures in
    record {
      frames = step.frames;
      queue = λ content of. step.queue content of ∙ c.loop-frame.invariant.queue content of;
    }

pub loop-frame-smaller : goal.loop-frame-smaller
loop-frame-smaller c =
    (entered c.args.tree.now c.requires.shape c.loop-frame.self.frames.items c.pop.new.self.items c.in-Some.frame
    c.in-Some.ensures.items c.loop-frame.invariant.frames c.push-in-Node-2.new.self.frames.items
    c.push-in-Node.new.self.frames.items c.onward-in-Node.result c.in-Node.node c.onward-in-Node.ensures
    c.push-in-Node.ensures c.push-in-Node-2.ensures c.in-Node.ensures).smaller

pub loop-frame-preserved : goal.loop-frame-preserved
loop-frame-preserved c =
    let step =
    entered c.args.tree.now c.requires.shape c.loop-frame.self.frames.items c.pop.new.self.items c.in-Some.frame
    c.in-Some.ensures.items c.loop-frame.invariant.frames c.push-in-Node-2.new.self.frames.items
    c.push-in-Node.new.self.frames.items c.onward-in-Node.result c.in-Node.node c.onward-in-Node.ensures
    c.push-in-Node.ensures c.push-in-Node-2.ensures c.in-Node.ensures in
    record {
      frames = step.frames;
      queue = λ content of. step.queue content of ∙ c.loop-frame.invariant.queue content of;
    }

pub returns-in-Client-clause-settled : goal.returns-in-Client-clause-settled
returns-in-Client-clause-settled c =
    stood c.args.tree.now c.requires.shape c.loop-frame.self.frames.items c.pop.new.self.items c.in-Some.frame
    c.in-Some.ensures.items c.loop-frame.invariant.frames c.push-in-Client.new.self.frames.items c.push-in-Client.ensures
    c.in-Client.ensures
