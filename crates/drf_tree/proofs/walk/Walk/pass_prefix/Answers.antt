use Rattle.std.proofs.Common.{ap, rules, subst, sym, take-append-drop, ◌∙◌, drop, take}
use Rattle.drf_sorter.specs.Passed.{IsPassedPrefix}
use Rattle.drf_sorter.proofs.theorems.PassedLaws.{one_is_prefix}
use Rattle.drf_tree.specs.Queue.{AreFrames, frames_queue}
use Rattle.drf_tree.proofs.walk.Pass.{passed_prefix}
use Rattle.drf_tree.proofs.walk.Step.{frames_prefix}
use Rattle.drf_tree.proofs.walk.Walk.pass_prefix.Goals as goal

pub settle-requires-clause-frames : goal.settle-requires-clause-frames
settle-requires-clause-frames c =
    let places = c.args.tree.now.places.items in
    let old = c.args.self.now.frames.items in
    subst (AreFrames places) (sym c.truncate.ensures.items)
    (frames_prefix places (take c.args.len old) (drop c.args.len old)
    (subst (AreFrames places) (sym (take-append-drop c.args.len old)) c.requires.frames))

pub returns-then-len-clause-queue : goal.returns-then-len-clause-queue
returns-then-len-clause-queue c content of settled =
    let tree = c.args.tree.now in
    let old = c.args.self.now.frames.items in
    subst (IsPassedPrefix c.args.len (frames_queue content tree old))
    (sym (c.settle.ensures.queue content of ∙ ap (frames_queue content tree) c.truncate.ensures.items))
    (passed_prefix tree c.requires.shape content of old c.args.len (search rules) c.requires.frames settled)

pub returns-else-len-clause-queue : goal.returns-else-len-clause-queue
returns-else-len-clause-queue c content of settled =
    let queue = frames_queue content c.args.tree.now c.args.self.now.frames.items in
    subst (IsPassedPrefix c.args.len queue) (sym (c.pass.ensures.queue content of settled)) (one_is_prefix c.args.len queue)
