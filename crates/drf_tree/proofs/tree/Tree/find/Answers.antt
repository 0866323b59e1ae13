use Rattle.std.proofs.Common.{refl, sym, ap, ◌∙◌, arith, ◌++◌, ◌∷◌, []}
use Rattle.drf_role.specs.Path.{Path}
use Rattle.drf_tree.proofs.change.Climb.{node_from_live}
use Rattle.drf_tree.proofs.shape.Find.{no_such, not_below, take_one_more, take_whole}
use Rattle.drf_tree.proofs.shape.Way.{top_is}
use Rattle.drf_tree.proofs.tree.Tree.find.Goals as goal

pub loop-i-init : goal.loop-i-init
loop-i-init g c =
    let t = c.args.self.now in
    (refl, top_is t.places.items t.families.items t.marks.stale t.sums.items c.requires)

pub returns-in_err-node-clause-every : goal.returns-in_err-node-clause-every
returns-in_err-node-clause-every g c content of some =
    absurd (not_below c.args.self.now c.requires c.loop-i.node c.loop-i.i (g.R.Route.parts c.args.route.now) c.part.result.now
    c.loop-i.invariant.0 c.loop-i.invariant.1 c.part.ensures (c.in_err-node.ensures.missing refl) content of some)

pub returns-in_err-node-clause-missing : goal.returns-in_err-node-clause-missing
returns-in_err-node-clause-missing g c none i live same =
    no_such c.args.self.now c.requires c.loop-i.node c.loop-i.i (g.R.Route.parts c.args.route.now) c.part.result.now
    c.loop-i.invariant.0 c.loop-i.invariant.1 c.part.ensures (c.in_err-node.ensures.missing refl) i live same

pub loop-i-preserved : goal.loop-i-preserved
loop-i-preserved g c =
    let t = c.args.self.now in (
      node_from_live t.places.items c.in_ok-node.node c.in_ok-node.ensures.found.0,
      c.in_ok-node.ensures.found.1
          ∙ ap (λ (p : Path). p ++ c.part.result.now ∷ []) c.loop-i.invariant.1
          ∙ sym (take_one_more (g.R.Route.parts c.args.route.now) c.loop-i.i c.part.result.now c.part.ensures),
    )

pub returns-clause-found : goal.returns-clause-found
returns-clause-found g c = (
  c.loop-i.invariant.0,
  c.loop-i.invariant.1
      ∙ take_whole (g.R.Route.parts c.args.route.now) c.loop-i.i (omega (arith, c.len-i-end.ensures, c.loop-i-test.false)),
)
