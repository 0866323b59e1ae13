use Rattle.std.proofs.Common.{get_or, refl}
use Rattle.drf_tree.specs.declared.family.Child.{Child}
use Rattle.drf_tree.proofs.keys.Stale.{stepped}
use Rattle.drf_tree.proofs.marks.Flags.{spends-both}
use Rattle.drf_tree.proofs.family.renew_keys.Goals as goal

pub loop-child-preserved : goal.loop-child-preserved
loop-child-preserved c =
    let at = c.loop-child in
    let done = c.renew_if_marked.ensures in
    let child : Child = get_or at.children at.child-index c.child-item.result in
    record {
      stepped = stepped c.args.total.now c.args.sums.now c.args.marks.now.stale at.marks.stale c.args.children.now at.children at.child-index
          child c.child-item.result at.invariant.stepped c.loop-child-test.true refl c.renew_if_marked.new.marks.stale
          c.renew_if_marked.new.self done.known done.stale done.renewed done.kept;
      spends = spends-both at.invariant.spends done.spends;
    }
