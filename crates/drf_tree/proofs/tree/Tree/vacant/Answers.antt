use Rattle.std.proofs.Common.{[], arith, subst, sym, List, Option}
use Rattle.drf_tree.specs.declared.node.Place.{Place}
use Rattle.drf_tree.specs.Places.{AreTaken}
use Rattle.drf_tree.proofs.growth.Place.{taken_pushed}
use Rattle.drf_tree.proofs.growth.Vacant.{place_more, places_long, shape_more, tree_more, tree_same}
use Rattle.drf_tree.proofs.tree.Tree.vacant.Goals as goal

pub returns-in_err-push-clause-tree : goal.returns-in_err-push-clause-tree
returns-in_err-push-clause-tree c content tree =
    tree_same content c.args.self.now c.push.new.self c.in_err-push.ensures.err tree

pub returns-in_ok-push-clause-shape : goal.returns-in_ok-push-clause-shape
returns-in_ok-push-clause-shape c =
    let e = c.in_ok-push.ensures in
    shape_more c.args.self.now c.push.new.self (record { held = []; count = 0; clients = 0; active = 0; weight = 0 })
    e.places e.families e.families_long (λ i. (e.marks i).stale) e.sums c.requires.shape

pub returns-in_ok-push-clause-first : goal.returns-in_ok-push-clause-first
returns-in_ok-push-clause-first c =
    subst (λ (ps : List (Option Place)). AreTaken ps c.free_number-free.result) (sym c.in_ok-push.ensures.places)
    (taken_pushed c.args.self.now.places.items c.free_number-free.result c.free_number-free.ensures.first)

pub returns-in_ok-push-clause-long : goal.returns-in_ok-push-clause-long
returns-in_ok-push-clause-long c =
    let e = c.in_ok-push.ensures in
    let long = places_long c.args.self.now c.push.new.self (record { held = []; count = 0; clients = 0; active = 0; weight = 0 })
    e.places e.families e.families_long (λ i. (e.marks i).stale) e.sums c.requires.shape in
    omega (arith, long)

pub returns-in_ok-push-clause-places : goal.returns-in_ok-push-clause-places
returns-in_ok-push-clause-places c =
    let e = c.in_ok-push.ensures in
    place_more c.args.self.now c.push.new.self (record { held = []; count = 0; clients = 0; active = 0; weight = 0 })
    e.places e.families e.families_long (λ i. (e.marks i).stale) e.sums c.requires.shape

pub returns-in_ok-push-clause-tree : goal.returns-in_ok-push-clause-tree
returns-in_ok-push-clause-tree c content tree =
    let e = c.in_ok-push.ensures in
    tree_more c.args.self.now c.push.new.self (record { held = []; count = 0; clients = 0; active = 0; weight = 0 })
    e.places e.families e.families_long (λ i. (e.marks i).stale) e.sums c.requires.shape content tree
