use Rattle.std.proofs.Common.{◌+◌, ◌-◌, refl, arith}
use Rattle.drf_tree.proofs.keys.Turned.{turned_forward, turned_backward, turned-put, turned-sorted}
use Rattle.drf_tree.proofs.family.turn_to_place.Goals as goal

pub returns-then-place-at-clause-sorted : goal.returns-then-place-at-clause-sorted
returns-then-place-at-clause-sorted c =
    turned-sorted c.args.children.now _ c.args.at c.rank_of-place.result c.requires.within
    (λ d. turned_forward c.args.children.now c.args.at c.rank_of-place.result d (c.args.at + 1 - c.rank_of-place.result) c.rotate_right.new.self
    c.if-place-at.true c.requires.within refl c.rotate_right.ensures.after)
    c.requires.sorted c.rank_of-place.ensures.before c.rank_of-place.ensures.after

pub returns-then-place-at-clause-put : goal.returns-then-place-at-clause-put
returns-then-place-at-clause-put c =
    turned-put c.args.children.now _ c.args.at c.rank_of-place.result
    (λ d. turned_forward c.args.children.now c.args.at c.rank_of-place.result d (c.args.at + 1 - c.rank_of-place.result) c.rotate_right.new.self
    c.if-place-at.true c.requires.within refl c.rotate_right.ensures.after)

pub returns-else-place-at-clause-sorted : goal.returns-else-place-at-clause-sorted
returns-else-place-at-clause-sorted c =
    turned-sorted c.args.children.now _ c.args.at c.rank_of-place.result c.requires.within
    (λ d. turned_backward c.args.children.now c.args.at c.rank_of-place.result d (c.rank_of-place.result + 1 - c.args.at) c.rotate_left.new.self
    (omega (arith, c.if-place-at.false)) c.rank_of-place.ensures.bound refl c.rotate_left.ensures.after)
    c.requires.sorted c.rank_of-place.ensures.before c.rank_of-place.ensures.after

pub returns-else-place-at-clause-put : goal.returns-else-place-at-clause-put
returns-else-place-at-clause-put c =
    turned-put c.args.children.now _ c.args.at c.rank_of-place.result
    (λ d. turned_backward c.args.children.now c.args.at c.rank_of-place.result d (c.rank_of-place.result + 1 - c.args.at) c.rotate_left.new.self
    (omega (arith, c.if-place-at.false)) c.rank_of-place.ensures.bound refl c.rotate_left.ensures.after)
