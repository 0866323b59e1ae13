use Rattle.std.specs.Vec.{vec_capacity}
use Rattle.std.proofs.Common.{ap, arith, subst, sym, ◌∙◌, ◌≡◌, ◌<◌, ℕ, List, false, length, slice_index_or, slice_set, true}
use Rattle.std.proofs.lemmas.List.{get_or_read}
use Rattle.drf_tree.specs.Marks.{AreWaiting, Flags}
use Rattle.drf_tree.proofs.marks.Waiting.{has_room, marked_anew}
use Rattle.drf_tree.proofs.marks.Marks.mark.Goals as goal

pub push_reserved-requires : goal.push_reserved-requires
push_reserved-requires c =
    let m = c.self.inside in
    let below : c.args.node < length m.stale.items = omega (arith, c.requires, ap (λ (f : Flags). length f.stale) c.self.view_is) in
    let inside : c.args.node < length m.listed.items = omega (arith, below, c.self.invariant.long) in
    let out : slice_index_or m.listed.items c.args.node false ≡ false =
    sym (get_or_read m.listed.items c.args.node c.index.result.now inside c.index.ensures false) ∙ c.if-index.false in
    let room = has_room m.stale.items m.listed.items m.waiting.items (vec_capacity m.waiting) c.self.invariant c.args.node below out in
    omega (arith, room, m.waiting.ok.0)

pub invariant_of-self-2 : goal.invariant_of-self-2
invariant_of-self-2 c =
    let m = c.self.inside in
    let below : c.args.node < length m.stale.items = omega (arith, c.requires, ap (λ (f : Flags). length f.stale) c.self.view_is) in
    let inside : c.args.node < length m.listed.items = omega (arith, below, c.self.invariant.long) in
    let out : slice_index_or m.listed.items c.args.node false ≡ false =
    sym (get_or_read m.listed.items c.args.node c.index.result.now inside c.index.ensures false) ∙ c.if-index.false in
    let stale = slice_set m.stale.items c.args.node true in
    let listed = slice_set m.listed.items c.args.node true in
    let are =
    marked_anew m.stale.items m.listed.items m.waiting.items (vec_capacity m.waiting) c.self.invariant c.args.node below out in
    subst (λ (room : ℕ). AreWaiting stale listed c.push_reserved.new.self.items room) (sym c.push_reserved.ensures.capacity)
    (subst (λ (waiting : List ℕ). AreWaiting stale listed waiting (vec_capacity m.waiting)) (sym c.push_reserved.ensures.items) are)
