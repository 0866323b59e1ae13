use Rattle.std.specs.Vec.{vec_capacity}
use Rattle.std.proofs.Common.{ap, arith, refl, subst, sym, ◌∙◌, ◌≡◌, ◌++◌, ◌∷◌, [], Bool, ℕ, List, false, slice_index_or, slice_set}
use Rattle.std.proofs.lemmas.List.{get_or_read, nil_from_length}
use Rattle.drf_tree.specs.Marks.{AreWaiting, marked_in}
use Rattle.drf_tree.proofs.marks.Flags.{down_at}
use Rattle.drf_tree.proofs.marks.Waiting.{forgotten, last_within, nobody_waits, unlisted}
use Rattle.drf_tree.proofs.marks.Marks.take.Goals as goal

pub invariant_of-self : goal.invariant_of-self
invariant_of-self c =
    let m = c.loop-node.self-inside in
    let stale = m.stale.items in
    let listed = m.listed.items in
    let room = vec_capacity m.waiting in
    let prefix = c.pop.new.self.items in
    let node = c.in-Some.node in
    let now : AreWaiting stale listed (prefix ++ node ∷ []) room =
    subst (λ (ns : List ℕ). AreWaiting stale listed ns room) c.in-Some.ensures.items c.loop-node.invariant.kept in
    subst (λ (n : ℕ). AreWaiting (slice_set stale node false) (slice_set listed node false) prefix n) (sym c.in-Some.ensures.capacity)
    (unlisted (slice_set stale node false) listed prefix node room (forgotten stale listed (prefix ++ node ∷ []) room now node)
    (down_at stale node node refl))

pub returns-then-index-clause-found : goal.returns-then-index-clause-found
returns-then-index-clause-found c =
    let m = c.loop-node.self-inside in
    let stale = m.stale.items in
    let prefix = c.pop.new.self.items in
    let node = c.in-Some.node in
    let now : AreWaiting stale m.listed.items (prefix ++ node ∷ []) (vec_capacity m.waiting) =
    subst (λ (ns : List ℕ). AreWaiting stale m.listed.items ns (vec_capacity m.waiting)) c.in-Some.ensures.items c.loop-node.invariant.kept in
    let within = last_within stale m.listed.items prefix node (vec_capacity m.waiting) now in
    ap (λ (fs : List Bool). slice_index_or fs node false) (sym c.loop-node.invariant.stale)
    ∙ sym (get_or_read stale node c.index.result.now within c.index.ensures false) ∙ c.if-index.true

pub returns-clause-clear : goal.returns-clause-clear
returns-clause-clear c =
    let m = c.loop-node.self-inside in
    let none : m.waiting.items ≡ [] = nil_from_length m.waiting.items (omega (arith, c.in_default.ensures.cases, m.waiting.ok.0)) in
    ap marked_in (sym c.loop-node.invariant.stale)
    ∙ nobody_waits m.stale.items m.listed.items m.waiting.items (vec_capacity m.waiting) c.loop-node.invariant.kept none
